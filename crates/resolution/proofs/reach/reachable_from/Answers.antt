use borrow.Author.Rules.{rules}
use Rattle.resolution.proofs.reach.Laws.{reach-laws}
use Rattle.resolution.proofs.reach.reachable_from.Goals as goal

pub loop-m-preserved-then-any_lacking : goal.loop-m-preserved-then-any_lacking
loop-m-preserved-then-any_lacking c = search (reach-laws, rules, c.in-Some.ensures)

pub loop-m-preserved : goal.loop-m-preserved
loop-m-preserved c = search (reach-laws, rules, c.in-Some.ensures)

pub returns : goal.returns
returns c = search (reach-laws, rules, c.in_default.ensures)
