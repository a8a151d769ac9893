use Rattle.resolution.proofs.row.Laws.{next-laws}
use borrow.Author.Rules.{rules}
use Rattle.resolution.proofs.reach.next_in.Goals as goal

pub returns-in-Some : goal.returns-in-Some
returns-in-Some c = search (next-laws, rules, c.in-Some.ensures)

pub loop-at-preserved : goal.loop-at-preserved
loop-at-preserved c = search (next-laws, rules, c.in_default.ensures)
