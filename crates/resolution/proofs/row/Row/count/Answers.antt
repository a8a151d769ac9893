use Rattle.resolution.proofs.row.Laws.{count-laws}
use borrow.Author.Rules.{rules}
use Rattle.resolution.proofs.row.Row.count.Goals as goal

pub loop-word-init : goal.loop-word-init
loop-word-init c = search (count-laws, rules)

pub loop-word-preserved : goal.loop-word-preserved
loop-word-preserved c = search (count-laws, rules)

pub returns : goal.returns
returns c = search (count-laws, rules)
