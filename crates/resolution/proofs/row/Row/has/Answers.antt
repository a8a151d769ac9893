use Rattle.resolution.proofs.row.Laws.{has-laws}
use borrow.Author.Rules.{rules}
use Rattle.resolution.proofs.row.Row.has.Goals as goal

pub returns-then-k-lt512 : goal.returns-then-k-lt512
returns-then-k-lt512 c = search (has-laws, rules)

pub returns-else-k-lt512 : goal.returns-else-k-lt512
returns-else-k-lt512 c = search (has-laws, rules)
