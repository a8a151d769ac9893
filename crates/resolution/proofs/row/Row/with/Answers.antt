use Rattle.resolution.proofs.row.Laws.{with-laws}
use borrow.Author.Rules.{rules}
use Rattle.resolution.proofs.row.Row.with.Goals as goal

pub returns-after-loop-q : goal.returns-after-loop-q
returns-after-loop-q c = search (with-laws, rules)

pub returns-else-k-lt512 : goal.returns-else-k-lt512
returns-else-k-lt512 c = search (with-laws, rules)

pub returns-after-loop-q-then-k-lt512 : goal.returns-after-loop-q-then-k-lt512
returns-after-loop-q-then-k-lt512 c = search (with-laws, rules)
