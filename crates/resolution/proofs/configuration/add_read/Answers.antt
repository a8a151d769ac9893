use Rattle.resolution.proofs.configuration.Laws.{add-read-laws}
use borrow.Author.Rules.{rules}
use Rattle.resolution.proofs.configuration.add_read.Goals as goal
use Rattle.resolution.proofs.configuration.add_read.Goals.{else-j-lt512-via-then-j-lt512+else-at-row, else-j-lt512-via-else-j-lt512}

pub returns-then-at-row : goal.returns-then-at-row
returns-then-at-row c = search (add-read-laws, rules)

pub returns-else-j-lt512 : goal.returns-else-j-lt512
returns-else-j-lt512 c = elim c.else-j-lt512.branch [ else-j-lt512-via-then-j-lt512+else-at-row w ↦ search (add-read-laws, rules) | else-j-lt512-via-else-j-lt512 w ↦ search (add-read-laws, rules) ]
