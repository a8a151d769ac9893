use Rattle.resolution.proofs.configuration.Laws.{reads-laws}
use borrow.Author.Rules.{rules}
use Rattle.resolution.proofs.configuration.reads.Goals as goal
use Rattle.resolution.proofs.configuration.reads.Goals.{then-i-lt512, else-i-lt512}

pub returns-then-j-lt512 : goal.returns-then-j-lt512
returns-then-j-lt512 c = search (reads-laws, rules)

pub returns-else-j-lt512 : goal.returns-else-j-lt512
returns-else-j-lt512 c = elim c.if-i-lt512.branch [ then-i-lt512 w ↦ search (reads-laws, rules) | else-i-lt512 w ↦ search (reads-laws, rules) ]
