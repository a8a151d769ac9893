use Rattle.resolution.proofs.configuration.Laws.{unnamed-laws}
use borrow.Author.Rules.{rules}
use Rattle.resolution.proofs.configuration.reads_unnamed.Goals as goal

pub returns-then-i-lt512 : goal.returns-then-i-lt512
returns-then-i-lt512 c = search (unnamed-laws, rules)

pub returns-else-i-lt512 : goal.returns-else-i-lt512
returns-else-i-lt512 c = search (unnamed-laws, rules)
