use Rattle.resolution.proofs.configuration.Laws.{contains-laws}
use borrow.Author.Rules.{rules}
use Rattle.resolution.proofs.configuration.contains.Goals as goal

pub returns-then-i-lt512 : goal.returns-then-i-lt512
returns-then-i-lt512 c = search (contains-laws, rules)

pub returns-else-i-lt512 : goal.returns-else-i-lt512
returns-else-i-lt512 c = search (contains-laws, rules)
