use Rattle.resolution.proofs.configuration.Laws.{row-of-laws}
use borrow.Author.Rules.{rules}
use Rattle.resolution.proofs.configuration.row_of.Goals as goal

pub returns-then-i-lt512 : goal.returns-then-i-lt512
returns-then-i-lt512 c = search (row-of-laws, rules)

pub returns : goal.returns
returns c = search (row-of-laws, rules)
