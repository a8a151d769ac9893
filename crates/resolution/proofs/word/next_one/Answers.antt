use Rattle.resolution.proofs.row.Bits.{next-one-laws}
use borrow.Author.Rules.{rules}
use Rattle.resolution.proofs.word.next_one.Goals as goal

pub returns-then-r-lt64 : goal.returns-then-r-lt64
returns-then-r-lt64 c = search (next-one-laws, rules)

pub returns-else-r-lt64 : goal.returns-else-r-lt64
returns-else-r-lt64 c = search (next-one-laws, rules)
