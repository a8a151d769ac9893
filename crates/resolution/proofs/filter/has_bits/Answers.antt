use Rattle.resolution.proofs.filter.Laws.{bits-laws}
use borrow.Author.Rules.{rules}
use Rattle.resolution.proofs.filter.has_bits.Goals as goal

pub returns-then-bit_at : goal.returns-then-bit_at
returns-then-bit_at c = search (bits-laws, rules)

pub returns-else-bit_at : goal.returns-else-bit_at
returns-else-bit_at c = search (bits-laws, rules)
