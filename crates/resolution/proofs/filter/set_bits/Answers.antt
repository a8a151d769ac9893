use Rattle.resolution.proofs.filter.Laws.{set-bits-is}
use borrow.Author.Rules.{rules}
use borrow.Author.Rules.{rules}
use Rattle.resolution.proofs.filter.set_bits.Goals as goal

pub returns : goal.returns
returns c = search (set-bits-is, rules)
