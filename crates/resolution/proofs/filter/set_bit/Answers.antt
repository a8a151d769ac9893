use Rattle.resolution.proofs.filter.Laws.{set-bit-is}
use borrow.Author.Rules.{rules}
use Rattle.resolution.proofs.filter.set_bit.Goals as goal

pub returns : goal.returns
returns c = search (set-bit-is, rules)
