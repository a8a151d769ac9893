use Rattle.resolution.proofs.row.Bits.{bit-shift}
use borrow.Author.Rules.{rules}
use Rattle.resolution.proofs.word.word_has.Goals as goal

pub returns : goal.returns
returns c = search (bit-shift, rules)
