use Rattle.resolution.proofs.row.Bits.{word-with-laws}
use borrow.Author.Rules.{rules}
use borrow.Author.Rules.{rules}
use Rattle.resolution.proofs.word.word_with.Goals as goal

pub returns : goal.returns
returns c = search (word-with-laws, rules)
