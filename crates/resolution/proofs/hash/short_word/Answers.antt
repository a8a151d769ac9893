use Rattle.resolution.proofs.hash.Laws.{word_laws}
use borrow.Author.Rules.{rules}
use Rattle.resolution.proofs.hash.short_word.Goals as goal

pub returns : goal.returns
returns c = search (word_laws, rules)
