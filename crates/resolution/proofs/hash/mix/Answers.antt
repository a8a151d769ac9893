use Rattle.resolution.proofs.hash.Laws.{mix-laws}
use borrow.Author.Rules.{rules}
use Rattle.resolution.proofs.hash.mix.Goals as goal

pub returns : goal.returns
returns c = search (mix-laws, rules)
