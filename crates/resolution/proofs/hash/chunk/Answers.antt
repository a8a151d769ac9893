use Rattle.resolution.proofs.hash.Laws.{chunk-is}
use borrow.Author.Rules.{rules}
use Rattle.resolution.proofs.hash.chunk.Goals as goal

pub returns : goal.returns
returns c = search (chunk-is, rules)
