use Rattle.resolution.proofs.hash.Laws.{hash-laws}
use borrow.Author.Rules.{rules}
use Rattle.resolution.proofs.hash.hash.Goals as goal

pub returns-then-s-lt16 : goal.returns-then-s-lt16
returns-then-s-lt16 c = search (hash-laws, rules)

pub long_hash-requires : goal.long_hash-requires
long_hash-requires c = search (hash-laws, rules)

pub returns : goal.returns
returns c = search (hash-laws, rules)
