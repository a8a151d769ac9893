use Rattle.resolution.proofs.hash.Laws.{short-laws}
use borrow.Author.Rules.{rules}
use Rattle.resolution.proofs.hash.short_hash.Goals as goal

pub returns-then-n-lt8 : goal.returns-then-n-lt8
returns-then-n-lt8 c = search (short-laws, rules)

pub returns : goal.returns
returns c = search (short-laws, rules)
