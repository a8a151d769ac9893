use borrow.Author.Rules.{rules}
use Rattle.resolution.proofs.hash.Laws.{sums-laws}
use Rattle.resolution.proofs.hash.long_hash.Goals as goal

pub loop-k-init : goal.loop-k-init
loop-k-init c = search (sums-laws, rules)

pub loop-k-preserved : goal.loop-k-preserved
loop-k-preserved c = search (sums-laws, rules)

pub returns : goal.returns
returns c = search (sums-laws, rules)
