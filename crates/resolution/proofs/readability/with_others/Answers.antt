use borrow.Author.Rules.{rules}
use Rattle.resolution.proofs.readability.Laws.{others-laws}
use Rattle.resolution.proofs.readability.with_others.Goals as goal

pub loop-k-init : goal.loop-k-init
loop-k-init c = search (others-laws, rules)

pub overflow_add-k : goal.overflow_add-k
overflow_add-k c = search (others-laws, rules)

pub has-requires : goal.has-requires
has-requires c = search (others-laws, rules)

pub with-out-requires : goal.with-out-requires
with-out-requires c = search (others-laws, rules)

pub loop-k-smaller-then-has : goal.loop-k-smaller-then-has
loop-k-smaller-then-has c = search (others-laws, rules)

pub loop-k-preserved-then-has : goal.loop-k-preserved-then-has
loop-k-preserved-then-has c = search (others-laws, rules)

pub loop-k-smaller-else-has : goal.loop-k-smaller-else-has
loop-k-smaller-else-has c = search (others-laws, rules)

pub loop-k-preserved-else-has : goal.loop-k-preserved-else-has
loop-k-preserved-else-has c = search (others-laws, rules)

pub loop-k-smaller : goal.loop-k-smaller
loop-k-smaller c = search (others-laws, rules)

pub loop-k-preserved : goal.loop-k-preserved
loop-k-preserved c = search (others-laws, rules)

pub returns : goal.returns
returns c = search (others-laws, rules)
