use Rattle.class_reader.proofs.packages.Laws.{order-laws}
use borrow.Author.Rules.{rules}
use Rattle.class_reader.proofs.packages.order_names.Goals as goal

pub loop-i-init : goal.loop-i-init
loop-i-init c = search (order-laws, rules)

pub insert-count-requires : goal.insert-count-requires
insert-count-requires c = search (order-laws, rules)

pub loop-i-preserved : goal.loop-i-preserved
loop-i-preserved c = search (order-laws, rules)

pub returns : goal.returns
returns c = search (order-laws, rules)
