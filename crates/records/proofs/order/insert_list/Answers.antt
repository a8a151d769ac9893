use Rattle.records.proofs.order.Lists.{list_laws}
use borrow.Author.Rules.{rules}
use Rattle.records.proofs.order.insert_list.Goals as goal

pub loop-init : goal.loop-init
loop-init c = search (list_laws, rules)

pub loop-preserved : goal.loop-preserved
loop-preserved c = search (list_laws, rules)
