use Rattle.resolution.proofs.table.Laws.{order-more}
use borrow.Author.Rules.{rules}
use Rattle.resolution.proofs.table.Laws.{order_laws}
use Rattle.resolution.proofs.table.order_names.Goals as goal

pub loop-i-preserved : goal.loop-i-preserved
loop-i-preserved c =
    order-more c.args.told c.args.set.now c.args.starts.now c.args.positions.now c.args.table.now c.loop-i.table c.loop-i.count c.loop-i.i-index c.loop-i.invariant
    c.loop-i-test.true c.entry.result c.end_of.result (search rules) (search rules) c.add_names.new.table c.add_names.result c.in_ok-count.count (search rules) c.add_names.ensures (search rules)

pub loop-i-init : goal.loop-i-init
loop-i-init c = search (order_laws, rules)
