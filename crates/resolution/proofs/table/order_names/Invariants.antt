use Rattle.resolution.proofs.table.Laws.{OrderAt}
use Rattle.resolution.proofs.table.order_names.Given as goal

abbrev pub invariant-loop-i : goal.invariant-loop-i
invariant-loop-i l = OrderAt l.told l.set l.starts l.positions l.initial.table l.table l.count l.i-index
