use Rattle.std.proofs.Common.{rules}
use Rattle.records.proofs.order.Laws.{place_laws}
use Rattle.records.proofs.order.place_by_halves.Goals as goal

pub loop-low-preserved-then-before : goal.loop-low-preserved-then-before
loop-low-preserved-then-before c = search (place_laws, rules)
