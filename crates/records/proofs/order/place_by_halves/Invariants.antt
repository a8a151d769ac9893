use Prim.Native.Nat.{◌-◌}
use Rattle.records.proofs.order.Laws.{PlaceAt}
use Rattle.records.proofs.order.place_by_halves.Given as goal

abbrev pub invariant-loop-low : goal.invariant-loop-low
invariant-loop-low l = PlaceAt l.s l.table l.name l.low l.high

abbrev pub decreases-loop-low : goal.decreases-loop-low
decreases-loop-low l = l.high - l.low
