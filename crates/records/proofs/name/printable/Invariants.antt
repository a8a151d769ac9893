use Prim.Native.Nat.{◌-◌}
use Rattle.records.proofs.name.Laws.{PrintableAt}
use Rattle.records.proofs.name.printable.Given as goal

abbrev pub invariant-loop-i : goal.invariant-loop-i
invariant-loop-i l = PrintableAt l.s l.last l.good l.i

abbrev pub decreases-loop-i : goal.decreases-loop-i
decreases-loop-i l = l.last - l.i
