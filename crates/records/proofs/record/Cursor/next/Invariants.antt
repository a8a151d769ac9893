use Prim.Native.Nat.{◌-◌}
use lib.ListN.{length}
use Rattle.records.proofs.record.Bodies.{NextAt}
use Rattle.records.proofs.record.Cursor.next.Given as goal

abbrev pub invariant-loop-mark : goal.invariant-loop-mark
invariant-loop-mark l = NextAt l.wanted l.s l.initial.c.at l.c.at

abbrev pub decreases-loop-mark : goal.decreases-loop-mark
decreases-loop-mark l = length l.s - l.c.at
