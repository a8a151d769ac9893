use Prim.Native.Nat.{◌-◌}
use Rattle.records.specs.Bytes.{AgreeAt}
use Rattle.records.proofs.bytes.agree.Given as goal

abbrev pub invariant-loop-i : goal.invariant-loop-i
invariant-loop-i l = AgreeAt l.a l.b l.n l.i

abbrev pub decreases-loop-i : goal.decreases-loop-i
decreases-loop-i l = l.n - l.i
