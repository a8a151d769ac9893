use Rattle.records.specs.Bytes.{AgreeAt}
use Rattle.records.proofs.bytes.differ.Given as goal

abbrev pub invariant-loop-i : goal.invariant-loop-i
invariant-loop-i l = AgreeAt l.a l.b l.n l.i
