use Rattle.records.proofs.bytes.Laws.{SameInAt}
use Rattle.records.proofs.bytes.same_eight.Given as goal

abbrev pub invariant-loop-k : goal.invariant-loop-k
invariant-loop-k l = SameInAt l.a l.b l.at 8 l.equal l.k
