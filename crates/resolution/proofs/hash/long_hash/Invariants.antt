use Rattle.resolution.proofs.hash.Laws.{SumsAt}
use Rattle.resolution.proofs.hash.long_hash.Given as goal

abbrev pub invariant-loop-k : goal.invariant-loop-k
invariant-loop-k l = SumsAt l.s l.m l.a l.b l.k
