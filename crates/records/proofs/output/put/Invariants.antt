use Rattle.records.proofs.output.Written.{PutAt}
use Rattle.records.proofs.output.put.Given as goal

abbrev pub invariant-loop-i : goal.invariant-loop-i
invariant-loop-i l = PutAt l.initial.out l.at l.s l.out l.i
