use Rattle.records.proofs.record.Bodies.{NthAt}
use Rattle.records.proofs.record.nth.Given as goal

abbrev pub invariant-loop : goal.invariant-loop
invariant-loop l = NthAt l.kind l.s l.k l.c.at l.counter
