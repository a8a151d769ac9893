use Rattle.records.proofs.name.Laws.{MemAt}
use Rattle.records.proofs.name.has_name.Given as goal

abbrev pub invariant-loop : goal.invariant-loop
invariant-loop l = MemAt l.name l.s l.count l.t l.counter
