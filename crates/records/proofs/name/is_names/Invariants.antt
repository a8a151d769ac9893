use Rattle.records.proofs.name.Laws.{NamesAt}
use Rattle.records.proofs.name.is_names.Given as goal

abbrev pub invariant-loop : goal.invariant-loop
invariant-loop l = NamesAt l.s l.count l.t l.counter
