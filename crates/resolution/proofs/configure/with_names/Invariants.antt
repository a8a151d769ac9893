use Rattle.resolution.specs.ModuleTable.{names_in}
use Rattle.resolution.proofs.configure.Limit.{NamesAt}
use Rattle.resolution.proofs.configure.with_names.Given as goal

abbrev pub invariant-loop : goal.invariant-loop
invariant-loop l = NamesAt (names_in l.table) l.s l.n l.initial.out.words l.out.words l.rest l.counter
