use Rattle.records.proofs.automatic.Parts.{PartsAt}
use Rattle.records.proofs.automatic.validate_module_name.Given as goal

abbrev pub invariant-loop-i : goal.invariant-loop-i
invariant-loop-i l = PartsAt l.s l.first l.i
