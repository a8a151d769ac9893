use Rattle.records.proofs.automatic.Derivation.{FileAt}
use Rattle.records.proofs.automatic.file_name.Given as goal

abbrev pub invariant-loop-i : goal.invariant-loop-i
invariant-loop-i l = FileAt l.s l.i
