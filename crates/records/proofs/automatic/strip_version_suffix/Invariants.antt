use Rattle.records.proofs.automatic.Derivation.{VersionAt}
use Rattle.records.proofs.automatic.strip_version_suffix.Given as goal

abbrev pub invariant-loop-i : goal.invariant-loop-i
invariant-loop-i l = VersionAt l.s l.i
