use Rattle.records.proofs.output.Sizes.{SizeAt}
use Rattle.records.proofs.output.size.Given as goal

abbrev pub invariant-loop-entry : goal.invariant-loop-entry
invariant-loop-entry l = SizeAt l.packages l.table l.count l.n l.entry-index
