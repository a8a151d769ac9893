use Rattle.class_reader.proofs.packages.Sizes.{PackagesSize}
use Rattle.class_reader.proofs.packages.packages_size.Given as goal

abbrev pub invariant-loop-entry : goal.invariant-loop-entry
invariant-loop-entry l = PackagesSize l.file l.names l.size l.entry-index
