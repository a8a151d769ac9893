use Rattle.class_reader.proofs.pool.Table.{FillAt}
use Rattle.class_reader.proofs.pool.fill.Given as goal

abbrev pub invariant-loop-i : goal.invariant-loop-i
invariant-loop-i l = FillAt l.file l.count l.initial.table l.table l.at l.second l.i
