use Rattle.class_reader.proofs.measure.Laws.{TablesAt}
use Rattle.class_reader.proofs.measure.measure_tables.Given as goal

abbrev pub invariant-loop-e : goal.invariant-loop-e
invariant-loop-e l = TablesAt l.class.file.now l.class.pool.now l.fn.from l.e-items l.measured l.e-index
