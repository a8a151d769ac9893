use Rattle.class_reader.proofs.measure.Laws.{MeasureAt}
use Rattle.class_reader.proofs.measure.measure.Given as goal

abbrev pub invariant-loop-i : goal.invariant-loop-i
invariant-loop-i l = MeasureAt l.class.file.now l.class.pool.now l.e l.n l.fn.from l.measured l._i
