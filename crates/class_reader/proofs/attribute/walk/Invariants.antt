use Rattle.class_reader.proofs.attribute.Laws.{WalkAt}
use Rattle.class_reader.proofs.attribute.walk.Given as goal

abbrev pub invariant-loop-i : goal.invariant-loop-i
invariant-loop-i l = WalkAt l.class.file.now l.class.pool.now l.n l.at l.walked l.b l._i
