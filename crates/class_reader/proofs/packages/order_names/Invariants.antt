use Rattle.class_reader.proofs.packages.Laws.{OrderAt}
use Rattle.class_reader.proofs.packages.order_names.Given as goal

abbrev pub invariant-loop-i : goal.invariant-loop-i
invariant-loop-i l = OrderAt l.class.file.now l.class.pool.now l.n l.p l.initial.table l.table l.count l.i
