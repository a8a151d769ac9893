use Rattle.class_reader.proofs.entry.Laws.{NamesLeft}
use Rattle.class_reader.proofs.entry.names_size.Given as goal

abbrev pub invariant-loop-i : goal.invariant-loop-i
invariant-loop-i l = NamesLeft l.class.file.now l.class.pool.now l.tag l.n l.p l.size l.i
