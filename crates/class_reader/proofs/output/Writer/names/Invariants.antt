use Rattle.std.proofs.Common.{◌≡◌}
use Rattle.class_reader.proofs.output.Names.{NamesPut}
use Rattle.class_reader.proofs.output.Writer.names.Given as goal

abbrev pub invariant-loop-i : goal.invariant-loop-i
invariant-loop-i l = record { put : NamesPut l.initial.self.out.now l.initial.self.at l.class.file.now l.class.pool.now l.n l.p l.self.out.now l.self.at l.i; same : l.self.out.ghost_name ≡ l.initial.self.out.ghost_name }
