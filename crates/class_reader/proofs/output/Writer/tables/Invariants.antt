use Rattle.std.proofs.Common.{◌≡◌}
use Rattle.class_reader.proofs.output.Tables.{TablesPut}
use Rattle.class_reader.proofs.output.Writer.tables.Given as goal

abbrev pub invariant-loop-e : goal.invariant-loop-e
invariant-loop-e l = record { put : TablesPut l.initial.self.out.now l.initial.self.at l.class.file.now l.class.pool.now l.fn.p l.e-items l.self.out.now l.self.at l.next l.e-index; same : l.self.out.ghost_name ≡ l.initial.self.out.ghost_name }
