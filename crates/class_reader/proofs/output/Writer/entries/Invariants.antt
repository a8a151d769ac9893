use Rattle.std.proofs.Common.{◌≡◌}
use Rattle.class_reader.proofs.output.Entries.{EntriesPut}
use Rattle.class_reader.proofs.output.Writer.entries.Given as goal

abbrev pub invariant-loop-i : goal.invariant-loop-i
invariant-loop-i l = record { put : EntriesPut l.initial.self.out.now l.initial.self.at l.class.file.now l.class.pool.now l.e l.n l.fn.p l.self.out.now l.self.at l.next l._i; same : l.self.out.ghost_name ≡ l.initial.self.out.ghost_name }
