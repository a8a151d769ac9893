use Rattle.class_reader.proofs.output.Entries.{table-low, table-sum, table-entries, table-room, table-put}
use Rattle.class_reader.proofs.output.Writer.table.Goals as goal

pub overflow_add-p : goal.overflow_add-p
overflow_add-p c = search table-sum

pub entries-requires : goal.entries-requires
entries-requires c = record { p_in_bounds = search table-low; p_value = search table-entries; room = search table-room }

pub returns-clause-put : goal.returns-clause-put
returns-clause-put c = search table-put
