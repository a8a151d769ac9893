use Rattle.records.proofs.sorted.Laws.{entry-alike, entry_length}
use Rattle.records.proofs.sorted.Modules.compare_entry.Goals as goal

pub settle-requires : goal.settle-requires
settle-requires c = record { alike = search entry-alike; l_value = search entry_length }
