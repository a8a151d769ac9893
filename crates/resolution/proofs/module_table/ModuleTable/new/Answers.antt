use Rattle.resolution.proofs.module_table.Laws.{table_checked, table_lookup}
use borrow.Author.Rules.{rules}
use Rattle.resolution.proofs.module_table.ModuleTable.new.Goals as goal

pub invariant_of-result : goal.invariant_of-result
invariant_of-result c = record { checked = search (table_checked, rules); lookup = search (table_lookup, rules) }
