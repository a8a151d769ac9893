use Rattle.records.proofs.jar.Laws.{fitted_laws, fitted-room}
use borrow.Author.Rules.{rules}
use Rattle.records.proofs.jar.write_ordered.Goals as goal

pub write_records-requires : goal.write_records-requires
write_records-requires c = record { count_in_bounds = search rules; table_in_bounds = search fitted-room; name_len_bound = search rules; table_value = search rules }

pub returns-then-out-n : goal.returns-then-out-n
returns-then-out-n c = search (fitted_laws, rules)

pub returns : goal.returns
returns c = search (fitted_laws, rules)
