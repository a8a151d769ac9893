use Rattle.records.proofs.sorted.Laws.{add_laws, add-long, add-place, add-few}
use borrow.Author.Rules.{rules}
use Rattle.records.proofs.sorted.add.Goals as goal

pub put-requires : goal.put-requires
put-requires c = record { index_len = search add-long; at_bound = search add-place; index_bound = search add-few; i_lt_module_limit = search rules }

pub returns-in-Ok : goal.returns-in-Ok
returns-in-Ok c = search (add_laws, rules)

pub returns-in-Err : goal.returns-in-Err
returns-in-Err c = search (add_laws, rules)
