use Rattle.resolution.proofs.limits.Laws.{limits-laws}
use borrow.Author.Rules.{rules}
use Rattle.resolution.proofs.limits.order_limits.Goals as goal

pub overflow_add-span : goal.overflow_add-span
overflow_add-span c = search (limits-laws, rules)

pub insert_list-requires : goal.insert_list-requires
insert_list-requires c = search (limits-laws, rules)

pub returns-then-table-n : goal.returns-then-table-n
returns-then-table-n c = search (limits-laws, rules)

pub returns-then-is_list : goal.returns-then-is_list
returns-then-is_list c = search (limits-laws, rules)

pub returns-else-is_list : goal.returns-else-is_list
returns-else-is_list c = search (limits-laws, rules)

pub returns-in-None : goal.returns-in-None
returns-in-None c = search (limits-laws, rules)
