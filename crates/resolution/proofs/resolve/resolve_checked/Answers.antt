use Rattle.resolution.proofs.resolve.Laws.{checked-few, checked-short, checked-laws}
use Rattle.resolution.proofs.roots.Laws.{order-unused}
use borrow.Author.Rules.{rules}
use Rattle.resolution.proofs.resolve.resolve_checked.Goals as goal

pub permitted-row-requires : goal.permitted-row-requires
permitted-row-requires c = search (checked-laws, rules)

pub resolve_order-requires : goal.resolve_order-requires
resolve_order-requires c = record { fresh = search (order-unused, checked-few, rules); request_len_bound = search rules; set_len_bound = search (checked-short, rules) }

pub slice_bounds-configure-end : goal.slice_bounds-configure-end
slice_bounds-configure-end c = search (checked-laws, rules)

pub configure-requires : goal.configure-requires
configure-requires c = search (checked-laws, rules)

pub returns-in-Open : goal.returns-in-Open
returns-in-Open c = search (checked-laws, rules)

pub returns-in-Stop : goal.returns-in-Stop
returns-in-Stop c = search (checked-laws, rules)

pub returns-in-Stop-2 : goal.returns-in-Stop-2
returns-in-Stop-2 c = search (checked-laws, rules)
