use Rattle.resolution.proofs.roots.Laws.{order_laws, order_running, order-few, order-later}
use borrow.Author.Rules.{rules}
use Rattle.resolution.proofs.roots.resolve_from.Goals as goal

pub slice_bounds-resolve_first-end : goal.slice_bounds-resolve_first-end
slice_bounds-resolve_first-end c = search (order_laws, rules)

pub resolve_first-requires : goal.resolve_first-requires
resolve_first-requires c = record { fresh = search rules; request_len_bound = search rules; set_len_bound = search rules; packages_len = search rules }

pub first_of-old-requires : goal.first_of-old-requires
first_of-old-requires c = search (order_laws, rules)

pub slice_bounds-make_rounds-end : goal.slice_bounds-make_rounds-end
slice_bounds-make_rounds-end c = search (order_laws, rules)

pub make_rounds-requires : goal.make_rounds-requires
make_rounds-requires c = record { later = search (order-later, order-few, c.requires.tables, c.requires.request_len_bound, rules); running = search (order_running, rules) }

pub returns : goal.returns
returns c = search (order_laws, rules)
