use Rattle.resolution.proofs.graph.Laws.{set-edge-laws}
use borrow.Author.Rules.{rules}
use borrow.Author.Rules.{rules}
use Rattle.resolution.proofs.graph.set_edge.Goals as goal

pub overflow_mul-at : goal.overflow_mul-at
overflow_mul-at c = search (set-edge-laws, rules)

pub overflow_add-end : goal.overflow_add-end
overflow_add-end c = search (set-edge-laws, rules)

pub offset_bounds-rows-at : goal.offset_bounds-rows-at
offset_bounds-rows-at c = search (set-edge-laws, rules)

pub slice_bounds-add_read-count : goal.slice_bounds-add_read-count
slice_bounds-add_read-count c = search (set-edge-laws, rules)

pub slice_bounds-add_read-start : goal.slice_bounds-add_read-start
slice_bounds-add_read-start c = search (set-edge-laws, rules)

pub slice_bounds-add_read-end : goal.slice_bounds-add_read-end
slice_bounds-add_read-end c = search (set-edge-laws, rules)

pub add_read-requires : goal.add_read-requires
add_read-requires c = search (set-edge-laws, rules)

pub returns-in-Some : goal.returns-in-Some
returns-in-Some c = search (set-edge-laws, rules)

pub returns-in-None : goal.returns-in-None
returns-in-None c = search (set-edge-laws, rules)
