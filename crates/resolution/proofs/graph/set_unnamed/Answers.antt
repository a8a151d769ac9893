use Rattle.resolution.proofs.graph.Laws.{unnamed-laws}
use borrow.Author.Rules.{rules}
use borrow.Author.Rules.{rules}
use Rattle.resolution.proofs.graph.set_unnamed.Goals as goal

pub overflow_mul-at : goal.overflow_mul-at
overflow_mul-at c = search (unnamed-laws, rules)

pub overflow_add-at : goal.overflow_add-at
overflow_add-at c = search (unnamed-laws, rules)

pub offset_bounds-rows-at : goal.offset_bounds-rows-at
offset_bounds-rows-at c = search (unnamed-laws, rules)

pub bounds-rows-at : goal.bounds-rows-at
bounds-rows-at c = search (unnamed-laws, rules)

pub returns-in-Some : goal.returns-in-Some
returns-in-Some c = search (unnamed-laws, rules)

pub returns-in-None : goal.returns-in-None
returns-in-None c = search (unnamed-laws, rules)

pub returns-else-same : goal.returns-else-same
returns-else-same c = search (unnamed-laws, rules)
