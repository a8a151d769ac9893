use Rattle.resolution.proofs.readability.Laws.{base-laws}
use borrow.Author.Rules.{rules}
use borrow.Author.Rules.{rules}
use Rattle.resolution.proofs.readability.set_base.Goals as goal

pub name-requires : goal.name-requires
name-requires c = search (base-laws, rules)

pub same-requires : goal.same-requires
same-requires c = search (base-laws, rules)

pub returns-then-same : goal.returns-then-same
returns-then-same c = search (base-laws, rules)

pub set_edge-requires : goal.set_edge-requires
set_edge-requires c = search (base-laws, rules)

pub returns : goal.returns
returns c = search (base-laws, rules)
