use Rattle.resolution.proofs.limits.Roots.{roots-laws}
use borrow.Author.Rules.{rules}
use Rattle.resolution.proofs.limits.order_roots.Goals as goal

pub insert_names-requires : goal.insert_names-requires
insert_names-requires c = search (roots-laws, rules)

pub returns : goal.returns
returns c = search (roots-laws, rules)
