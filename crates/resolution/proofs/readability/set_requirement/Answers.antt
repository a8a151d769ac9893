use Rattle.resolution.proofs.readability.Laws.{requirement-laws}
use borrow.Author.Rules.{rules}
use borrow.Author.Rules.{rules}
use Rattle.resolution.proofs.readability.set_requirement.Goals as goal

pub required-requires : goal.required-requires
required-requires c = search (requirement-laws, rules)

pub required_member-found-requires : goal.required_member-found-requires
required_member-found-requires c = search (requirement-laws, rules)

pub set_edge-requires : goal.set_edge-requires
set_edge-requires c = search (requirement-laws, rules)

pub is_transitive-requires : goal.is_transitive-requires
is_transitive-requires c = search (requirement-laws, rules)

pub set_edge-requires-then-is_transitive : goal.set_edge-requires-then-is_transitive
set_edge-requires-then-is_transitive c = search (requirement-laws, rules)

pub returns-then-is_transitive : goal.returns-then-is_transitive
returns-then-is_transitive c = search (requirement-laws, rules)

pub returns-else-is_transitive : goal.returns-else-is_transitive
returns-else-is_transitive c = search (requirement-laws, rules)
