use Rattle.resolution.proofs.configure.Limit.{permitted_laws}
use borrow.Author.Rules.{rules}
use Rattle.resolution.proofs.configure.permitted.Goals as goal

pub next-requires : goal.next-requires
next-requires c = search (permitted_laws, rules)

pub permitted_by-requires : goal.permitted_by-requires
permitted_by-requires c = search (permitted_laws, rules)

pub visible-requires : goal.visible-requires
visible-requires c = search (permitted_laws, rules)

pub returns-in-Some : goal.returns-in-Some
returns-in-Some c = search (permitted_laws, rules)

pub returns-in-None : goal.returns-in-None
returns-in-None c = search (permitted_laws, rules)
