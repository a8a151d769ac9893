use Rattle.resolution.proofs.roots.Laws.{front_laws}
use borrow.Author.Rules.{rules}
use Rattle.resolution.proofs.roots.front.Goals as goal

pub returns-then-has_named : goal.returns-then-has_named
returns-then-has_named c = search (front_laws, rules)

pub enqueue-requires-clause-ready : goal.enqueue-requires-clause-ready
enqueue-requires-clause-ready c = search (front_laws, rules)
