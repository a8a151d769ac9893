use Rattle.resolution.proofs.resolver.Ends.{enqueue_laws}
use borrow.Author.Rules.{rules}
use Rattle.resolution.proofs.resolver.Resolver.enqueue.Goals as goal

pub returns-in-Stop : goal.returns-in-Stop
returns-in-Stop c = search (enqueue_laws, rules)

pub returns-in-Refuse : goal.returns-in-Refuse
returns-in-Refuse c = search (enqueue_laws, rules)
