use Rattle.resolution.proofs.resolver.Ends.{push_laws}
use borrow.Author.Rules.{rules}
use Rattle.resolution.proofs.resolver.Resolver.push.Goals as goal

pub returns : goal.returns
returns c = search (push_laws, rules)
