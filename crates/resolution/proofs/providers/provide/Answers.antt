use Rattle.resolution.proofs.providers.Laws.{provide_laws}
use borrow.Author.Rules.{rules}
use Rattle.resolution.proofs.providers.provide.Goals as goal

pub offer-requires-clause-binding : goal.offer-requires-clause-binding
offer-requires-clause-binding c = search (provide_laws, rules)

pub loop-i-preserved : goal.loop-i-preserved
loop-i-preserved c = search (provide_laws, rules)

pub returns : goal.returns
returns c = search (provide_laws, rules)
