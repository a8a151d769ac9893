use Rattle.resolution.proofs.graph.Edges.{any_lacking_laws}
use borrow.Author.Rules.{rules}
use Rattle.resolution.proofs.graph.any_lacking.Goals as goal

pub returns-then-m-ge512 : goal.returns-then-m-ge512
returns-then-m-ge512 c = search (any_lacking_laws, rules)

pub loop-k-preserved : goal.loop-k-preserved
loop-k-preserved c = search (any_lacking_laws, rules)

pub returns : goal.returns
returns c = search (any_lacking_laws, rules)
