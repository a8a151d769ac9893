use Rattle.resolution.proofs.resolver.Runs.{run_laws}
use borrow.Author.Rules.{rules}
use Rattle.resolution.proofs.resolver.Resolver.run.Goals as goal

pub loop-self-smaller : goal.loop-self-smaller
loop-self-smaller c = search (run_laws, rules)

pub loop-self-preserved : goal.loop-self-preserved
loop-self-preserved c = search (run_laws, rules)

pub returns-clause-ran : goal.returns-clause-ran
returns-clause-ran c = search (run_laws, rules)
