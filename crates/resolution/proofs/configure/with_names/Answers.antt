use Rattle.resolution.proofs.configure.Limit.{names-laws}
use borrow.Author.Rules.{rules}
use Rattle.resolution.proofs.configure.with_names.Goals as goal

pub loop-preserved : goal.loop-preserved
loop-preserved c = search (names-laws, rules)

pub returns : goal.returns
returns c = search (names-laws, rules)
