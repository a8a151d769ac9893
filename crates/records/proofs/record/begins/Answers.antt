use borrow.Author.Rules.{rules}
use Rattle.records.proofs.record.Search.{begins_laws}
use Rattle.records.proofs.record.begins.Goals as goal

pub returns-then-not-same : goal.returns-then-not-same
returns-then-not-same c = search (begins_laws, rules)

pub loop-name-preserved : goal.loop-name-preserved
loop-name-preserved c = search (begins_laws, rules)
