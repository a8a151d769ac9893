use Rattle.records.proofs.output.Sizes.{size_laws}
use borrow.Author.Rules.{rules}
use Rattle.records.proofs.output.size.Goals as goal

pub overflow_add-n-in-loop-entry : goal.overflow_add-n-in-loop-entry
overflow_add-n-in-loop-entry c = search (size_laws, rules)

pub loop-entry-preserved : goal.loop-entry-preserved
loop-entry-preserved c = search (size_laws, rules)

pub returns-clause-value : goal.returns-clause-value
returns-clause-value c = search (size_laws, rules)
