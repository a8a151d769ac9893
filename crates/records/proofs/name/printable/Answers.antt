use Rattle.records.proofs.name.Laws.{printable_laws}
use borrow.Author.Rules.{rules}
use Rattle.records.proofs.name.printable.Goals as goal

pub loop-i-preserved : goal.loop-i-preserved
loop-i-preserved c = search (printable_laws, rules)

pub returns : goal.returns
returns c = search (printable_laws, rules)
