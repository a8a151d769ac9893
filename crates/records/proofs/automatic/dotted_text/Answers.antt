use Rattle.records.proofs.automatic.Dots.{dots_laws}
use borrow.Author.Rules.{rules}
use Rattle.records.proofs.automatic.dotted_text.Goals as goal

pub loop-i-preserved : goal.loop-i-preserved
loop-i-preserved c = search (dots_laws, rules)
