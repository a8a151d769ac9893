use borrow.Author.Rules.{rules}
use Rattle.records.proofs.bytes.Laws.{differ_next}
use Rattle.records.proofs.bytes.differ.Goals as goal

pub loop-i-preserved : goal.loop-i-preserved
loop-i-preserved c = search (differ_next, rules)
