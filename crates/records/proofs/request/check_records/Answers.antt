use Rattle.records.proofs.request.Laws.{check_laws}
use borrow.Author.Rules.{rules}
use Rattle.records.proofs.request.check_records.Goals as goal

pub loop-mark-preserved : goal.loop-mark-preserved
loop-mark-preserved c = search (check_laws, rules)
