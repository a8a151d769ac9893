use Rattle.records.proofs.bytes.Laws.{before_laws}
use borrow.Author.Rules.{rules}
use Rattle.records.proofs.bytes.before.Goals as goal

pub returns : goal.returns
returns c = search (before_laws, rules)
