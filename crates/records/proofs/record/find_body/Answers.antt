use borrow.Author.Rules.{rules}
use Rattle.records.proofs.record.Search.{first_laws}
use Rattle.records.proofs.record.find_body.Goals as goal

pub loop-span-preserved : goal.loop-span-preserved
loop-span-preserved c = search (first_laws, rules)
