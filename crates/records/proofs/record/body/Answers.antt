use Rattle.records.proofs.record.Bodies.{body_laws}
use borrow.Author.Rules.{rules}
use Rattle.records.proofs.record.body.Goals as goal

pub returns-in-Some : goal.returns-in-Some
returns-in-Some c = search (body_laws, rules)
