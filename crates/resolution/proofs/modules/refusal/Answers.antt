use Rattle.resolution.proofs.modules.Split.{refusal_laws}
use borrow.Author.Rules.{rules}
use Rattle.resolution.proofs.modules.refusal.Goals as goal

pub returns-in-Some : goal.returns-in-Some
returns-in-Some c = search (refusal_laws, rules)

pub returns-in-None : goal.returns-in-None
returns-in-None c = search (refusal_laws, rules)
