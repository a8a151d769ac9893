use Rattle.resolution.proofs.readability.Added.{set-read-laws}
use borrow.Author.Rules.{rules}
use borrow.Author.Rules.{rules}
use Rattle.resolution.proofs.readability.set_read.Goals as goal

pub set_edge-requires : goal.set_edge-requires
set_edge-requires c = search (set-read-laws, rules)

pub returns-in-Some : goal.returns-in-Some
returns-in-Some c = search (set-read-laws, rules)

pub returns-in-None : goal.returns-in-None
returns-in-None c = search (set-read-laws, rules)
