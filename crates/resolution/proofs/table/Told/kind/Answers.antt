use Rattle.resolution.proofs.table.Laws.{kind-laws}
use borrow.Author.Rules.{rules}
use Rattle.resolution.proofs.table.Told.kind.Goals as goal

pub returns-in-Services : goal.returns-in-Services
returns-in-Services c = search (kind-laws, rules)

pub returns-in-Requirements : goal.returns-in-Requirements
returns-in-Requirements c = search (kind-laws, rules)
