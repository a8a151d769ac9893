use Rattle.resolution.proofs.graph.Rows.{set-row-laws}
use borrow.Author.Rules.{rules}
use borrow.Author.Rules.{rules}
use Rattle.resolution.proofs.graph.set_row.Goals as goal

pub returns : goal.returns
returns c = search (set-row-laws, rules)
