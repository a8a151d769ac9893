use Rattle.resolution.proofs.row.Laws.{has_in}
use borrow.Author.Rules.{rules}
use Rattle.resolution.proofs.filter.bit_at.Goals as goal

pub returns : goal.returns
returns c = search (has_in, rules)
