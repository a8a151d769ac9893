use Rattle.resolution.proofs.filter.Laws.{mark-laws}
use borrow.Author.Rules.{rules}
use Rattle.resolution.proofs.filter.mark.Goals as goal

pub returns : goal.returns
returns c = search (mark-laws, rules)
