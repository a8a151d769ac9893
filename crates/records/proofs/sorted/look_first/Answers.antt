use Rattle.records.proofs.sorted.Laws.{first-half, first-there}
use borrow.Author.Rules.{rules}
use Rattle.records.proofs.sorted.look_first.Goals as goal

pub seek-requires : goal.seek-requires
seek-requires c = search first-half

pub returns-in-Ok : goal.returns-in-Ok
returns-in-Ok c = first-there _ _ (search rules) _ c.seek.result _ c.seek.ensures (search rules)
