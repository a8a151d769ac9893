use Rattle.resolution.proofs.rounds.Laws.{roots-wide}
use borrow.Author.Rules.{rules}
use Rattle.resolution.proofs.rounds.limited_rounds.Goals as goal

pub told_rounds-requires : goal.told_rounds-requires
told_rounds-requires c = record { later = search rules; running = search rules; in_bounds = search (roots-wide, rules) }
