use Rattle.resolution.proofs.rounds.Laws.{rounds-fresh}
use borrow.Author.Rules.{rules}
use Rattle.resolution.proofs.rounds.all_rounds.Goals as goal

pub rounds-requires : goal.rounds-requires
rounds-requires c = search (rounds-fresh, rules)

pub rounds-requires-2 : goal.rounds-requires-2
rounds-requires-2 c = search (rounds-fresh, rules)
