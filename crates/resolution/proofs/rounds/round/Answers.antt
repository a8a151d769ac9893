use Rattle.resolution.proofs.rounds.Laws.{round-laws}
use borrow.Author.Rules.{rules}
use Rattle.resolution.proofs.rounds.round.Goals as goal

pub bind-requires : goal.bind-requires
bind-requires c = search (round-laws, rules)

pub run-requires : goal.run-requires
run-requires c = search (round-laws, rules)

pub returns : goal.returns
returns c = search (round-laws, c.requires, rules)
