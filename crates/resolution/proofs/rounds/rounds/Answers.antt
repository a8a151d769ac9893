use Rattle.resolution.proofs.rounds.Laws.{rounds_between, rounds_open, rounds_laws}
use borrow.Author.Rules.{rules}
use Rattle.resolution.proofs.rounds.rounds.Goals as goal

pub loop-from-init : goal.loop-from-init
loop-from-init c = search (rounds_laws, rules)

pub is_done-requires : goal.is_done-requires
is_done-requires c = search (rounds_laws, rules)

pub round-requires : goal.round-requires
round-requires c = record { between = search (rounds_between, rules); halt_value = search (rounds_open, rules) }

pub loop-from-smaller : goal.loop-from-smaller
loop-from-smaller c = search (rounds_laws, rules)

pub loop-from-preserved : goal.loop-from-preserved
loop-from-preserved c = search (rounds_laws, rules)

pub returns : goal.returns
returns c = search (rounds_laws, rules)

pub returns-then-resolver-from : goal.returns-then-resolver-from
returns-then-resolver-from c = search (rounds_laws, rules)
