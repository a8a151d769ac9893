use Rattle.resolution.proofs.rounds.Laws.{told_laws}
use borrow.Author.Rules.{rules}
use Rattle.resolution.proofs.rounds.told_rounds.Goals as goal

pub invariant_of-told : goal.invariant_of-told
invariant_of-told c = search (told_laws, rules)
