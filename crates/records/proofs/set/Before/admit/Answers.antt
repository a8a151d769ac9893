use Rattle.records.proofs.set.Laws.{admit_laws}
use borrow.Author.Rules.{rules}
use Rattle.records.proofs.set.Before.admit.Goals as goal

pub returns-then-add-clause-kept : goal.returns-then-add-clause-kept
returns-then-add-clause-kept c = search (admit_laws, rules)

pub returns-in-None-clause-kept : goal.returns-in-None-clause-kept
returns-in-None-clause-kept c = search (admit_laws, rules)
