use Rattle.class_reader.proofs.entry.Laws.{names-laws}
use borrow.Author.Rules.{rules}
use Rattle.class_reader.proofs.entry.names_size.Goals as goal

pub loop-i-init : goal.loop-i-init
loop-i-init c = search (names-laws, rules)

pub loop-i-preserved : goal.loop-i-preserved
loop-i-preserved c = search (names-laws, rules)

pub returns-in_err-name-clause-value : goal.returns-in_err-name-clause-value
returns-in_err-name-clause-value c = search (names-laws, rules)

pub returns : goal.returns
returns c = search (names-laws, rules)
