use Rattle.class_reader.proofs.output.Names.{names-laws}
use borrow.Author.Rules.{rules}
use Rattle.class_reader.proofs.output.Writer.names.Goals as goal

pub loop-i-init : goal.loop-i-init
loop-i-init c = search (names-laws, rules)

pub index-requires : goal.index-requires
index-requires c = search (names-laws, rules)

pub loop-i-preserved : goal.loop-i-preserved
loop-i-preserved c = search (names-laws, rules)

pub returns-clause-put : goal.returns-clause-put
returns-clause-put c = search (names-laws, rules)
