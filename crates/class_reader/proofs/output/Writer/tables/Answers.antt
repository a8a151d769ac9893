use Rattle.class_reader.proofs.output.Tables.{tables-laws}
use borrow.Author.Rules.{rules}
use Rattle.class_reader.proofs.output.Writer.tables.Goals as goal

pub loop-e-init : goal.loop-e-init
loop-e-init c = search (tables-laws, rules)

pub table-next-requires : goal.table-next-requires
table-next-requires c = search (tables-laws, rules)

pub loop-e-preserved : goal.loop-e-preserved
loop-e-preserved c = search (tables-laws, rules)

pub returns-clause-put : goal.returns-clause-put
returns-clause-put c = search (tables-laws, rules)
