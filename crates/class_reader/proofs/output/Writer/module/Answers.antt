use Rattle.class_reader.proofs.output.Tables.{module_laws}
use borrow.Author.Rules.{rules}
use Rattle.class_reader.proofs.output.Writer.module.Goals as goal

pub entry-requires-clause-room : goal.entry-requires-clause-room
entry-requires-clause-room c = search (module_laws, rules)

pub tables-requires-clause-room : goal.tables-requires-clause-room
tables-requires-clause-room c = search (module_laws, rules)

pub returns-clause-put : goal.returns-clause-put
returns-clause-put c = search (module_laws, rules)
