use Rattle.class_reader.proofs.output.Names.{list-laws}
use borrow.Author.Rules.{rules}
use Rattle.class_reader.proofs.output.Writer.list.Goals as goal

pub put-self-requires : goal.put-self-requires
put-self-requires c = search (list-laws, rules)

pub names-requires : goal.names-requires
names-requires c = search list-laws

pub returns-clause-put : goal.returns-clause-put
returns-clause-put c = search list-laws
