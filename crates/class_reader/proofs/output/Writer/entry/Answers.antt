use Rattle.class_reader.proofs.output.Parts.{entry-laws}
use borrow.Author.Rules.{rules}
use Rattle.class_reader.proofs.output.Writer.entry.Goals as goal

pub body-requires : goal.body-requires
body-requires c = search (entry-laws, rules)

pub mark-requires-2-clause-start_in_bounds : goal.mark-requires-2-clause-start_in_bounds
mark-requires-2-clause-start_in_bounds c = search (entry-laws, rules)

pub returns-clause-put : goal.returns-clause-put
returns-clause-put c = search (entry-laws, rules)
