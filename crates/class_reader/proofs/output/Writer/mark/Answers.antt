use Rattle.class_reader.proofs.output.Parts.{mark-laws}
use borrow.Author.Rules.{rules}
use Rattle.class_reader.proofs.output.Writer.mark.Goals as goal

pub returns-clause-put : goal.returns-clause-put
returns-clause-put c = search (mark-laws, rules)
