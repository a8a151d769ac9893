use Rattle.class_reader.proofs.output.Parts.{body-laws}
use borrow.Author.Rules.{rules}
use Rattle.class_reader.proofs.output.Writer.body.Goals as goal

pub prefix-requires : goal.prefix-requires
prefix-requires c = search (body-laws, rules)

pub index-requires : goal.index-requires
index-requires c = search (body-laws, rules)

pub suffix-requires : goal.suffix-requires
suffix-requires c = search (body-laws, rules)

pub returns-clause-put : goal.returns-clause-put
returns-clause-put c = search (body-laws, rules)
