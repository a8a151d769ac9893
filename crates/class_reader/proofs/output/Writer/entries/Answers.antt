use Rattle.class_reader.proofs.output.Entries.{entries-laws}
use borrow.Author.Rules.{rules}
use Rattle.class_reader.proofs.output.Writer.entries.Goals as goal

pub loop-i-init : goal.loop-i-init
loop-i-init c = search (entries-laws, rules)

pub entry-requires : goal.entry-requires
entry-requires c = search (entries-laws, rules)

pub loop-i-preserved : goal.loop-i-preserved
loop-i-preserved c = search (entries-laws, rules)

pub returns-clause-put : goal.returns-clause-put
returns-clause-put c = search (entries-laws, rules)
