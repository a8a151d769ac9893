use Rattle.resolution.proofs.readability.Rows.{rows-laws}
use borrow.Author.Rules.{rules}
use Rattle.resolution.proofs.readability.set_reads.Goals as goal

pub loop-p-init : goal.loop-p-init
loop-p-init c = search (rows-laws, rules)

pub read_row-row-requires : goal.read_row-row-requires
read_row-row-requires c = search (rows-laws, rules, c.in-Some.ensures)

pub loop-p-preserved : goal.loop-p-preserved
loop-p-preserved c = search (rows-laws, rules, c.in-Some.ensures)

pub returns : goal.returns
returns c = search (rows-laws, rules, c.in_default.ensures)
