use Rattle.resolution.proofs.table.Laws.{add-laws}
use borrow.Author.Rules.{rules}
use Rattle.resolution.proofs.table.add_names.Goals as goal

pub loop-span-init : goal.loop-span-init
loop-span-init c = search (add-laws, rules)

pub put_name-count-requires : goal.put_name-count-requires
put_name-count-requires c = search (add-laws, rules)

pub loop-span-smaller : goal.loop-span-smaller
loop-span-smaller c = search (add-laws, rules)

pub loop-span-preserved : goal.loop-span-preserved
loop-span-preserved c = search (add-laws, rules)

pub returns-then-table-count : goal.returns-then-table-count
returns-then-table-count c = search (add-laws, rules)

pub returns : goal.returns
returns c = search (add-laws, rules)
