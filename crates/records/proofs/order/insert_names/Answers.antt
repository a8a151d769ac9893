use Rattle.records.proofs.order.Packages.{names_laws}
use borrow.Author.Rules.{rules}
use Rattle.records.proofs.order.insert_names.Goals as goal

pub loop-span-smaller : goal.loop-span-smaller
loop-span-smaller c = search (names_laws, rules)

pub loop-span-preserved : goal.loop-span-preserved
loop-span-preserved c = search (names_laws, rules)
