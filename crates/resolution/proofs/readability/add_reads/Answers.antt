use Rattle.resolution.proofs.readability.Added.{add-laws}
use borrow.Author.Rules.{rules}
use Rattle.resolution.proofs.readability.add_reads.Goals as goal

pub loop-span-init : goal.loop-span-init
loop-span-init c = search (add-laws, rules)

pub next-requires : goal.next-requires
next-requires c = search (add-laws, rules)

pub add_override-requires : goal.add_override-requires
add_override-requires c = search (add-laws, rules)

pub loop-span-smaller : goal.loop-span-smaller
loop-span-smaller c = search (add-laws, rules)

pub loop-span-preserved : goal.loop-span-preserved
loop-span-preserved c = search (add-laws, rules)

pub returns : goal.returns
returns c = search (add-laws, rules)
