use Rattle.std.proofs.Common.{rules}
use Rattle.resolve.proofs.hidden.Laws.{place_laws}
use Rattle.resolve.proofs.hidden.place_of.Goals as goal

pub loop-span-smaller-then-span-gt4 : goal.loop-span-smaller-then-span-gt4
loop-span-smaller-then-span-gt4 c = search (place_laws, rules)

pub loop-span-preserved-then-span-gt4 : goal.loop-span-preserved-then-span-gt4
loop-span-preserved-then-span-gt4 c = search (place_laws, rules)

pub loop-span-smaller : goal.loop-span-smaller
loop-span-smaller c = search (place_laws, rules)

pub loop-span-preserved : goal.loop-span-preserved
loop-span-preserved c = search (place_laws, rules)
