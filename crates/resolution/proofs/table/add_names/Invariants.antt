use Prim.Native.Nat.{◌-◌}
use lib.ListN.{length}
use Rattle.resolution.proofs.table.Laws.{AddAt}
use Rattle.resolution.proofs.table.add_names.Given as goal

abbrev pub invariant-loop-span : goal.invariant-loop-span
invariant-loop-span l = AddAt l.told l.kind l.set l.source l.from l.to l.initial.table l.before l.table l.count l.c.at

abbrev pub decreases-loop-span : goal.decreases-loop-span
decreases-loop-span l = length l.source - l.c.at
