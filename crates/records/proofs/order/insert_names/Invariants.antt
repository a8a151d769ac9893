use Prim.Native.Nat.{◌-◌}
use lib.ListN.{length}
use Rattle.records.proofs.order.Packages.{NamesAt}
use Rattle.records.proofs.order.insert_names.Given as goal

abbrev pub invariant-loop-span : goal.invariant-loop-span
invariant-loop-span l = NamesAt l.s l.from l.to l.kind l.initial.table l.count l.source l.table l.n l.c.at

abbrev pub decreases-loop-span : goal.decreases-loop-span
decreases-loop-span l = length l.source - l.c.at
