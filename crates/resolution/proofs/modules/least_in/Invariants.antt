use Prim.Native.Nat.{◌-◌}
use mathlib.Core.List.{map}
use lib.ListN.{length, take}
use Rattle.records.specs.Order.{name_in}
use Rattle.resolution.proofs.modules.Shared.{ScanAt}
use Rattle.resolution.proofs.modules.least_in.Given as goal

abbrev pub invariant-loop-span : goal.invariant-loop-span
invariant-loop-span l = ScanAt l.sources.set.now l.sources.starts.now l.i (map (name_in l.b) (take l.count l.table)) l.source l.from l.initial.low l.c.at l.low

abbrev pub decreases-loop-span : goal.decreases-loop-span
decreases-loop-span l = length l.source - l.c.at
