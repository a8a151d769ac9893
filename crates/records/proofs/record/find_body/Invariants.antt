use Prim.Native.Nat.{◌-◌}
use mathlib.Core.List.{map}
use lib.ListN.{length}
use Rattle.records.proofs.record.Search.{FirstAt}
use Rattle.records.proofs.record.find_body.Given as goal

abbrev pub invariant-loop-span : goal.invariant-loop-span
invariant-loop-span l = FirstAt l.kind (map (λ name. name.now) l.names) l.s l.at.at

abbrev pub decreases-loop-span : goal.decreases-loop-span
decreases-loop-span l = length l.s - l.at.at
