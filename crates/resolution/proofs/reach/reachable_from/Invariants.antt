use Prim.Native.Nat.{◌-◌}
use Rattle.resolution.proofs.reach.Laws.{GatherAt}
use Rattle.resolution.proofs.reach.reachable_from.Given as goal

abbrev pub invariant-loop-m : goal.invariant-loop-m
invariant-loop-m l = GatherAt l.g l.from.words l.out.words l.k

abbrev pub decreases-loop-m : goal.decreases-loop-m
decreases-loop-m l = 512 - l.k
