use Prim.Native.Nat.{◌-◌}
use Rattle.resolution.proofs.readability.Laws.{OthersAt}
use Rattle.resolution.proofs.readability.with_others.Given as goal

abbrev pub invariant-loop-k : goal.invariant-loop-k
invariant-loop-k l = OthersAt l.initial.out.words l.members.words l.p l.out.words l.k

abbrev pub decreases-loop-k : goal.decreases-loop-k
decreases-loop-k l = 512 - l.k
