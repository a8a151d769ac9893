use Prim.Native.Nat.{◌-◌}
use Rattle.resolution.proofs.row.Laws.{NextAt}
use Rattle.resolution.proofs.reach.next_in.Given as goal

abbrev pub invariant-loop-at : goal.invariant-loop-at
invariant-loop-at l = NextAt l.words l.k l.at

abbrev pub decreases-loop-at : goal.decreases-loop-at
decreases-loop-at l = 512 - l.at
