use Prim.Native.Nat.{◌-◌}
use lib.ListN.{length}
use Rattle.resolution.proofs.filter.Laws.{MarkAt}
use Rattle.resolution.proofs.filter.mark_names.Given as goal

abbrev pub invariant-loop-span : goal.invariant-loop-span
invariant-loop-span l = MarkAt l.kind l.block l.initial.filter l.filter l.c.at l.met

abbrev pub decreases-loop-span : goal.decreases-loop-span
decreases-loop-span l = length l.block - l.c.at
