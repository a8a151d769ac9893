use Prim.Native.Nat.{◌-◌}
use lib.ListN.{length}
use Rattle.resolution.proofs.modules.Laws.{RequiresAt}
use Rattle.resolution.proofs.modules.requires_in.Given as goal

abbrev pub invariant-loop-span : goal.invariant-loop-span
invariant-loop-span l = RequiresAt l.b l.name l.c.at

abbrev pub decreases-loop-span : goal.decreases-loop-span
decreases-loop-span l = length l.b - l.c.at
