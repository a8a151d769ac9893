use Prim.Native.Nat.{◌-◌}
use lib.ListN.{length}
use Rattle.records.proofs.set.Laws.{CheckAt}
use Rattle.records.proofs.set.check_set_with.Given as goal

abbrev pub invariant-loop-mark : goal.invariant-loop-mark
invariant-loop-mark l = CheckAt l.set l.c.at l.starts l.index l.seen

abbrev pub decreases-loop-mark : goal.decreases-loop-mark
decreases-loop-mark l = length l.set - l.c.at
