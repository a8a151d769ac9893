use Prim.Native.Nat.{◌-◌}
use Rattle.resolution.proofs.readability.Rows.{DirectAt}
use Rattle.resolution.proofs.readability.set_direct.Given as goal

abbrev pub invariant-loop-p : goal.invariant-loop-p
invariant-loop-p l = DirectAt l.table.set.now l.table.starts.now l.table.count l.members.words l.graph l.rows l.k

abbrev pub decreases-loop-p : goal.decreases-loop-p
decreases-loop-p l = 512 - l.k
