use Prim.Native.Nat.{◌-◌}
use Rattle.resolution.specs.Row.{size}
use Rattle.access.proofs.graph.Leads.{GatherAt}
use Rattle.access.proofs.graph.gather.Given as goal

abbrev pub invariant-loop-members : goal.invariant-loop-members
invariant-loop-members l = GatherAt l.n l.members.words l.words l.initial.out.words l.out.words

abbrev pub decreases-loop-members : goal.decreases-loop-members
decreases-loop-members l = 512 - size l.out.words
