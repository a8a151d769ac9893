use Rattle.access.proofs.graph.Leads.{SweepAt}
use Rattle.access.proofs.graph.sweep.Given as goal

abbrev pub invariant-loop-k : goal.invariant-loop-k
invariant-loop-k l = SweepAt l.n l.members.words l.words l.initial.out.words l.out.words l.k
