use Rattle.resolution.proofs.graph.Edges.{LackAt}
use Rattle.resolution.proofs.graph.any_lacking.Given as goal

abbrev pub invariant-loop-k : goal.invariant-loop-k
invariant-loop-k l = LackAt l.g l.m l.out.words l.lacking l.k
