-- The measure is the number of positions that are not marked.
use Prim.Native.Nat.{◌-◌}
use Rattle.resolution.specs.Graph.{unmarked}
use Rattle.resolution.proofs.reach.Laws.{CollectAt}
use Rattle.resolution.proofs.reach.+collect_transitive_reads.Given as goal

abbrev pub decreases-collect_transitive_reads : goal.decreases-collect_transitive_reads
decreases-collect_transitive_reads l = unmarked l.marks.words

abbrev pub invariant-loop-j : goal.invariant-loop-j
invariant-loop-j l = CollectAt l.g l.m l.initial.out.words l.out.words l.k

abbrev pub decreases-loop-j : goal.decreases-loop-j
decreases-loop-j l = 512 - l.k
