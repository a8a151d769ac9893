use Rattle.resolution.proofs.modules.Laws.{WithAt}
use Rattle.resolution.proofs.modules.first_with.Given as goal

abbrev pub invariant-loop-i : goal.invariant-loop-i
invariant-loop-i l = WithAt l.sources.set.now l.sources.starts.now l.positions l.kind l.name l.i-index
