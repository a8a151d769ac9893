use Rattle.resolution.proofs.visible.Laws.{VisibleAt}
use Rattle.resolution.proofs.visible.visible.Given as goal

abbrev pub invariant-loop-k : goal.invariant-loop-k
invariant-loop-k l = VisibleAt l.table.index.now l.words l.k
