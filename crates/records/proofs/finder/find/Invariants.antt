use Rattle.records.proofs.finder.Laws.{FindAt}
use Rattle.records.proofs.finder.find.Given as goal

abbrev pub invariant-loop-i : goal.invariant-loop-i
invariant-loop-i l = FindAt l.set l.starts l.count l.name l.i
