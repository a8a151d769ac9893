use Rattle.resolution.proofs.row.Laws.{OnesAt}
use Rattle.resolution.proofs.row.Row.count.Given as goal

abbrev pub invariant-loop-word : goal.invariant-loop-word
invariant-loop-word l = OnesAt l.word-items l.n l.word-index
