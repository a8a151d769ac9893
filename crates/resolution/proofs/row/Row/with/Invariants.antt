use Rattle.resolution.proofs.row.Laws.{WithAt}
use Rattle.resolution.proofs.row.Row.with.Given as goal

abbrev pub invariant-loop-q : goal.invariant-loop-q
invariant-loop-q l = WithAt l.fn.self.words l.k l.words l.q

abbrev pub invariant-loop-q-then-k-lt512 : goal.invariant-loop-q-then-k-lt512
invariant-loop-q-then-k-lt512 l = WithAt l.fn.self.words l.k l.words l.q
