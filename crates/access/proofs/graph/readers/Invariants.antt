use Rattle.access.specs.GraphSteps.{reader_at}
use Rattle.access.proofs.graph.Rows.{PassedAt}
use Rattle.access.proofs.graph.readers.Given as goal

abbrev pub invariant-loop-k : goal.invariant-loop-k
invariant-loop-k l = PassedAt (reader_at l.members.words l.words l.found l.asked) l.n l.row.words l.k
