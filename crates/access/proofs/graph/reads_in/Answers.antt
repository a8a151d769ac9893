use Rattle.std.proofs.Common.{rules}
use Rattle.access.proofs.graph.Answers.{reads_in_laws}
use Rattle.access.proofs.graph.reads_in.Goals as goal

pub onward-requires-clause-masked : goal.onward-requires-clause-masked
onward-requires-clause-masked c = search (reads_in_laws, rules)
