use Rattle.std.proofs.Common.{rules}
use Rattle.access.proofs.graph.Answers.{tell_is}
use Rattle.access.proofs.graph.tell.Goals as goal

pub returns : goal.returns
returns c = search (tell_is, rules)
