use Rattle.std.proofs.Common.{rules}
use Rattle.access.proofs.graph.Leads.{onward-is}
use Rattle.access.proofs.graph.onward.Goals as goal

pub returns : goal.returns
returns c = search (onward-is, rules)
