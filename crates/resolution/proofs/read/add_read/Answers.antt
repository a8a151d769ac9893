use Rattle.std.proofs.Common.{rules}
use Rattle.resolution.proofs.configuration.Laws.{read-added}
use Rattle.resolution.proofs.read.add_read.Goals as goal

pub returns : goal.returns
returns c = search (read-added, rules)
