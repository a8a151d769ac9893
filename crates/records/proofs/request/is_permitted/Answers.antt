use Rattle.std.proofs.Common.{rules}
use Rattle.records.proofs.request.Laws.{permitted_laws}
use Rattle.records.proofs.request.is_permitted.Goals as goal

pub returns-in-Some : goal.returns-in-Some
returns-in-Some c = search (permitted_laws, rules)
