use Rattle.resolution.proofs.providers.Services.{provides_laws}
use borrow.Author.Rules.{rules}
use Rattle.resolution.proofs.providers.provides_used.Goals as goal

pub returns-then-is_service : goal.returns-then-is_service
returns-then-is_service c = search (provides_laws, rules)

pub loop-span-preserved : goal.loop-span-preserved
loop-span-preserved c = search (provides_laws, rules)
