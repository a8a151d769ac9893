use Rattle.resolution.proofs.table.Laws.{put-laws}
use borrow.Author.Rules.{rules}
use Rattle.resolution.proofs.table.put_name.Goals as goal

pub returns-then-is_static : goal.returns-then-is_static
returns-then-is_static c = search (put-laws, rules)

pub returns-in-Services : goal.returns-in-Services
returns-in-Services c = search (put-laws, rules)

pub returns-else-is_static : goal.returns-else-is_static
returns-else-is_static c = search (put-laws, rules)
