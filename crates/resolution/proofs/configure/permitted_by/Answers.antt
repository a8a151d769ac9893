use Rattle.resolution.proofs.configure.Limit.{by-list}
use borrow.Author.Rules.{rules}
use Rattle.resolution.proofs.configure.permitted_by.Goals as goal

pub returns : goal.returns
returns c = search (by-list, rules)
