use Rattle.resolution.proofs.configuration.Laws.{members-is}
use borrow.Author.Rules.{rules}
use Rattle.resolution.proofs.configuration.members.Goals as goal

pub returns : goal.returns
returns c = search (members-is, rules)
