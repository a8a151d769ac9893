use Rattle.resolution.proofs.configuration.Laws.{len_is}
use borrow.Author.Rules.{rules}
use Rattle.resolution.proofs.configuration.len.Goals as goal

pub returns : goal.returns
returns c = search (len_is, rules)
