use Rattle.resolution.proofs.configure.Laws.{configure_is}
use borrow.Author.Rules.{rules}
use borrow.Author.Rules.{rules}
use Rattle.resolution.proofs.configure.configure.Goals as goal

pub returns : goal.returns
returns c = search (configure_is, rules)
