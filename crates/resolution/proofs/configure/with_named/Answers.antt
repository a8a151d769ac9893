use Rattle.resolution.proofs.configure.Limit.{named-laws}
use borrow.Author.Rules.{rules}
use Rattle.resolution.proofs.configure.with_named.Goals as goal

pub find-requires : goal.find-requires
find-requires c = search (named-laws, rules)

pub with-requires : goal.with-requires
with-requires c = search (named-laws, rules)

pub returns-in-Some : goal.returns-in-Some
returns-in-Some c = search (named-laws, rules)

pub returns-in-None : goal.returns-in-None
returns-in-None c = search (named-laws, rules)
