use Rattle.resolution.proofs.readability.Laws.{member-laws}
use borrow.Author.Rules.{rules}
use Rattle.resolution.proofs.readability.member.Goals as goal

pub find-requires : goal.find-requires
find-requires c = search (member-laws, rules)

pub has-requires : goal.has-requires
has-requires c = search (member-laws, rules)

pub returns-then-has : goal.returns-then-has
returns-then-has c = search (member-laws, rules)

pub returns-else-has : goal.returns-else-has
returns-else-has c = search (member-laws, rules)

pub returns-in-None : goal.returns-in-None
returns-in-None c = search (member-laws, rules)
