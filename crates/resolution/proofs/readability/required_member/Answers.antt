use Rattle.resolution.proofs.readability.Laws.{required-member-laws}
use borrow.Author.Rules.{rules}
use Rattle.resolution.proofs.readability.required_member.Goals as goal

pub same-requires : goal.same-requires
same-requires c = search (required-member-laws, rules)

pub returns-then-same : goal.returns-then-same
returns-then-same c = search (required-member-laws, rules)

pub member-requires : goal.member-requires
member-requires c = search (required-member-laws, rules)

pub returns : goal.returns
returns c = search (required-member-laws, rules)
