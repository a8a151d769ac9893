use Rattle.resolution.proofs.owner.Laws.{owns-laws}
use borrow.Author.Rules.{rules}
use borrow.Author.Rules.{rules}
use Rattle.resolution.proofs.owner.owns.Goals as goal

pub contains-requires : goal.contains-requires
contains-requires c = search (owns-laws, rules)

pub block-b-requires : goal.block-b-requires
block-b-requires c = search (owns-laws, rules)

pub has_package-requires : goal.has_package-requires
has_package-requires c = search (owns-laws, rules)

pub name-requires : goal.name-requires
name-requires c = search (owns-laws, rules)

pub find-requires : goal.find-requires
find-requires c = search (owns-laws, rules)

pub is_at-requires : goal.is_at-requires
is_at-requires c = search (owns-laws, rules)

pub returns-then-has_package : goal.returns-then-has_package
returns-then-has_package c = search (owns-laws, rules)

pub returns-else-has_package : goal.returns-else-has_package
returns-else-has_package c = search (owns-laws, rules)

pub returns-else-contains : goal.returns-else-contains
returns-else-contains c = search (owns-laws, rules)
