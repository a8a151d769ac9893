use Rattle.resolution.proofs.readability.Added.{add-one-laws}
use borrow.Author.Rules.{rules}
use borrow.Author.Rules.{rules}
use Rattle.resolution.proofs.readability.add_override.Goals as goal

pub after_name-requires : goal.after_name-requires
after_name-requires c = search (add-one-laws, rules)

pub name_of-target-requires : goal.name_of-target-requires
name_of-target-requires c = search (add-one-laws, rules)

pub name_of-requires : goal.name_of-requires
name_of-requires c = search (add-one-laws, rules)

pub member-from-requires : goal.member-from-requires
member-from-requires c = search (add-one-laws, rules)

pub member-to-requires : goal.member-to-requires
member-to-requires c = search (add-one-laws, rules)

pub set_read-requires : goal.set_read-requires
set_read-requires c = search (add-one-laws, rules)

pub set_unnamed-requires : goal.set_unnamed-requires
set_unnamed-requires c = search (add-one-laws, c.well_formed, rules)

pub returns : goal.returns
returns c = search (add-one-laws, rules)
