use Rattle.resolution.proofs.readability.Laws.{direct-laws}
use borrow.Author.Rules.{rules}
use borrow.Author.Rules.{rules}
use Rattle.resolution.proofs.readability.set_direct_row.Goals as goal

pub block-b-requires : goal.block-b-requires
block-b-requires c = search (direct-laws, rules)

pub set_requirements-requires : goal.set_requirements-requires
set_requirements-requires c = search (direct-laws, rules)

pub set_base-requires : goal.set_base-requires
set_base-requires c = search (direct-laws, rules)

pub returns : goal.returns
returns c = search (direct-laws, rules)
