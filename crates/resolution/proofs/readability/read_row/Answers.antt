use Rattle.resolution.proofs.readability.Laws.{read-row-laws}
use borrow.Author.Rules.{rules}
use Rattle.resolution.proofs.readability.read_row.Goals as goal

pub has-requires : goal.has-requires
has-requires c = search (read-row-laws, rules)

pub reachable_from-row-requires : goal.reachable_from-row-requires
reachable_from-row-requires c = search (read-row-laws, rules)

pub block-requires : goal.block-requires
block-requires c = search (read-row-laws, rules)

pub is_automatic-requires : goal.is_automatic-requires
is_automatic-requires c = search (read-row-laws, rules)

pub with_others-requires : goal.with_others-requires
with_others-requires c = search (read-row-laws, rules)

pub returns-then-is_automatic : goal.returns-then-is_automatic
returns-then-is_automatic c = search (read-row-laws, rules)

pub returns-then-has : goal.returns-then-has
returns-then-has c = search (read-row-laws, rules)

pub empty-requires : goal.empty-requires
empty-requires c = search (read-row-laws, rules)

pub returns : goal.returns
returns c = search (read-row-laws, rules)
