use Rattle.records.proofs.order.Packages.{packages_laws}
use borrow.Author.Rules.{rules}
use Rattle.records.proofs.order.ordered_packages.Goals as goal

pub insert_names-requires-clause-table_value : goal.insert_names-requires-clause-table_value
insert_names-requires-clause-table_value c = search (packages_laws, rules)
