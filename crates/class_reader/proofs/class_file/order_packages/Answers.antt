use Rattle.class_reader.proofs.class_file.PackageTable.{table-ordered, order-laws}
use Rattle.std.proofs.Common.{arith}
use borrow.Author.Rules.{rules}
use Rattle.class_reader.proofs.class_file.order_packages.Goals as goal

pub order_names-requires-clause-n_in_bounds : goal.order_names-requires-clause-n_in_bounds
order_names-requires-clause-n_in_bounds c = search (order-laws, rules)

pub order_names-requires-clause-p_value : goal.order_names-requires-clause-p_value
order_names-requires-clause-p_value c = search (order-laws, rules)

pub returns-in-Some-clause-ordered : goal.returns-in-Some-clause-ordered
returns-in-Some-clause-ordered c =
    table-ordered _ _ _ c.requires.readable _ c.in-Some.is _ c.be16.ensures.value _ _ _ c.order_names.ensures (omega (arith, c.be16.ensures.upper_bound))

pub returns-in-None-clause-ordered : goal.returns-in-None-clause-ordered
returns-in-None-clause-ordered c = search (order-laws, rules)
