use Rattle.std.proofs.lemmas.Result.{err_from_is_err_and}
use Rattle.class_reader.proofs.class_file.Reading.{pool-fault, pool-read, pool-laws}
use mathlib.Core.Path.{refl}
use borrow.Author.Rules.{rules}
use Rattle.class_reader.proofs.class_file.read_pool.Goals as goal

pub fill-requires-clause-in_bounds : goal.fill-requires-clause-in_bounds
fill-requires-clause-in_bounds c = search (pool-laws, rules)

pub fill-requires-clause-le_count : goal.fill-requires-clause-le_count
fill-requires-clause-le_count c = search (pool-laws, rules)

pub fill-requires-clause-table_value : goal.fill-requires-clause-table_value
fill-requires-clause-table_value c = search (pool-laws, rules)

pub returns-in_err-end : goal.returns-in_err-end
returns-in_err-end c =
    let p = err_from_is_err_and c.from_residual.result c.from_residual.ensures.1 in
    rw (p.1, p.2) (pool-fault _ _ c.be16-count.ensures.value _ _ _ c.in_err-end.ensures _ _ _ refl refl)

pub returns : goal.returns
returns c =
    pool-read _ _ c.be16-count.ensures.value _ _ _ c.in_ok-end.ensures _ refl _ _ _ c.read_attributes.ensures
