use Rattle.std.proofs.Common.{rules}
use Rattle.std.proofs.lemmas.Result.{err_from_is_err_and}
use Rattle.records.proofs.request.Laws.{inputs_laws}
use Rattle.records.proofs.request.check_with.Goals as goal

pub returns-in_err-checked-clause-value : goal.returns-in_err-checked-clause-value
returns-in_err-checked-clause-value c =
    let p = err_from_is_err_and c.from_residual.result c.from_residual.ensures.1 in
    rw (p.1, p.2) (search (inputs_laws, c.in_err-checked.ensures.value, rules))

pub returns-in_err-check_records-clause-value : goal.returns-in_err-check_records-clause-value
returns-in_err-check_records-clause-value c =
    let p = err_from_is_err_and c.from_residual-in_err-check_records.result c.from_residual-in_err-check_records.ensures.1 in
    rw (p.1, p.2) (search (inputs_laws, c.in_ok-checked.ensures.value, c.in_err-check_records.ensures, rules))

pub returns-clause-value : goal.returns-clause-value
returns-clause-value c = search (inputs_laws, c.in_ok-checked.ensures.value, c.in_ok-check_records.ensures, rules)
