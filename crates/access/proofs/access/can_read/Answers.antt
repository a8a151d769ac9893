use Rattle.std.proofs.lemmas.Result.{err_from_is_err_and}
use Rattle.access.proofs.access.Laws.{can-refused}
use Rattle.access.proofs.access.can_read.Goals as goal

pub returns-in_err-checked : goal.returns-in_err-checked
returns-in_err-checked c =
    let p = err_from_is_err_and c.from_residual.result c.from_residual.ensures.1 in
    can-refused _ _ _ _ _ _ c.in_err-checked.ensures.value (rw (p.1, p.2))
