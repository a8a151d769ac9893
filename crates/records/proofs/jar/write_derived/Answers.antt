use Rattle.std.proofs.Common.{rules}
use Rattle.std.proofs.lemmas.Result.{err_from_is_err_and}
use Rattle.records.proofs.jar.Laws.{derived_laws, derived-bad}
use Rattle.records.proofs.jar.write_derived.Goals as goal

pub returns-in_err-text : goal.returns-in_err-text
returns-in_err-text c =
    let p = err_from_is_err_and c.from_residual.result c.from_residual.ensures.1 in
    derived-bad _ _ _ (search rules) _ _ c.in_err-text.ensures (rw (p.1, p.2))

pub returns : goal.returns
returns c = search (derived_laws, c.in_ok-text.ensures, rules)
