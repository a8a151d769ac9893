use Rattle.std.proofs.Common.{rules}
use Rattle.std.proofs.lemmas.Result.{err_from_is_err_and}
use Rattle.records.proofs.jar.Laws.{jar_laws, jar_packages}
use Rattle.records.proofs.jar.automatic_from_jar_name.Goals as goal

pub returns-then-jar-gt255 : goal.returns-then-jar-gt255
returns-then-jar-gt255 c = search (jar_laws, rules)

pub returns-in_err-check_records : goal.returns-in_err-check_records
returns-in_err-check_records c =
    let p = err_from_is_err_and c.from_residual.result c.from_residual.ensures.1 in
    jar_packages _ _ _ _ _ (search rules) _ _ c.in_err-check_records.ensures (rw (p.1, p.2))

pub returns-in-Some : goal.returns-in-Some
returns-in-Some c = rw c.in-Some.is (search (jar_laws, c.in_ok-check_records.ensures, rules))

pub returns-in-None : goal.returns-in-None
returns-in-None c = rw c.in-None.is (search (jar_laws, c.in_ok-check_records.ensures, rules))
