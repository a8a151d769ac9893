use Rattle.std.proofs.Common.{rules}
use Rattle.std.proofs.lemmas.Result.{err_from_is_err_and}
use Rattle.records.proofs.set.Laws.{check_laws, check-stop, check_module, check-first, check-enter, check-main, check-pass}
use Rattle.records.proofs.set.check_set_with.Goals as goal

pub returns-in_err-judge-in-Record-clause-value : goal.returns-in_err-judge-in-Record-clause-value
returns-in_err-judge-in-Record-clause-value c =
    let p = err_from_is_err_and c.from_residual.result c.from_residual.ensures.1 in
    rw (p.1, p.2) (search (check-stop, c.in_err-judge-in-Record.ensures.value, rules))

pub loop-mark-preserved-in-Main : goal.loop-mark-preserved-in-Main
loop-mark-preserved-in-Main c = search (check-main, c.in_ok-judge-in-Record.ensures.value, c.in_ok-judge-in-Record.ensures.kept)

pub loop-mark-preserved : goal.loop-mark-preserved
loop-mark-preserved c = search (check-pass, c.in_ok-judge-in-Record.ensures.value, c.in_ok-judge-in-Record.ensures.kept)

pub loop-mark-preserved-in-Start : goal.loop-mark-preserved-in-Start
loop-mark-preserved-in-Start c = search (check_module, c.in_ok-judge-in-Record.ensures.value, c.in_ok-judge-in-Record.ensures.kept)

pub loop-mark-preserved-then-at-gt0 : goal.loop-mark-preserved-then-at-gt0
loop-mark-preserved-then-at-gt0 c = search (check-enter, c.in_ok-judge-in-Record.ensures.value, c.in_ok-judge-in-Record.ensures.kept)

pub loop-mark-preserved-else-at-gt0 : goal.loop-mark-preserved-else-at-gt0
loop-mark-preserved-else-at-gt0 c = search (check-first, c.in_ok-judge-in-Record.ensures.value, c.in_ok-judge-in-Record.ensures.kept)

pub loop-mark-smaller-in-Start : goal.loop-mark-smaller-in-Start
loop-mark-smaller-in-Start c = search (check_laws, rules)

pub loop-mark-smaller-in-Main : goal.loop-mark-smaller-in-Main
loop-mark-smaller-in-Main c = search (check_laws, rules)

pub loop-mark-smaller-then-at-gt0 : goal.loop-mark-smaller-then-at-gt0
loop-mark-smaller-then-at-gt0 c = search (check_laws, rules)

pub loop-mark-smaller-else-at-gt0 : goal.loop-mark-smaller-else-at-gt0
loop-mark-smaller-else-at-gt0 c = search (check_laws, rules)

pub loop-mark-smaller : goal.loop-mark-smaller
loop-mark-smaller c = search (check_laws, rules)
