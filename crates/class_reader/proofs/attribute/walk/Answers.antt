use Rattle.std.proofs.lemmas.Result.{err_from_is_err_and}
use Rattle.class_reader.proofs.attribute.Laws.{walk-bad, walk-light, walk_more, end-light, walk-laws}
use borrow.Author.Rules.{rules}
use Rattle.class_reader.proofs.attribute.walk.Goals as goal

pub loop-i-init : goal.loop-i-init
loop-i-init c = search (walk-laws, rules)

pub returns-in_err-walked-clause-value : goal.returns-in_err-walked-clause-value
returns-in_err-walked-clause-value c =
    let p = err_from_is_err_and c.from_residual.result c.from_residual.ensures.1 in
    rw (p.1, p.2) (walk-bad c.loop-i.invariant c.loop-i-test.true _ c.in_err-walked.ensures.value)

pub loop-i-preserved : goal.loop-i-preserved
loop-i-preserved c =
    walk_more c.loop-i.invariant c.loop-i-test.true _ _ c.attribute_end-end.ensures.value c.in_ok-walked.ensures.value
    c.in_ok-walked.ensures.light_result c.in_ok-walked.ensures.within

pub returns-clause-value : goal.returns-clause-value
returns-clause-value c = search (walk-laws, rules)

pub returns-clause-light : goal.returns-clause-light
returns-clause-light c = end-light _ _ c.walk_end.ensures.same (walk-light c.loop-i.invariant)
