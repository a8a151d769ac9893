use Rattle.std.proofs.Common.{rules}
use Rattle.std.proofs.lemmas.Result.{err_from_is_err_and}
use Rattle.resolution.proofs.resolve.Laws.{resolve-laws, resolve-refused, resolve-taken}
use Rattle.resolution.proofs.resolve.resolve.Goals as goal

pub check_with-requires : goal.check_with-requires
check_with-requires c = search (resolve-laws, rules)

pub returns-in_err-checked : goal.returns-in_err-checked
returns-in_err-checked c =
    let p = err_from_is_err_and c.from_residual.result c.from_residual.ensures.1 in
    resolve-refused _ _ _ _ _ c.in_err-checked.ensures.value (rw (p.1, p.2))

pub returns-then-words-lt-WORDS : goal.returns-then-words-lt-WORDS
returns-then-words-lt-WORDS c = search (resolve-laws, c.in_ok-checked.ensures.value, rules)

pub new-table-requires : goal.new-table-requires
new-table-requires c = record { taken = search (resolve-laws, c.in_ok-checked.ensures.value, rules); indexed_set = c.in_ok-checked.ensures.indexed_set }

pub resolve_checked-requires : goal.resolve_checked-requires
resolve_checked-requires c = record { request_len_bound = search (resolve-laws, c.in_ok-checked.ensures.value, rules); word_count_in_bounds = search rules }

pub returns : goal.returns
returns c = search (resolve-taken, c.in_ok-checked.ensures.value, rules)
