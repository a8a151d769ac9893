use Rattle.std.proofs.Common.{rules}
use Rattle.std.proofs.lemmas.Result.{err_from_is_err_and}
use Rattle.resolution.proofs.owner.Laws.{owner-laws, owner-refused}
use Rattle.resolution.proofs.owner.find_module_for_package.Goals as goal

pub check_set_with-requires : goal.check_set_with-requires
check_set_with-requires c = search (owner-laws, rules)

pub returns-in_err-checked : goal.returns-in_err-checked
returns-in_err-checked c =
    let p = err_from_is_err_and c.from_residual.result c.from_residual.ensures.1 in
    owner-refused _ _ _ _ _ c.in_err-checked.ensures.value (rw (p.1, p.2))

pub returns-then-words-lt-WORDS : goal.returns-then-words-lt-WORDS
returns-then-words-lt-WORDS c = search (owner-laws, c.in_ok-checked.ensures.value, rules)

pub new-table-requires : goal.new-table-requires
new-table-requires c = record { taken = search (c.in_ok-checked.ensures.value, rules); indexed_set = c.in_ok-checked.ensures.indexed_set }

pub returns : goal.returns
returns c = search (owner-laws, rules)
