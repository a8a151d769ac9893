use Rattle.std.proofs.Common.{◌≡◌, ◌∙◌, ◌-◌, ◌<◌, Some, length, sym, ap, arith}
use Rattle.std.specs.List.{slice_get}
use Rattle.std.proofs.lemmas.Option.{get_or_from_slice_get, slice_get_within}
use Rattle.records.specs.Order.{name_in}
use Rattle.records.proofs.order.Laws.{place-last}
use Rattle.records.proofs.order.place.Goals as goal

pub returns-then-before : goal.returns-then-before
returns-then-before c =
    let e : slice_get c.args.table.now (length c.args.table.now - 1) ≡ Some c.in-Some.last.now = sym c.in-Some.ensures.value in
    let l : length c.args.table.now - 1 < length c.args.table.now = slice_get_within c.args.table.now (length c.args.table.now - 1) c.in-Some.last.now e in
    place-last c.args.s.now c.args.table.now c.args.name.now c.name_in.result.now c.before-in-Some.result c.requires (omega arith)
    (c.name_in.ensures ∙ ap (name_in c.args.s.now) (sym (get_or_from_slice_get c.args.table.now (length c.args.table.now - 1) c.in-Some.last.now 0 e)))
    c.before-in-Some.ensures c.if-before.true
