use Rattle.std.proofs.Common.{◌∙◌, ◌≤◌, length, arith}
use Rattle.records.proofs.order.Laws.{inserted-none, inserted_new, placed_front, stands_front}
use Rattle.records.proofs.order.insert.Goals as goal

pub returns-then-stands_at : goal.returns-then-stands_at
returns-then-stands_at c =
    let l : c.args.count ≤ length c.args.table.now = omega arith in
    inserted-none c.args.s.now c.args.table.now c.args.count c.args.entry c.name_in-name.result.now c.place-at.result c.stands_at.result c.requires.count_in_bounds c.requires.table_value c.name_in-name.ensures
    (placed_front c.args.s.now c.args.table.now c.name_in-name.result.now c.args.count c.place-at.result l c.place-at.ensures)
    (c.stands_at.ensures ∙ stands_front c.args.s.now c.args.table.now c.args.count c.place-at.result c.name_in-name.result.now l) c.if-stands_at.true

pub returns : goal.returns
returns c =
    let l : c.args.count ≤ length c.args.table.now = omega arith in
    inserted_new c.args.s.now c.args.table.now c.args.count c.args.entry c.name_in-name.result.now c.place-at.result c.stands_at.result c.requires.count_in_bounds c.requires.table_value c.name_in-name.ensures
    (placed_front c.args.s.now c.args.table.now c.name_in-name.result.now c.args.count c.place-at.result l c.place-at.ensures)
    (c.stands_at.ensures ∙ stands_front c.args.s.now c.args.table.now c.args.count c.place-at.result c.name_in-name.result.now l) c.shift.new.table c.shift.ensures c.if-stands_at.false
