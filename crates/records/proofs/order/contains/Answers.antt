use Rattle.std.proofs.Common.{◌∙◌}
use Rattle.records.proofs.order.Laws.{contains-is, placed_front, stands_front}
use Rattle.records.proofs.order.contains.Goals as goal

pub returns : goal.returns
returns c =
    contains-is c.args.s.now c.args.table.now c.args.count c.args.name.now c.place_by_halves-at.result c.stands_at.result c.requires.count_in_bounds c.requires.table_value
    (placed_front c.args.s.now c.args.table.now c.args.name.now c.args.count c.place_by_halves-at.result c.requires.count_in_bounds c.place_by_halves-at.ensures)
    (c.stands_at.ensures ∙ stands_front c.args.s.now c.args.table.now c.args.count c.place_by_halves-at.result c.args.name.now c.requires.count_in_bounds)
