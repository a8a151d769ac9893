use Rattle.std.proofs.Common.{◌∙◌}
use Rattle.records.proofs.order.Laws.{shift_copied}
use Rattle.records.proofs.order.shift.Goals as goal

pub returns : goal.returns
returns c = c.copy_within.ensures.after ∙ shift_copied c.args.table.now c.args.from c.args.count c.requires.from_le_count
