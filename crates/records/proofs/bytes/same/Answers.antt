use mathlib.Core.Path.{◌∙◌}
use Rattle.records.proofs.bytes.Laws.{same_is}
use Rattle.records.proofs.bytes.same.Goals as goal

pub returns : goal.returns
returns c = c.eq.ensures ∙ same_is c.args.a.now c.args.b.now
