use Rattle.resolution.proofs.row.Laws.{empty-zeros}
use Rattle.resolution.proofs.row.Row.empty.Goals as goal

pub returns : goal.returns
returns c = empty-zeros 8
