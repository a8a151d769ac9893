use Rattle.records.proofs.bytes.Laws.{same_in_start, same_in_more}
use Rattle.records.proofs.bytes.same_eight.Goals as goal

pub loop-k-init : goal.loop-k-init
loop-k-init c = search same_in_start

pub loop-k-preserved : goal.loop-k-preserved
loop-k-preserved c = search same_in_more
