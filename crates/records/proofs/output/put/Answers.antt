use Rattle.records.proofs.output.Written.{put-more}
use Rattle.records.proofs.output.put.Goals as goal

pub loop-i-preserved : goal.loop-i-preserved
loop-i-preserved c = search put-more
