use Rattle.records.specs.Name.{after_name}
use Rattle.records.proofs.name.after_name.Goals as goal

pub returns : goal.returns
unfolding after_name
returns c = cc
