use Rattle.class_reader.proofs.packages.Sizes.{packages_room, packages_put}
use Rattle.class_reader.proofs.output.Writer.packages.Goals as goal

pub put_group-self-requires : goal.put_group-self-requires
put_group-self-requires c = search packages_room

pub returns-clause-put : goal.returns-clause-put
returns-clause-put c = search packages_put
