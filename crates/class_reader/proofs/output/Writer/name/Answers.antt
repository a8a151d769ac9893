use Rattle.class_reader.proofs.output.Names.{name-put}
use Rattle.class_reader.proofs.output.Writer.name.Goals as goal

pub returns-clause-put : goal.returns-clause-put
returns-clause-put c = search name-put
