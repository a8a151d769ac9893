use Rattle.class_reader.proofs.output.Names.{index-room, index_short, index-put}
use Rattle.class_reader.proofs.output.Writer.index.Goals as goal

pub name-requires-2 : goal.name-requires-2
name-requires-2 c = search (index-room, index_short)

pub returns-clause-put : goal.returns-clause-put
returns-clause-put c = search index-put
