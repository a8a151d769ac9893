use Rattle.class_reader.proofs.class_file.Writing.{items-laws}
use borrow.Author.Rules.{rules}
use Rattle.class_reader.proofs.class_file.write_items.Goals as goal

pub module-requires-clause-room : goal.module-requires-clause-room
module-requires-clause-room c = search (items-laws, rules)

pub packages-requires-clause-room : goal.packages-requires-clause-room
packages-requires-clause-room c = search (items-laws, rules)

pub put_main-requires-clause-room : goal.put_main-requires-clause-room
put_main-requires-clause-room c = search (items-laws, rules)

pub returns-clause-put : goal.returns-clause-put
returns-clause-put c = search (items-laws, rules)
