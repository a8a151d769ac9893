use Rattle.class_reader.proofs.class_file.Items.{put-main-laws}
use borrow.Author.Rules.{rules}
use Rattle.class_reader.proofs.class_file.put_main.Goals as goal

pub entry-requires-clause-room : goal.entry-requires-clause-room
entry-requires-clause-room c = search (put-main-laws, rules)

pub returns-in-Some-clause-put : goal.returns-in-Some-clause-put
returns-in-Some-clause-put c = search (put-main-laws, rules)

pub returns-in_default-clause-put : goal.returns-in_default-clause-put
returns-in_default-clause-put c = search (put-main-laws, rules)
