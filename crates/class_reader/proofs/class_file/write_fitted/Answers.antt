use Rattle.class_reader.proofs.class_file.Writing.{fitted-laws}
use borrow.Author.Rules.{rules}
use Rattle.class_reader.proofs.class_file.write_fitted.Goals as goal

pub returns-then-out-n : goal.returns-then-out-n
returns-then-out-n c = search (fitted-laws, rules)

pub write_at_front-requires-clause-room : goal.write_at_front-requires-clause-room
write_at_front-requires-clause-room c = search (fitted-laws, rules)

pub returns : goal.returns
returns c = search (fitted-laws, rules)
