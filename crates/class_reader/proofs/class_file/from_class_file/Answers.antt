use Rattle.class_reader.proofs.class_file.Reading.{class-laws}
use borrow.Author.Rules.{rules}
use Rattle.class_reader.proofs.class_file.from_class_file.Goals as goal

pub returns-then-file-gt65535 : goal.returns-then-file-gt65535
returns-then-file-gt65535 c = search (class-laws, rules)

pub returns-then-not-head_good : goal.returns-then-not-head_good
returns-then-not-head_good c = search (class-laws, rules)

pub returns : goal.returns
returns c = search (class-laws, rules)
