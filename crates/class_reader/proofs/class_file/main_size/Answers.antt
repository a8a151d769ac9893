use Rattle.class_reader.proofs.class_file.Items.{main-size-laws}
use borrow.Author.Rules.{rules}
use Rattle.class_reader.proofs.class_file.main_size.Goals as goal

pub returns-in-Some-clause-value : goal.returns-in-Some-clause-value
returns-in-Some-clause-value c = search (main-size-laws, rules)

pub returns-in-Some-clause-upper_bound : goal.returns-in-Some-clause-upper_bound
returns-in-Some-clause-upper_bound c = search (main-size-laws, rules)

pub returns-in-None-clause-value : goal.returns-in-None-clause-value
returns-in-None-clause-value c = search (main-size-laws, rules)
