use borrow.Author.Rules.{rules}
use Rattle.class_reader.proofs.packages.Sizes.{size-laws}
use Rattle.class_reader.proofs.packages.packages_size.Goals as goal

pub loop-entry-init : goal.loop-entry-init
loop-entry-init c = search (size-laws, rules)

pub overflow_add-size : goal.overflow_add-size
overflow_add-size c = search (size-laws, rules)

pub overflow_add-size-in-loop-entry : goal.overflow_add-size-in-loop-entry
overflow_add-size-in-loop-entry c = search (size-laws, rules)

pub loop-entry-preserved : goal.loop-entry-preserved
loop-entry-preserved c = search (size-laws, rules)

pub returns : goal.returns
returns c = search (size-laws, rules)
