use Rattle.class_reader.proofs.class_file.PackageTable.{many-room}
use Rattle.class_reader.proofs.class_file.Writing.{descriptor_laws}
use borrow.Author.Rules.{rules}
use Rattle.class_reader.proofs.class_file.write_descriptor.Goals as goal

pub returns-in_default : goal.returns-in_default
returns-in_default c = search (descriptor_laws, rules)

pub write_ordered-requires-clause-sized : goal.write_ordered-requires-clause-sized
write_ordered-requires-clause-sized c = search (descriptor_laws, rules)

pub returns-then-package_count-le1024 : goal.returns-then-package_count-le1024
returns-then-package_count-le1024 c = search (descriptor_laws, rules)

pub write_ordered-requires-2-clause-packages_in_bounds : goal.write_ordered-requires-2-clause-packages_in_bounds
write_ordered-requires-2-clause-packages_in_bounds c = search (many-room, rules)

pub write_ordered-requires-2-clause-sized : goal.write_ordered-requires-2-clause-sized
write_ordered-requires-2-clause-sized c = search (descriptor_laws, rules)

pub returns : goal.returns
returns c = search (descriptor_laws, rules)
