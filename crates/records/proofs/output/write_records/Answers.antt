use Rattle.records.proofs.output.Automatic.{head-room, packages_room, records-place, records-bytes}
use borrow.Author.Rules.{rules}
use Rattle.records.proofs.output.write_records.Goals as goal

pub put_module-a-requires : goal.put_module-a-requires
put_module-a-requires c = record { name_in_bounds = search head-room; name_len_bound = search rules }

pub returns : goal.returns
returns c = (search records-place, search records-bytes)

pub put_packages-requires : goal.put_packages-requires
put_packages-requires c = search (packages_room, rules)
