use Rattle.records.proofs.output.Automatic.{put_entries_laws}
use borrow.Author.Rules.{rules}
use Rattle.records.proofs.output.put_entries.Goals as goal

pub put_group-b-requires : goal.put_group-b-requires
put_group-b-requires c = search (put_entries_laws, rules)

pub returns : goal.returns
returns c = search (put_entries_laws, rules)
