use Rattle.records.proofs.output.Groups.{put_group_laws}
use borrow.Author.Rules.{rules}
use Rattle.records.proofs.output.put_group.Goals as goal

pub put_record-b-requires-clause-end_in_bounds : goal.put_record-b-requires-clause-end_in_bounds
put_record-b-requires-clause-end_in_bounds c = search (put_group_laws, rules)

pub put_record-b-requires-clause-name_len_bound : goal.put_record-b-requires-clause-name_len_bound
put_record-b-requires-clause-name_len_bound c = search (put_group_laws, rules)

pub loop-entry-preserved : goal.loop-entry-preserved
loop-entry-preserved c = search (put_group_laws, rules)
