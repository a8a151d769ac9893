use Rattle.resolution.proofs.resolver.Records.{records_laws}
use borrow.Author.Rules.{rules}
use Rattle.resolution.proofs.resolver.Resolver.queue_records.Goals as goal

pub want_record-wanted-requires : goal.want_record-wanted-requires
want_record-wanted-requires c = search (records_laws, rules)

pub loop-span-preserved : goal.loop-span-preserved
loop-span-preserved c = search (records_laws, rules)
