use Rattle.records.proofs.output.Records.{put_record_laws}
use borrow.Author.Rules.{rules}
use Rattle.records.proofs.output.put_record.Goals as goal

pub returns : goal.returns
returns c = search (put_record_laws, rules)
