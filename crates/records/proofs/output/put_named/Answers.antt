use Rattle.records.proofs.output.Written.{put_named_laws}
use borrow.Author.Rules.{rules}
use Rattle.records.proofs.output.put_named.Goals as goal

pub returns : goal.returns
returns c = search (put_named_laws, rules)
