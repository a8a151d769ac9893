use Rattle.records.proofs.output.Records.{put_module_laws}
use borrow.Author.Rules.{rules}
use Rattle.records.proofs.output.put_module.Goals as goal

pub returns : goal.returns
returns c = search (put_module_laws, rules)
