use Rattle.records.proofs.output.Automatic.{put_packages_laws}
use borrow.Author.Rules.{rules}
use Rattle.records.proofs.output.put_packages.Goals as goal

pub returns : goal.returns
returns c = search (put_packages_laws, rules)
