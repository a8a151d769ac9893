use Rattle.records.proofs.automatic.Derivation.{file_laws}
use borrow.Author.Rules.{rules}
use Rattle.records.proofs.automatic.file_name.Goals as goal

pub returns-then-s-i-eq47 : goal.returns-then-s-i-eq47
returns-then-s-i-eq47 c = search (file_laws, rules)
