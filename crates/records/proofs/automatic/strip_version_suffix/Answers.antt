use Rattle.records.proofs.automatic.Derivation.{version_laws}
use borrow.Author.Rules.{rules}
use Rattle.records.proofs.automatic.strip_version_suffix.Goals as goal

pub returns-then-is_digit : goal.returns-then-is_digit
returns-then-is_digit c = search (version_laws, rules)
