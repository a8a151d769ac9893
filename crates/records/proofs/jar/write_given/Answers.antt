use Rattle.records.proofs.jar.Laws.{given_laws}
use borrow.Author.Rules.{rules}
use Rattle.records.proofs.jar.write_given.Goals as goal

pub returns-then-validate_module_name : goal.returns-then-validate_module_name
returns-then-validate_module_name c = search (given_laws, rules)

pub returns : goal.returns
returns c = search (given_laws, rules)
