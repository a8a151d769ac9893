use Rattle.resolution.proofs.absent.Laws.{absent-laws}
use borrow.Author.Rules.{rules}
use Rattle.resolution.proofs.absent.absent_name.Goals as goal

pub part-requires : goal.part-requires
part-requires c = search (absent-laws, rules)

pub part-requires-in-Request : goal.part-requires-in-Request
part-requires-in-Request c = search (absent-laws, rules)

pub part-requires-in-Packages : goal.part-requires-in-Packages
part-requires-in-Packages c = search (absent-laws, rules)

pub part-requires-in_default : goal.part-requires-in_default
part-requires-in_default c = search (absent-laws, rules)

pub part-requires-in-Ok : goal.part-requires-in-Ok
part-requires-in-Ok c = search (absent-laws, rules)

pub returns-in-Set : goal.returns-in-Set
returns-in-Set c = search (absent-laws, rules)

pub returns-in-Request : goal.returns-in-Request
returns-in-Request c = search (absent-laws, rules)

pub returns-in-Packages : goal.returns-in-Packages
returns-in-Packages c = search (absent-laws, rules)

pub returns-in_default : goal.returns-in_default
returns-in_default c = search (absent-laws, rules)

pub returns-in-Ok : goal.returns-in-Ok
returns-in-Ok c = search (absent-laws, rules)
