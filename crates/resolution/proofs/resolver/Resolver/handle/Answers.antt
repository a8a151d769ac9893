use Rattle.resolution.proofs.resolver.Turns.{handle_laws, handle-stop, handle-refused}
use borrow.Author.Rules.{rules}
use Rattle.resolution.proofs.resolver.Resolver.handle.Goals as goal

pub returns-in-Open : goal.returns-in-Open
returns-in-Open c = search (handle_laws, c.requires, rules)

pub returns-in-Stop : goal.returns-in-Stop
returns-in-Stop c = search (handle-stop, c.requires.running, c.requires.head_lt_tail, c.find_split.ensures, rules)

pub returns-in-Refused : goal.returns-in-Refused
returns-in-Refused c = search (handle-refused, c.requires.running, c.requires.head_lt_tail, c.find_split.ensures, rules)
