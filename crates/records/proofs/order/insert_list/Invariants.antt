use Rattle.records.proofs.order.Lists.{ListAt}
use Rattle.records.proofs.order.insert_list.Given as goal

abbrev pub invariant-loop : goal.invariant-loop
invariant-loop l = ListAt l.s l.from l.n l.initial.table l.table l.at l.counter l.count
