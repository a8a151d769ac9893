use Rattle.records.proofs.output.Groups.{GroupAt}
use Rattle.records.proofs.output.put_group.Given as goal

abbrev pub invariant-loop-entry : goal.invariant-loop-entry
invariant-loop-entry l = GroupAt l.initial.out l.at l.mark l.extra l.packages l.table l.count l.out l.b l.entry-index
