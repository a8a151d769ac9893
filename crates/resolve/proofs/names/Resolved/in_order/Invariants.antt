use Rattle.std.proofs.Common.{length, ◌-◌}
use Rattle.resolve.proofs.names.Laws.{NamesAt}
use Rattle.resolve.proofs.names.Resolved.in_order.Given as goal

abbrev pub invariant-loop-span : goal.invariant-loop-span
invariant-loop-span l = NamesAt l.self.set.now l.initial.table l.table l.count l.c.at

abbrev pub decreases-loop-span : goal.decreases-loop-span
decreases-loop-span l = length l.self.set.now - l.c.at
