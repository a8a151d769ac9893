use Prim.Native.Nat.{◌+◌, ◌-◌}
use Rattle.resolution.specs.Row.{one}
use Rattle.resolution.specs.Resolver.{line_at, is_done}
use Rattle.resolution.proofs.rounds.Laws.{RoundsAt}
use Rattle.resolution.proofs.rounds.rounds.Given as goal

abbrev pub invariant-loop-from : goal.invariant-loop-from
invariant-loop-from l = RoundsAt l.sources.set.now l.sources.request.now l.sources.starts.now l.sources.old.now l.sources.phase l.sources.index.now l.sources.names.now l.sources.needed.now l.initial.resolver.order l.initial.packages l.initial.table (line_at l.initial.resolver.order l.initial.resolver.queue) l.resolver.order l.packages l.table l.bound l.resolver.queue

abbrev pub decreases-loop-from : goal.decreases-loop-from
decreases-loop-from l = (513 - l.resolver.queue.head) + one (is_done l.resolver.queue.halt)
