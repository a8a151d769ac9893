use Prim.Native.Nat.{◌+◌, ◌-◌}
use Rattle.resolution.specs.Row.{one}
use Rattle.resolution.specs.Resolver.{line_at, is_open}
use Rattle.resolution.proofs.resolver.Runs.{RunAt}
use Rattle.resolution.proofs.resolver.Resolver.run.Given as goal

abbrev pub invariant-loop-self : goal.invariant-loop-self
invariant-loop-self l = RunAt l.sources.set.now l.sources.request.now l.sources.starts.now l.sources.old.now l.sources.phase l.sources.index.now l.sources.names.now l.sources.needed.now (line_at l.initial.self.order l.initial.self.queue) l.initial.self.queue.head l.self.order l.packages l.self.queue

abbrev pub decreases-loop-self : goal.decreases-loop-self
decreases-loop-self l = (513 - l.self.queue.head) + one (is_open l.self.queue.halt)
