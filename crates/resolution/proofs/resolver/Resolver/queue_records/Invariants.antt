use Prim.Native.Nat.{◌-◌}
use lib.ListN.{length}
use Rattle.resolution.specs.Resolver.{line_at}
use Rattle.resolution.proofs.resolver.Records.{RecordsAt}
use Rattle.resolution.proofs.resolver.Resolver.queue_records.Given as goal

abbrev pub invariant-loop-span : goal.invariant-loop-span
invariant-loop-span l = RecordsAt l.sources.set.now l.sources.request.now l.sources.starts.now l.sources.old.now l.sources.phase l.sources.index.now l.sources.names.now l.sources.needed.now l.input l.kind l.source l.at l.c.at (line_at l.initial.self.order l.initial.self.queue) l.self.order l.self.queue

abbrev pub decreases-loop-span : goal.decreases-loop-span
decreases-loop-span l = length l.source - l.c.at
