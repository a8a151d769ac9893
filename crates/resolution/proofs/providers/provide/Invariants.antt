use Rattle.resolution.proofs.providers.Laws.{ProvideAt}
use Rattle.resolution.proofs.providers.provide.Given as goal

abbrev pub invariant-loop-i : goal.invariant-loop-i
invariant-loop-i l = ProvideAt l.sources.set.now l.sources.starts.now l.sources.phase l.from l.table l.services l.initial.resolver.order l.initial.resolver.queue l.to l.i l.resolver.order l.resolver.queue
