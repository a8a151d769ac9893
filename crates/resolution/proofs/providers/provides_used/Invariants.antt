use Prim.Native.Nat.{◌-◌}
use lib.ListN.{length}
use Rattle.records.specs.declared.record.Kind.TheVariants as Kind
use Rattle.resolution.specs.Resolver.{has_named}
use Rattle.resolution.specs.Filter.{asked}
use Rattle.resolution.proofs.providers.Services.{ProvidesAt}
use Rattle.resolution.proofs.providers.provides_used.Given as goal

abbrev pub invariant-loop-span : goal.invariant-loop-span
invariant-loop-span l = ProvidesAt (has_named (asked l.sources.set.now l.sources.starts.now) Kind.Uses l.positions) l.b l.c.at

abbrev pub decreases-loop-span : goal.decreases-loop-span
decreases-loop-span l = length l.b - l.c.at
