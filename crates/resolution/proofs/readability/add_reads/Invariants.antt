use Prim.Native.Nat.{◌-◌}
use lib.ListN.{length}
use Rattle.resolution.specs.ModuleTable.{names_in}
use Rattle.resolution.proofs.readability.Added.{AddAt}
use Rattle.resolution.proofs.readability.add_reads.Given as goal

abbrev pub invariant-loop-span : goal.invariant-loop-span
invariant-loop-span l = AddAt (names_in l.table) l.members.words l.request l.initial.rows l.rows l.c.at

abbrev pub decreases-loop-span : goal.decreases-loop-span
decreases-loop-span l = length l.request - l.c.at
