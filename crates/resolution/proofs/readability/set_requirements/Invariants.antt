use Prim.Native.Nat.{◌-◌}
use lib.ListN.{length}
use Rattle.resolution.specs.ModuleTable.{names_in}
use Rattle.resolution.proofs.readability.Laws.{BothAt}
use Rattle.resolution.proofs.readability.set_requirements.Given as goal

abbrev pub invariant-loop-span : goal.invariant-loop-span
invariant-loop-span l = BothAt (names_in l.table) l.members.words l.block l.p l.initial.graph l.initial.rows l.graph l.rows l.c.at

abbrev pub decreases-loop-span : goal.decreases-loop-span
decreases-loop-span l = length l.block - l.c.at
