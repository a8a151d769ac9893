use mathlib.Core.List.{map}
use lib.ListN.{take}
use Rattle.records.specs.Order.{name_in}
use Rattle.resolution.proofs.modules.Shared.{SharedAt}
use Rattle.resolution.proofs.modules.least_shared.Given as goal

abbrev pub invariant-loop-i : goal.invariant-loop-i
invariant-loop-i l = SharedAt l.sources.set.now l.sources.starts.now l.positions (map (name_in l.b) (take l.count l.table)) l.least l.i-index
