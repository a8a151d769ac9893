use Rattle.std.proofs.Common.{rules}
use Rattle.records.proofs.sorted.Laws.{seek_laws, seek-less, seek-greater}
use Rattle.records.proofs.sorted.Modules.seek.Goals as goal
use Rattle.records.proofs.sorted.Modules.seek.Goals.{in-Less, in-Greater}

pub loop-init : goal.loop-init
loop-init c = search (seek_laws, rules)

pub returns-then-high-low : goal.returns-then-high-low
returns-then-high-low c = search (seek_laws, rules)

pub returns-in-Equal : goal.returns-in-Equal
returns-in-Equal c = search (seek_laws, rules)

pub loop-preserved : goal.loop-preserved
loop-preserved c = elim c.match-compare_entry.branch [
  | in-Less w ↦ seek-less _ _ _ _ _ _ _ _ _ _ _ _ c.loop.invariant (search rules) (search rules) _ c.compare_entry.ensures _ _ _ (search rules) w.low-is w.high-is (search rules) (search rules)
  | in-Greater w ↦ seek-greater _ _ _ _ _ _ _ _ _ _ _ _ c.loop.invariant (search rules) (search rules) _ c.compare_entry.ensures _ _ _ (search rules) w.low-is w.high-is (search rules) (search rules)
]

pub returns : goal.returns
returns c = search (seek_laws, rules)
