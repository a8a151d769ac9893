use Rattle.std.proofs.Common.{length, ◌-◌}
use Rattle.resolve.proofs.hidden.Laws.{PlaceAt}
use Rattle.resolve.proofs.hidden.place_of.Given as goal

abbrev pub invariant-loop-span : goal.invariant-loop-span
invariant-loop-span l = PlaceAt l.set l.place l.c.at

abbrev pub decreases-loop-span : goal.decreases-loop-span
decreases-loop-span l = length l.set - l.c.at
