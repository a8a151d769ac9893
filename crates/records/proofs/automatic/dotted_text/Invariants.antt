use Rattle.records.proofs.automatic.Dots.{DotsAt}
use Rattle.records.proofs.automatic.dotted_text.Given as goal

abbrev pub invariant-loop-i : goal.invariant-loop-i
invariant-loop-i l = DotsAt l.s l.bytes l.len l.gap l.i
