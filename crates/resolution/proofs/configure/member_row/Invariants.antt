use Rattle.resolution.proofs.configure.Laws.{MembersAt}
use Rattle.resolution.proofs.configure.member_row.Given as goal

abbrev pub invariant-loop-i : goal.invariant-loop-i
invariant-loop-i l = MembersAt l.i-items l.words l.i-index
