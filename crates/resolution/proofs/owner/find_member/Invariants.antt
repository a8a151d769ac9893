use Rattle.resolution.proofs.owner.Laws.{OwnerAt}
use Rattle.resolution.proofs.owner.find_member.Given as goal

abbrev pub invariant-loop-i : goal.invariant-loop-i
invariant-loop-i l = OwnerAt l.table.set.now l.table.starts.now l.table.count l.words l.pkg l.i
