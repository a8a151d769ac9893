use borrow.Author.Rules.{rules}
use Rattle.resolution.proofs.reach.Next.{next-edge-laws}
use Rattle.resolution.proofs.reach.next_edge.Goals as goal
use Rattle.resolution.proofs.reach.next_edge.Goals.{else-m-lt512-via-then-m-lt512+else-any_lacking, else-m-lt512-via-else-m-lt512}

pub returns : goal.returns
returns c =
    elim c.else-m-lt512.branch [
      | else-m-lt512-via-then-m-lt512+else-any_lacking w ↦ search (next-edge-laws, rules)
      | else-m-lt512-via-else-m-lt512 w ↦ search (next-edge-laws, rules)
    ]
