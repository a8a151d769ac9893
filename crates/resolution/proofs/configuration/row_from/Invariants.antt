use Rattle.std.proofs.Common.{◌≡◌, ℕ, ◌+◌, ◌<◌, get_or, length}
use Rattle.resolution.proofs.configuration.row_from.Given as goal

abbrev pub invariant-loop-k : goal.invariant-loop-k
invariant-loop-k l = record { long : length l.own ≡ 8; so_far : (j : ℕ) → j < l.k → get_or l.own j 0 ≡ get_or l.words (l.at + j) 0 }
