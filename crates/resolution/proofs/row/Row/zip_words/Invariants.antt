use Rattle.std.proofs.Common.{◌≡◌, ℕ, ◌<◌, get_or, length}
use Rattle.resolution.proofs.row.Row.zip_words.Given as goal

abbrev pub invariant-loop-k : goal.invariant-loop-k
invariant-loop-k g l = record { long : length l.words ≡ 8; so_far : (j : ℕ) → j < l.k → g.F.Fn.post l.f (get_or l.self.words j 0, (get_or l.other.words j 0, tt)) (get_or l.words j 0) }
