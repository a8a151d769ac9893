-- A graph on positions below 512, as rows of nine words: eight of its edges, and one whose lowest bit is an edge to ALL-UNNAMED; and
-- what a depth-first search by marks leaves.
use Rattle.std.specs.Prelude.{◌≡◌, Bool, true, false, not, ◌&&◌, List, ◌⊎◌, ℕ, ◌+◌, ◌*◌, ◌/◌, ◌%◌, ◌<◌, ltb, get_or}
use Rattle.resolution.specs.Row.{bit, holds, count_below}

-- 512 rows of nine words
abbrev pub rows_length : ℕ
rows_length = 4608

-- there is an edge from i to j: bit j of row i
unfoldable pub edge : List ℕ → ℕ → ℕ → Bool
edge g i j = ltb j 512 && bit (get_or g (i * 9 + j / 64) 0) (j % 64)

-- the ninth word of row i
unfoldable pub ninth : List ℕ → ℕ → ℕ
ninth g i = get_or g (i * 9 + 8) 0

-- there is an edge from i to ALL-UNNAMED: its lowest bit
unfoldable pub unnamed_edge : List ℕ → ℕ → Bool
unfolding ninth
unnamed_edge g i = bit (ninth g i) 0

-- ws holds the positions that an edge from i leads to, and no other
pub record Successors (g : List ℕ) (i : ℕ) (ws : List ℕ) : Type 0 where
  pub each : (j : ℕ) → holds ws j ≡ edge g i j

-- there is an edge from i to j, and j is not held
unfoldable pub lacks : List ℕ → ℕ → List ℕ → ℕ → Bool
lacks g i out j = edge g i j && not (holds out j)

-- ws holds the positions that an edge from i leads to and that `out` does not hold, and no other
pub record Lacking (g : List ℕ) (i : ℕ) (out ws : List ℕ) : Type 0 where
  pub each : (j : ℕ) → holds ws j ≡ lacks g i out j

-- r is false only where `out` holds every position that an edge from i leads to
pub record AnyLacking (g : List ℕ) (i : ℕ) (out : List ℕ) (r : Bool) : Type 0 where
  pub none : r ≡ false → (j : ℕ) → lacks g i out j ≡ false

-- there is a path of one edge or more from m to k
pub data Reach (g : List ℕ) (m : ℕ) : ℕ → Type 0 where
  step : {k : ℕ} → edge g m k ≡ true → Reach g m k
  then : {j k : ℕ} → Reach g m j → edge g j k ≡ true → Reach g m k

-- how many positions are not marked
unfoldable pub unmarked : List ℕ → ℕ
unmarked ws = count_below (λ k. not (holds ws k)) 512

-- `after` is `before` with marks from m on: m's successors below n are marked
pub record Collected (g : List ℕ) (m n : ℕ) (before after : List ℕ) : Type 0 where
  -- no mark is lost
  pub kept : (j : ℕ) → holds before j ≡ true → holds after j ≡ true
  -- a new mark stands at what m reaches
  pub sound : (j : ℕ) → holds after j ≡ true → (holds before j ≡ true) ⊎ Reach g m j
  -- the successors of a new mark are marked
  pub closed : (j : ℕ) → holds after j ≡ true → (holds before j ≡ true) ⊎ ((k : ℕ) → edge g j k ≡ true → holds after k ≡ true)
  -- m's successors are marked
  pub next : (k : ℕ) → k < n → edge g m k ≡ true → holds after k ≡ true

-- `after` holds `from` and what its positions reach, and nothing else
pub record ReachedFrom (g from after : List ℕ) : Type 0 where
  pub kept : (j : ℕ) → holds from j ≡ true → holds after j ≡ true
  pub sound : (j : ℕ) → holds after j ≡ true → (holds from j ≡ true) ⊎ ((m : ℕ) × (holds from m ≡ true) × Reach g m j)
  pub complete : (m j : ℕ) → holds from m ≡ true → Reach g m j → holds after j ≡ true
