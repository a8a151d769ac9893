-- What each step of the questions about the graph leaves. Everywhere below n is the number of the set's modules, ws is the row of the
-- members that count and g the words of the configuration; v tells the positions of observable modules.
use Rattle.std.specs.Prelude.{◌≡◌, Bool, true, ◌&&◌, ◌||◌, List, ℕ, ◌<◌, ltb}
use Rattle.records.specs.Finder.{Found}
use Rattle.resolution.specs.Row.{holds, words}
use Rattle.resolution.specs.Configuration.{member_bit, edge_bit, unnamed_bit}
use Rattle.access.specs.Access.{passes}
use Rattle.access.specs.ReadGraph.{row_length, Leads, LeadsToOne}
use Rattle.access.specs.declared.graph.GraphAnswer.{GraphAnswer}

-- the answer of this row
pub record Told (row : List ℕ) (unnamed : Bool) (r : GraphAnswer) : Type 0 where
  pub is : r ≡ record { row = row; unnamed = unnamed }
  -- the words are those of any test that these positions pass
  pub by_words : (p : ℕ → Bool) → ((k : ℕ) → k < 512 → holds row k ≡ p k) → row ≡ words p row_length

-- the member at k reads what is found or, if asked, ALL-UNNAMED
unfoldable pub reader_at : List ℕ → List ℕ → Found → Bool → ℕ → Bool
unfolding passes
reader_at ws g f u k = holds ws k && (passes (edge_bit g k) f || (u && unnamed_bit g k))

unfoldable pub reader_below : ℕ → List ℕ → List ℕ → Found → Bool → ℕ → Bool
unfolding reader_at
reader_below n ws g f u k = ltb k n && reader_at ws g f u k

-- position i is that of an observable module, and ws holds it
unfoldable pub counts_at : (ℕ → Bool) → List ℕ → ℕ → Bool
counts_at v ws i = v i && holds ws i

-- position i passes, and is a member by the words g
unfoldable pub counts_in : (ℕ → Bool) → List ℕ → ℕ → Bool
counts_in v g i = v i && member_bit g i

-- an edge that counts leads from i to j
unfoldable pub edge_counts : (ℕ → Bool) → List ℕ → List ℕ → ℕ → ℕ → Bool
unfolding counts_at
edge_counts v ws g i j = counts_at v ws i && (v j && edge_bit g i j)

-- and one to ALL-UNNAMED
unfoldable pub unnamed_counts : (ℕ → Bool) → List ℕ → List ℕ → ℕ → Bool
unfolding counts_at
unnamed_counts v ws g i = counts_at v ws i && unnamed_bit g i

-- the positions seen are below n, and the members are among them
pub record Masked (n : ℕ) (seen ws : List ℕ) : Type 0 where
  pub within : (k : ℕ) → holds seen k ≡ true → k < n
  pub inside : (k : ℕ) → holds ws k ≡ true → holds seen k ≡ true

-- the row, and what i reads if it is in the row and a member
unfoldable pub spread_at : List ℕ → List ℕ → List ℕ → ℕ → ℕ → Bool
spread_at row ws g i j = holds row j || ((holds row i && holds ws i) && edge_bit g i j)

-- an edge that counts leads from i to j, which may be past the modules, or hidden
unfoldable pub onward_at : ℕ → List ℕ → List ℕ → ℕ → ℕ → Bool
onward_at n ws g i j = (ltb i n && holds ws i) && edge_bit g i j

-- k is in the row, or such edges lead there from it
pub data From (n : ℕ) (ws g row : List ℕ) : ℕ → Type 0 where
  at : {k : ℕ} → holds row k ≡ true → From n ws g row k
  on : {j k : ℕ} → From n ws g row j → onward_at n ws g j k ≡ true → From n ws g row k

-- every member of the row has its edges in `after`
pub record Swept (n : ℕ) (ws g before after : List ℕ) : Type 0 where
  pub kept : (j : ℕ) → holds before j ≡ true → holds after j ≡ true
  pub sound : (j : ℕ) → holds after j ≡ true → From n ws g before j
  pub next : (i : ℕ) → i < n → holds before i ≡ true → holds ws i ≡ true → (j : ℕ) → edge_bit g i j ≡ true → holds after j ≡ true

-- `after` holds what edges lead to from the row, and the row itself
pub record Gathered (n : ℕ) (ws g row after : List ℕ) : Type 0 where
  pub sound : (j : ℕ) → holds after j ≡ true → From n ws g row j
  pub complete : (j : ℕ) → From n ws g row j → holds after j ≡ true

-- k is in the row, is a member, and reads ALL-UNNAMED
unfoldable pub unnamed_in : List ℕ → List ℕ → List ℕ → ℕ → Bool
unnamed_in row ws g k = holds row k && (holds ws k && unnamed_bit g k)

-- the answer r tells what the module at i leads to
pub record Onward (v : ℕ → Bool) (ws g : List ℕ) (i : ℕ) (r : GraphAnswer) : Type 0 where
  pub row_words : r.row ≡ words (holds r.row) row_length
  pub row_sound : (k : ℕ) → holds r.row k ≡ true → Leads (edge_counts v ws g) i k
  pub row_complete : (k : ℕ) → Leads (edge_counts v ws g) i k → holds r.row k ≡ true
  pub unnamed_sound : r.unnamed ≡ true → LeadsToOne (edge_counts v ws g) (unnamed_counts v ws g) i
  pub unnamed_complete : LeadsToOne (edge_counts v ws g) (unnamed_counts v ws g) i → r.unnamed ≡ true
