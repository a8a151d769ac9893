-- The graph of reads of a configuration (document 01, "Access"): who reads a name, and what one read edge or more lead to.
use Rattle.std.specs.Prelude.{◌≡◌, Bool, true, false, ◌&&◌, ◌||◌, List, ◌⊎◌, ℕ, zero, suc, replicate}
use Rattle.records.specs.Set.{modules, check_set, count_of}
use Rattle.records.specs.Finder.{find_module}
use Rattle.records.specs.declared.error.ModuleError.{ModuleError}
use Rattle.records.specs.Finder.{Found}
use Rattle.records.specs.Set.{CountAnswer}
use Rattle.resolution.specs.Configuration.{with_words}
use Rattle.resolution.specs.Lists.{Name}
use Rattle.resolution.specs.Observed.{has_member, has_edge, has_unnamed_edge}
use Rattle.resolution.specs.Row.{holds, words}
use Rattle.access.specs.Access.{is_reader}
use Rattle.access.specs.declared.graph.GraphAnswer.{GraphAnswer}
use Rattle.std.specs.Prelude.{Some, None, Result, Ok, Err}

-- ---- edges that count

-- the module at i reads the module at j: "an edge counts if its source is a member; its target need not be one"
unfoldable pub reads_at : List ℕ → List ℕ → ℕ → ℕ → Bool
unfolding has_member has_edge
reads_at s c i j = has_member (modules s) c i && has_edge (modules s) c i j

-- the module at i reads ALL-UNNAMED
unfoldable pub reads_unnamed_at : List ℕ → List ℕ → ℕ → Bool
unfolding has_member has_unnamed_edge
reads_unnamed_at s c i = has_member (modules s) c i && has_unnamed_edge (modules s) c i

-- ---- rows of positions

-- the words of a row
abbrev pub row_length : ℕ
row_length = 8

-- some number below n passes
unfoldable pub any_below : (ℕ → Bool) → ℕ → Bool
any_below p zero = false
any_below p (suc n) = any_below p n || p n

-- the row, and what an edge of r leads to from a position below n that it holds
unfoldable pub widened : (ℕ → ℕ → Bool) → ℕ → List ℕ → List ℕ
unfolding words any_below
widened r n row = words (λ k. holds row k || any_below (λ j. holds row j && r j k) n) row_length

-- so often
unfoldable pub widened_times : (ℕ → ℕ → Bool) → ℕ → ℕ → List ℕ → List ℕ
unfolding widened
widened_times r n zero row = row
widened_times r n (suc f) row = widened_times r n f (widened r n row)

-- what one edge of r or more lead to from i, where edges lead to positions below n alone: n turns are enough (`led_complete`)
unfoldable pub led_row : (ℕ → ℕ → Bool) → ℕ → ℕ → List ℕ
unfolding widened_times words
led_row r n i = widened_times r n n (words (r i) row_length)

-- ---- the answers

-- the answer, or refusals 1 to 3 of the set, and 4 for fewer than 4,616 words (U12)
abbrev pub GraphOutcome : Type 0
GraphOutcome = Result GraphAnswer ModuleError

unfoldable pub readers_answered : List ℕ → List ℕ → Name → CountAnswer → GraphOutcome
unfolding words is_reader
readers_answered s c y (Err e) = Err e
readers_answered s c y (Ok n) = Ok (record { row = words (is_reader s c y) row_length; unnamed = false })

-- the members that read y; ALL-UNNAMED is never among them
unfoldable pub readers_of : List ℕ → List ℕ → Name → GraphOutcome
unfolding readers_answered with_words
readers_of s c y = readers_answered s c y (with_words c (count_of (check_set s)))

-- from a position that is found: what the module there leads to, and whether it or one of these reads ALL-UNNAMED
unfoldable pub led_found : List ℕ → List ℕ → ℕ → Found → GraphAnswer
unfolding led_row reads_at reads_unnamed_at any_below
led_found s c n (Some i) = record {
  row = led_row (reads_at s c) n i;
  unnamed = reads_unnamed_at s c i || any_below (λ k. holds (led_row (reads_at s c) n i) k && reads_unnamed_at s c k) n;
}
led_found s c n None = record { row = replicate row_length 0; unnamed = false }

unfoldable pub transitive_answered : List ℕ → List ℕ → Name → CountAnswer → GraphOutcome
unfolding led_found
transitive_answered s c x (Err e) = Err e
transitive_answered s c x (Ok n) = Ok (led_found s c n (find_module s x))

-- "`transitive_reads` (one edge or more); a name without any gives the empty set"
unfoldable pub transitive_reads : List ℕ → List ℕ → Name → GraphOutcome
unfolding transitive_answered with_words
transitive_reads s c x = transitive_answered s c x (with_words c (count_of (check_set s)))

-- ---- what the answer of `transitive_reads` is, by paths: this one and no other (`transitive_led`, `transitive_only`)

-- one edge or more of r lead from i to k
pub data Leads (r : ℕ → ℕ → Bool) (i : ℕ) : ℕ → Type 0 where
  step : {k : ℕ} → r i k ≡ true → Leads r i k
  then : {j k : ℕ} → Leads r i j → r j k ≡ true → Leads r i k

-- u is true of i, or of a position that edges of r from there lead to
abbrev pub LeadsToOne : (ℕ → ℕ → Bool) → (ℕ → Bool) → ℕ → Type 0
LeadsToOne r u i = (u i ≡ true) ⊎ ((k : ℕ) × Leads r i k × (u k ≡ true))

-- ALL-UNNAMED is read by the module at i, or by one that edges from there lead to
abbrev pub LeadsToUnnamed : List ℕ → List ℕ → ℕ → Type 0
LeadsToUnnamed s c i = LeadsToOne (reads_at s c) (reads_unnamed_at s c) i

-- the answer r tells all that the module of the name x leads to, and nothing else; nothing, where no module has the name
pub record LedFrom (s : List ℕ) (c : List ℕ) (x : Name) (r : GraphAnswer) : Type 0 where
  -- eight words, given by the positions that they hold
  pub row_words : r.row ≡ words (holds r.row) row_length
  pub row_sound : (k : ℕ) → holds r.row k ≡ true → (i : ℕ) × (find_module s x ≡ Some i) × Leads (reads_at s c) i k
  pub row_complete : (i k : ℕ) → find_module s x ≡ Some i → Leads (reads_at s c) i k → holds r.row k ≡ true
  pub unnamed_sound : r.unnamed ≡ true → (i : ℕ) × (find_module s x ≡ Some i) × LeadsToUnnamed s c i
  pub unnamed_complete : (i : ℕ) → find_module s x ≡ Some i → LeadsToUnnamed s c i → r.unnamed ≡ true

-- the refusals first
pub record TransitiveReads (s : List ℕ) (c : List ℕ) (x : Name) (r : GraphOutcome) : Type 0 where
  pub refused : (e : ModuleError) → with_words c (count_of (check_set s)) ≡ Err e → r ≡ Err e
  pub answered : (n : ℕ) → with_words c (count_of (check_set s)) ≡ Ok n → (a : GraphAnswer) × (r ≡ Ok a) × LedFrom s c x a
