-- The rows of `transitive_reads`: n turns hold what one edge or more lead to, and nothing else, where edges lead to n positions alone.
use mathlib.Core.Path.{◌≡◌, refl, sym, ap, ◌∙◌, subst}
use mathlib.Core.Bool.{Bool, true, false, ◌&&◌, ◌||◌}
use mathlib.Core.List.{List}
use mathlib.Core.Logic.{◌⊎◌, inl, inr, ⊎_elim}
use Prim.Native.Nat.{ℕ, zero, suc, ◌+◌, ◌≤◌, ◌<◌}
use native.Mathlib.Nat.{eq-or-lt_of_le, le_of_suc-le-suc}
use native.Mathlib.Omega.{arith}
use lib.Dec.{ltb}
use lib.ListN.{replicate}
use borrow.Author.Tests.{ltb-true, ltb-false}
use Rattle.records.specs.Set.{modules, check_set, count_of, starts_in}
use Rattle.records.specs.Finder.{find_module}
use Rattle.records.specs.declared.error.ModuleError.{ModuleError}
use Rattle.records.specs.Finder.{Found}
use Rattle.records.specs.Set.{CountAnswer}
use Rattle.records.proofs.Logic.{by, clash, true≠false, and_left, and_right, and_both, and_split, or_left, or_right, or_cases}
use Rattle.records.proofs.set.Blocks.{GoodSet, good-set}
use Rattle.resolution.specs.Lists.{Name}
use Rattle.resolution.specs.Observed.{has_member, has_edge}
use Rattle.resolution.specs.Positions.{is_visible}
use Rattle.resolution.specs.Configuration.{with_words, edge_bit}
use Rattle.resolution.specs.Row.{bit, holds, one, count_below, bits_from, words_from, words}
use Rattle.resolution.proofs.ConfigurationWords.{with-taken}
use Rattle.resolution.proofs.Positions.{visible_in}
use Rattle.resolution.proofs.Sets.{set-length}
use Rattle.resolution.proofs.WordBits.{holds-words}
use Rattle.resolution.proofs.Words.{words-over}
use Rattle.resolution.proofs.row.Counts.{count-le, count-strict}
use Rattle.resolution.proofs.row.Laws.{holds-out, empty-zeros}
use Rattle.access.specs.ReadGraph.{row_length, reads_at, reads_unnamed_at, any_below, widened, widened_times, led_row, Leads, step, then, GraphOutcome, led_found, transitive_answered, transitive_reads, LeadsToUnnamed, LedFrom, TransitiveReads}
use Rattle.access.specs.declared.graph.GraphAnswer.{GraphAnswer}
use Rattle.records.proofs.request.Taken.{answer-taken}
use Rattle.std.specs.Prelude.{Some, None, Ok, Err}

-- ---- some number below n

pub any_at : (p : ℕ → Bool) (n k : ℕ) → k < n → p k ≡ true → any_below p n ≡ true
unfolding any_below
any_at p zero k l h = absurd (omega arith)
any_at p (suc n) k l h = ⊎_elim
    (λ (i : k ≡ n). or_right (any_below p n) (p n) (subst (λ (x : ℕ). p x ≡ true) i h))
    (λ (i : k < n). or_left (any_below p n) (p n) (any_at p n k i h))
    (eq-or-lt_of_le (le_of_suc-le-suc l))

pub any_of : (p : ℕ → Bool) (n : ℕ) → any_below p n ≡ true → (k : ℕ) × (k < n) × (p k ≡ true)
unfolding any_below
any_of p zero h = true≠false h refl
any_of p (suc n) h = or_cases (any_below p n) (p n) h
    (λ y. let r = any_of p n y in (r.0, omega (arith, r.1), r.2))
    (λ y. (n, omega arith, y))

pub none_of : (p : ℕ → Bool) (n : ℕ) → ((k : ℕ) → k < n → p k ≡ false) → any_below p n ≡ false
none_of p n h = by (any_below p n) (λ y. let r = any_of p n y in true≠false r.2 (h r.0 r.1)) (λ y. y)

-- ---- a row that holds positions below n alone

-- those that pass a test
module _ (p : ℕ → Bool) (n : ℕ) (few : n ≤ 512) (low : (k : ℕ) → p k ≡ true → k < n) where
  pub held-is : (k : ℕ) → holds (words p row_length) k ≡ p k
  unfolding words words_from
  held-is k = by (ltb k 512)
      (λ y. holds-words p row_length k (ltb-true k 512 y))
      (λ y. holds-out (words p row_length) k refl (ltb-false k 512 y)
      ∙ by (p k) (λ z. absurd (omega (arith, low k z, ltb-false k 512 y))) (λ z. sym z))

  held-words : words p row_length ≡ words (holds (words p row_length)) row_length
  held-words = words-over p (holds (words p row_length)) (λ k. sym (held-is k)) row_length

-- words given by the positions that they hold, which are below n
pub record Low (n : ℕ) (row : List ℕ) : Type 0 where
  pub below : (k : ℕ) → holds row k ≡ true → k < n
  pub by_words : row ≡ words (holds row) row_length

low-words : (p : ℕ → Bool) (n : ℕ) → n ≤ 512 → ((k : ℕ) → p k ≡ true → k < n) → Low n (words p row_length)
low-words p n few low = record { below = λ k h. low k (sym (held-is p n few low k) ∙ h); by_words = held-words p n few low }

-- ---- turns

module _ (r : ℕ → ℕ → Bool) (n : ℕ) (few : n ≤ 512) (target : (j k : ℕ) → r j k ≡ true → k < n) where
  -- edges from the row lead into it
  Closed : List ℕ → Type 0
  Closed row = (j k : ℕ) → holds row j ≡ true → r j k ≡ true → holds row k ≡ true

  module _ (row : List ℕ) (low : Low n row) where
    -- into the row, by one edge from it
    into : ℕ → Bool
    into k = any_below (λ j. holds row j && r j k) n

    wide : ℕ → Bool
    wide k = holds row k || into k

    into-of : (k : ℕ) → into k ≡ true → (j : ℕ) × (holds row j ≡ true) × (r j k ≡ true)
    unfolding into
    into-of k h = let f = any_of (λ j. holds row j && r j k) n h in
        (f.0, and_left (holds row f.0) (r f.0 k) f.2, and_right (holds row f.0) (r f.0 k) f.2)

    wide_low : (k : ℕ) → wide k ≡ true → k < n
    unfolding wide
    wide_low k h = or_cases (holds row k) (into k) h (λ y. low.below k y) (λ y. let f = into-of k y in target f.0 k f.2)

    wide_is : (k : ℕ) → holds (widened r n row) k ≡ wide k
    unfolding widened wide into
    wide_is k = held-is wide n few wide_low k

    low_wide : Low n (widened r n row)
    unfolding widened wide into
    low_wide = low-words wide n few wide_low

    kept : (k : ℕ) → holds row k ≡ true → holds (widened r n row) k ≡ true
    unfolding wide
    kept k h = wide_is k ∙ or_left (holds row k) (into k) h

    next : (j k : ℕ) → holds row j ≡ true → r j k ≡ true → holds (widened r n row) k ≡ true
    unfolding wide into
    next j k h e = wide_is k ∙ or_right (holds row k) (into k) (any_at (λ i. holds row i && r i k) n j (low.below j h) (and_both h e))

    out : (k : ℕ) → holds (widened r n row) k ≡ true → (holds row k ≡ true) ⊎ ((j : ℕ) × (holds row j ≡ true) × (r j k ≡ true))
    unfolding wide
    out k h = or_cases (holds row k) (into k) (sym (wide_is k) ∙ h) (λ y. inl y) (λ y. inr (into-of k y))

    -- a row that edges lead into stays so
    stays : Closed row → Closed (widened r n row)
    unfolding Closed
    stays c j k h e = kept k (c j k (⊎_elim (λ y. y) (λ y. c y.0 j y.1 y.2) (out j h)) e)

    -- a turn after which there are no more positions found no edge out of the row
    still : count_below (holds (widened r n row)) n ≤ count_below (holds row) n → Closed row
    unfolding Closed
    still l j k h e = by (holds row k) (λ y. y)
        (λ y. absurd (omega (arith, l, count-strict (holds row) (holds (widened r n row)) n k (target j k e) (λ i b z. kept i z) y (next j k h e))))

    -- nor does an edge lead out of all positions below n
    full : n ≤ count_below (holds row) n → Closed row
    unfolding Closed
    full l j k h e = by (holds row k) (λ y. y)
        (λ y. absurd (omega (arith, l, count-le (λ _. true) n, count-strict (holds row) (λ _. true) n k (target j k e) (λ i b z. refl) y refl)))

  -- ---- f turns

  low-times : (f : ℕ) (row : List ℕ) → Low n row → Low n (widened_times r n f row)
  unfolding widened_times
  low-times zero row low = low
  low-times (suc f) row low = low-times f (widened r n row) (low_wide row low)

  kept-times : (f : ℕ) (row : List ℕ) → Low n row → (k : ℕ) → holds row k ≡ true → holds (widened_times r n f row) k ≡ true
  unfolding widened_times
  kept-times zero row low k h = h
  kept-times (suc f) row low k h = kept-times f (widened r n row) (low_wide row low) k (kept row low k h)

  stays-times : (f : ℕ) (row : List ℕ) → Low n row → Closed row → Closed (widened_times r n f row)
  unfolding widened_times
  stays-times zero row low c = c
  stays-times (suc f) row low c = stays-times f (widened r n row) (low_wide row low) (stays row low c)

  -- enough turns: each adds a position, or there is no more to add
  enough : (f : ℕ) (row : List ℕ) → Low n row → n ≤ f + count_below (holds row) n → Closed (widened_times r n f row)
  unfolding widened_times
  enough zero row low l = full row low (omega arith)
  enough (suc f) row low l =
      let a : ℕ = count_below (holds row) n in
      let b : ℕ = count_below (holds (widened r n row)) n in
      by (ltb a b)
      (λ y. enough f (widened r n row) (low_wide row low) (omega (arith, l, ltb-true a b y)))
      (λ y. stays-times (suc f) row low (still row low (omega (arith, ltb-false a b y))))

  sound-times : (i f : ℕ) (row : List ℕ) → Low n row → ((k : ℕ) → holds row k ≡ true → Leads r i k)
      → (k : ℕ) → holds (widened_times r n f row) k ≡ true → Leads r i k
  unfolding widened_times
  sound-times i zero row low s k h = s k h
  sound-times i (suc f) row low s k h = sound-times i f (widened r n row) (low_wide row low)
      (λ j y. ⊎_elim (λ z. s j z) (λ z. then (s z.0 z.1) z.2) (out row low j y)) k h

  -- ---- from i

  module _ (i : ℕ) where
    first-low : Low n (words (r i) row_length)
    first-low = low-words (r i) n few (target i)

    first-is : (k : ℕ) → holds (words (r i) row_length) k ≡ r i k
    first-is k = held-is (r i) n few (target i) k

    pub led-low : Low n (led_row r n i)
    unfolding led_row
    led-low = low-times n (words (r i) row_length) first-low

    pub led-sound : (k : ℕ) → holds (led_row r n i) k ≡ true → Leads r i k
    unfolding led_row
    led-sound k h = sound-times i n (words (r i) row_length) first-low (λ j y. step (sym (first-is j) ∙ y)) k h

    pub led_complete : (k : ℕ) → Leads r i k → holds (led_row r n i) k ≡ true
    unfolding led_row Closed
    led_complete k (step e) = kept-times n (words (r i) row_length) first-low k (first-is k ∙ e)
    led_complete k (then {j = j} f e) = enough n (words (r i) row_length) first-low (omega arith) j k (led_complete j f) e

-- ---- the answer

zeros : replicate row_length 0 ≡ words (holds (replicate row_length 0)) row_length
unfolding words words_from bits_from one holds bit
zeros = refl

module _ (s : List ℕ) (c : List ℕ) (x : Name) (n : ℕ) (h : with_words c (count_of (check_set s)) ≡ Ok n) where
  good : GoodSet s n (starts_in (check_set s))
  good = good-set s n (starts_in (check_set s)) (answer-taken (check_set s) n (with-taken c (count_of (check_set s)) n h).0)

  seen_low : (k : ℕ) → is_visible (modules s) k ≡ true → k < n
  seen_low k v = omega (arith, visible_in (modules s) k v, set-length s n (starts_in (check_set s)) good)

  -- an edge leads to a module that is not hidden
  target-low : (j k : ℕ) → reads_at s c j k ≡ true → k < n
  unfolding reads_at has_edge
  target-low j k e = seen_low k (and_left (is_visible (modules s) k) (edge_bit c j k)
      (and_right (is_visible (modules s) j) (is_visible (modules s) k && edge_bit c j k) (and_right (has_member (modules s) c j) (has_edge (modules s) c j k) e)))

  abbrev row_at : ℕ → List ℕ
  row_at i = led_row (reads_at s c) n i

  abbrev last_at : ℕ → ℕ → Bool
  last_at i k = holds (row_at i) k && reads_unnamed_at s c k

  row_low : (i : ℕ) → Low n (row_at i)
  row_low i = led-low (reads_at s c) n good.few target-low i

  row_out : (i k : ℕ) → holds (row_at i) k ≡ true → Leads (reads_at s c) i k
  row_out i k e = led-sound (reads_at s c) n good.few target-low i k e

  row_in : (i k : ℕ) → Leads (reads_at s c) i k → holds (row_at i) k ≡ true
  row_in i k f = led_complete (reads_at s c) n good.few target-low i k f

  last_out : (i : ℕ) → reads_unnamed_at s c i || any_below (last_at i) n ≡ true → LeadsToUnnamed s c i
  last_out i e = or_cases (reads_unnamed_at s c i) (any_below (last_at i) n) e (λ y. inl y)
      (λ y. let f = any_of (last_at i) n y in
      let m = and_split (holds (row_at i) f.0) (reads_unnamed_at s c f.0) f.2 in
      inr (f.0, row_out i f.0 m.0, m.1))

  last_in : (i : ℕ) → LeadsToUnnamed s c i → reads_unnamed_at s c i || any_below (last_at i) n ≡ true
  last_in i y = ⊎_elim
      (λ z. or_left (reads_unnamed_at s c i) (any_below (last_at i) n) z)
      (λ z. let e = row_in i z.0 z.1 in
      or_right (reads_unnamed_at s c i) (any_below (last_at i) n) (any_at (last_at i) n z.0 ((row_low i).below z.0 e) (and_both e z.2))) y

  found-led : (f : Found) → find_module s x ≡ f → LedFrom s c x (led_found s c n f)
  unfolding led_found
  found-led (Some i) e = record {
    row_words = (row_low i).by_words;
    row_sound = λ k y. (i, e, row_out i k y);
    row_complete = λ a k ea f. row_in i k (subst (λ (z : ℕ). Leads (reads_at s c) z k) (same a ea) f);
    unnamed_sound = λ y. (i, e, last_out i y);
    unnamed_complete = λ a ea f. last_in i (subst (λ (z : ℕ). LeadsToUnnamed s c z) (same a ea) f);
  }
    where
      same : (a : ℕ) → find_module s x ≡ Some a → a ≡ i
      same a ea = let q : Some a ≡ Some i = sym ea ∙ e in cc
  found-led None e = record {
    row_words = zeros;
    row_sound = λ k y. true≠false y ((empty-zeros row_length).none k);
    row_complete = λ a k ea f. absurd (none a ea);
    unnamed_sound = λ y. true≠false y refl;
    unnamed_complete = λ a ea f. absurd (none a ea);
  }
    where
      none : (a : ℕ) → find_module s x ≡ Some a → ⊥
      none a ea = let q : Some a ≡ None = sym ea ∙ e in clash (cc)

  pub answer-led : (a : GraphAnswer) × (transitive_reads s c x ≡ Ok a) × LedFrom s c x a
  unfolding transitive_reads transitive_answered
  answer-led = (led_found s c n (find_module s x), ap (transitive_answered s c x) h, found-led (find_module s x) refl)

-- ---- and no other

each_way : (a b : Bool) → (a ≡ true → b ≡ true) → (b ≡ true → a ≡ true) → a ≡ b
each_way true b f g = sym (f refl)
each_way false true f g = g refl
each_way false false f g = refl

parts : (w₁ w₂ : List ℕ) (u₁ u₂ : Bool) → w₁ ≡ w₂ → u₁ ≡ u₂ → ◌≡◌ {A = GraphAnswer} (record { row = w₁; unnamed = u₁ }) (record { row = w₂; unnamed = u₂ })
parts w₁ w₂ u₁ u₂ q e = rw (q, e)

module _ (s : List ℕ) (c : List ℕ) (x : Name) (a b : GraphAnswer) (l : LedFrom s c x a) (m : LedFrom s c x b) where
  same-held : (k : ℕ) → holds a.row k ≡ holds b.row k
  same-held k = each_way (holds a.row k) (holds b.row k)
      (λ y. let f = l.row_sound k y in m.row_complete f.0 k f.1 f.2)
      (λ y. let f = m.row_sound k y in l.row_complete f.0 k f.1 f.2)

  same_row : a.row ≡ b.row
  same_row = l.row_words ∙ words-over (holds a.row) (holds b.row) same-held row_length ∙ sym m.row_words

  same-last : a.unnamed ≡ b.unnamed
  same-last = each_way a.unnamed b.unnamed
      (λ y. let f = l.unnamed_sound y in m.unnamed_complete f.0 f.1 f.2)
      (λ y. let f = m.unnamed_sound y in l.unnamed_complete f.0 f.1 f.2)

  pub led-same : a ≡ b
  led-same = parts a.row b.row a.unnamed b.unnamed same_row same-last

-- of a set that the check takes
pub led-is : (s : List ℕ) (c : List ℕ) (x : Name) (n : ℕ) → with_words c (count_of (check_set s)) ≡ Ok n → (r : GraphAnswer) → LedFrom s c x r → Ok r ≡ transitive_reads s c x
led-is s c x n h r l = let a = answer-led s c x n h in ap Ok (led-same s c x r a.0 l a.2) ∙ sym a.1

-- ---- of any set

-- the answer tells what one edge or more lead to, and no other answer does
module _ (s : List ℕ) (c : List ℕ) (x : Name) where
  pub transitive_refused : (e : ModuleError) → with_words c (count_of (check_set s)) ≡ Err e → transitive_reads s c x ≡ Err e
  unfolding transitive_reads transitive_answered
  transitive_refused e h = ap (transitive_answered s c x) h

  pub transitive_led : TransitiveReads s c x (transitive_reads s c x)
  transitive_led = record { refused = transitive_refused; answered = answer-led s c x }

  pub transitive_only : (r : GraphOutcome) → TransitiveReads s c x r → r ≡ transitive_reads s c x
  transitive_only r t = go (with_words c (count_of (check_set s))) refl
    where
      go : (a : CountAnswer) → with_words c (count_of (check_set s)) ≡ a → r ≡ transitive_reads s c x
      go (Err e) h = t.refused e h ∙ sym (transitive_refused e h)
      go (Ok n) h = let a = t.answered n h in a.1 ∙ led-is s c x n h a.0 a.2
