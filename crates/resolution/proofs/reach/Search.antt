-- The steps of a depth-first search on its marks: the start, a successor that needs no visit, a visit, the end, and that a visit has fewer unmarked positions.
use mathlib.Core.Path.{◌≡◌, refl, sym, ap, ◌∙◌, subst}
use mathlib.Core.Bool.{Bool, true, false, ◌||◌, not}
use mathlib.Core.List.{List}
use mathlib.Core.Logic.{◌⊎◌, inl, inr, ⊎_elim}
use Prim.Native.Nat.{ℕ, ◌+◌, ◌≤◌, ◌<◌}
use native.Mathlib.Nat.{eq-or-lt_of_le}
use native.Mathlib.Omega.{arith}
use lib.Dec.{eqb, ltb}
use borrow.Author.Tests.{eq-eqb, eqb-true, ltb-true, ltb-false}
use lib.ListN.{length}
use Rattle.records.proofs.Logic.{true≠false, by, or_left, or_right, or_cases}
use Rattle.resolution.specs.Row.{holds}
use Rattle.resolution.specs.Graph.{edge, Reach, step, then, Collected, unmarked, ReachedFrom}
use Rattle.resolution.proofs.graph.Edges.{edge-below, edge-out}
use Rattle.resolution.proofs.row.Counts.{count-strict}

below_next : (k j : ℕ) → j < k + 1 → (j ≡ k) ⊎ (j < k)
below_next k j h = eq-or-lt_of_le (omega arith)

lt-or-le : (m n : ℕ) → (m < n) ⊎ (n ≤ m)
lt-or-le m n = by (ltb m n) (λ h. inl (ltb-true m n h)) (λ h. inr (ltb-false m n h))

-- a path that starts one edge earlier
pub prepend : {g : List ℕ} {m k j : ℕ} → edge g m k ≡ true → Reach g k j → Reach g m j
prepend e (step f) = then (step e) f
prepend e (then r f) = then (prepend e r) f

module _ (g : List ℕ) (m : ℕ) where
  -- no successor looked at
  pub start : (ws : List ℕ) → Collected g m 0 ws ws
  start ws = record { kept = λ j h. h; sound = λ j h. inl h; closed = λ j h. inl h; next = λ k l e. absurd (omega arith) }

  -- none from k on and before n is a successor that is not marked
  pub skip : (k n : ℕ) (before out : List ℕ) → Collected g m k before out
      → ((j : ℕ) → k ≤ j → j < n → edge g m j ≡ true → holds out j ≡ true) → Collected g m n before out
  skip k n before out s h = record {
    kept = s.kept;
    sound = s.sound;
    closed = s.closed;
    next = λ j l e. ⊎_elim (λ b. s.next j b e) (λ b. h j b l e) (lt-or-le j k);
  }

  -- k is a successor, and is marked and visited
  module _ (k : ℕ) (before out marked after : List ℕ) (s : Collected g m k before out) (e : edge g m k ≡ true)
      (w : (j : ℕ) → holds marked j ≡ holds out j || eqb j k) (v : Collected g k 512 marked after) where
    keeps : (j : ℕ) → holds out j ≡ true → holds after j ≡ true
    keeps j h = v.kept j (w j ∙ or_left (holds out j) (eqb j k) h)

    new : holds after k ≡ true
    new = v.kept k (w k ∙ or_right (holds out k) (eqb k k) (eq-eqb k k refl))

    cases : (j : ℕ) → holds marked j ≡ true → (holds out j ≡ true) ⊎ (j ≡ k)
    cases j h = or_cases (holds out j) (eqb j k) (sym (w j) ∙ h) (λ p. inl p) (λ p. inr (eqb-true j k p))

    pub visit : Collected g m (k + 1) before after
    visit = record {
      kept = λ j h. keeps j (s.kept j h);
      sound = λ j h. ⊎_elim
          (λ p. ⊎_elim (λ o. s.sound j o) (λ q. inr (subst (λ (i : ℕ). Reach g m i) (sym q) (step e))) (cases j p))
          (λ r. inr (prepend e r)) (v.sound j h);
      closed = λ j h. ⊎_elim
          (λ p. ⊎_elim
          (λ o. ⊎_elim (λ b. inl b) (λ f. inr (λ i d. keeps i (f i d))) (s.closed j o))
          (λ q. inr (λ i d. v.next i (edge-below g j i d) (subst (λ (x : ℕ). edge g x i ≡ true) q d))) (cases j p))
          (λ f. inr f) (v.closed j h);
      next = λ j l d. ⊎_elim (λ q. subst (λ (i : ℕ). holds after i ≡ true) (sym q) new) (λ b. keeps j (s.next j b d)) (below_next k j l);
    }

  -- fewer positions are unmarked at a visit
  pub fewer : (k : ℕ) (before out marked : List ℕ) → k < 512 → Collected g m k before out → holds out k ≡ false
      → ((j : ℕ) → holds marked j ≡ holds out j || eqb j k) → unmarked marked < unmarked before
  unfolding unmarked
  fewer k before out marked l s u w =
      count-strict (λ j. not (holds marked j)) (λ j. not (holds before j)) 512 k l
      (λ j b h. un (holds marked j) (holds before j) (λ p. w j ∙ or_left (holds out j) (eqb j k) (s.kept j p)) h)
      (ap not (w k ∙ or_right (holds out k) (eqb k k) (eq-eqb k k refl)))
      (lack (holds before k) (λ p. true≠false (s.kept k p) u))
    where
      lack : (a : Bool) → (a ≡ true → ⊥) → not a ≡ true
      lack true f = absurd (f refl)
      lack false f = refl

      un : (a b : Bool) → (b ≡ true → a ≡ true) → not a ≡ true → not b ≡ true
      un a false f h = refl
      un a true f h = true≠false h (ap not (f refl))

-- ---- from every position of a row

-- `after` holds `from` and what its positions below n reach, and is closed but for the successors of those from n on
pub record Gathered (g : List ℕ) (n : ℕ) (from after : List ℕ) : Type 0 where
  pub kept : (j : ℕ) → holds from j ≡ true → holds after j ≡ true
  pub sound : (j : ℕ) → holds after j ≡ true → (holds from j ≡ true) ⊎ ((m : ℕ) × (holds from m ≡ true) × Reach g m j)
  pub closed : (j : ℕ) → holds after j ≡ true → (holds from j ≡ true) ⊎ ((k : ℕ) → edge g j k ≡ true → holds after k ≡ true)
  pub next : (m : ℕ) → m < n → holds from m ≡ true → (k : ℕ) → edge g m k ≡ true → holds after k ≡ true

module _ (g from : List ℕ) where
  pub gather-start : Gathered g 0 from from
  gather-start = record { kept = λ j h. h; sound = λ j h. inl h; closed = λ j h. inl h; next = λ m l h k e. absurd (omega arith) }

  -- none from k on and before n is in the row
  pub gather-skip : (k n : ℕ) (out : List ℕ) → Gathered g k from out → ((m : ℕ) → k ≤ m → m < n → holds from m ≡ false) → Gathered g n from out
  gather-skip k n out s none = record {
    kept = s.kept;
    sound = s.sound;
    closed = s.closed;
    next = λ m l h i e. ⊎_elim (λ b. s.next m b h i e) (λ b. true≠false h (none m b l)) (lt-or-le m k);
  }

  -- k is in the row, and is visited
  pub gather-visit : (k : ℕ) (out after : List ℕ) → Gathered g k from out → holds from k ≡ true → Collected g k 512 out after → Gathered g (k + 1) from after
  gather-visit k out after s in_row v = record {
    kept = λ j h. v.kept j (s.kept j h);
    sound = λ j h. ⊎_elim (λ o. s.sound j o) (λ r. inr (k, in_row, r)) (v.sound j h);
    closed = λ j h. ⊎_elim
        (λ o. ⊎_elim (λ b. inl b) (λ f. inr (λ i e. v.kept i (f i e))) (s.closed j o))
        (λ f. inr f) (v.closed j h);
    next = λ m l h i e. ⊎_elim (λ q. v.next i (edge-below g m i e) (subst (λ (x : ℕ). edge g x i ≡ true) q e)) (λ b. v.kept i (s.next m b h i e)) (below_next k m l);
  }

  module _ (after : List ℕ) (len : length g ≡ 4608) (s : Gathered g 512 from after) where
    -- a successor of what the row holds
    onward : (m k : ℕ) → holds from m ≡ true → edge g m k ≡ true → holds after k ≡ true
    onward m k h e = ⊎_elim (λ l. s.next m l h k e) (λ l. true≠false e (edge-out g m k len l)) (lt-or-le m 512)

    closes : (m j : ℕ) → holds from m ≡ true → Reach g m j → holds after j ≡ true
    closes m j h (step e) = onward m j h e
    closes m j h (then {j = i} r e) = ⊎_elim (λ b. onward i j b e) (λ f. f j e) (s.closed i (closes m i h r))

    pub gather-all : ReachedFrom g from after
    gather-all = record { kept = s.kept; sound = s.sound; complete = closes }
