-- The rows of positions below a number that pass a test: those that read what is found, and those of another row.
use mathlib.Core.Path.{◌≡◌, sym, ap, ◌∙◌, subst}
use mathlib.Core.Bool.{Bool, true, false, ◌&&◌, ◌||◌, or-false, or-true}
use mathlib.Core.List.{List}
use Prim.Native.Nat.{ℕ, ◌+◌, ◌≤◌, ◌<◌}
use native.Mathlib.Omega.{arith}
use lib.Dec.{eqb, ltb}
use borrow.Author.Tests.{eq-eqb, ne_eqb, eqb-true, ltb-true, ltb-false}
use Rattle.records.specs.Finder.{Found}
use Rattle.records.proofs.Logic.{by, true≠false}
use Rattle.resolution.specs.Row.{holds, Empty, Added}
use Rattle.resolution.specs.Readability.{Holding}
use Rattle.access.specs.GraphSteps.{reader_at, reader_below}

-- ---- the positions below n that pass a test

-- those below k are looked at
pub record PassedAt (p : ℕ → Bool) (n : ℕ) (ws : List ℕ) (k : ℕ) : Type 0 where
  pub within : k ≤ n
  pub so_far : (j : ℕ) → j < k → holds ws j ≡ p j
  pub later : (j : ℕ) → k ≤ j → holds ws j ≡ false

pub before : (j k : ℕ) → j < k + 1 → eqb j k ≡ false → j < k
before j k b y = by (ltb j k) (λ z. ltb-true j k z) (λ z. true≠false (eq-eqb j k (omega (arith, ltb-false j k z))) y)

module _ (p : ℕ → Bool) (n : ℕ) (ws : List ℕ) where
  pub passed_start : Empty ws → PassedAt p n ws 0
  passed_start h = record { within = omega arith; so_far = λ j l. absurd (omega arith); later = λ j l. h.none j }

  module _ (k : ℕ) (h : PassedAt p n ws k) where
    pub passed-end : n ≤ k → (j : ℕ) → holds ws j ≡ ltb j n && p j
    passed-end l j = by (ltb j n)
        (λ y. rw y (h.so_far j (omega (arith, ltb-true j n y, l))))
        (λ y. rw y (h.later j (omega (arith, ltb-false j n y, h.within))))

    pub passed-not : k < n → p k ≡ false → PassedAt p n ws (k + 1)
    passed-not l f = record {
      within = omega arith;
      so_far = λ j b. by (eqb j k)
          (λ y. let i : j ≡ k = eqb-true j k y in subst (λ (z : ℕ). holds ws z ≡ p z) (sym i) (h.later k (omega arith) ∙ sym f))
          (λ y. h.so_far j (before j k b y));
      later = λ j b. h.later j (omega arith);
    }

    pub passed-more : n ≤ 512 → (after : List ℕ) → k < n → p k ≡ true → Added ws k after → PassedAt p n after (k + 1)
    passed-more m after l f a = record {
      within = omega arith;
      so_far = λ j b. added j ∙ by (eqb j k)
          (λ y. let i : j ≡ k = eqb-true j k y in rw y (or-true (holds ws j)) ∙ sym (ap p i ∙ f))
          (λ y. rw y (or-false (holds ws j)) ∙ h.so_far j (before j k b y));
      later = λ j b. added j ∙ rw (ne_eqb j k (λ i. absurd (omega arith))) (or-false (holds ws j)) ∙ h.later j (omega arith);
    }
      where
        added : (j : ℕ) → holds after j ≡ holds ws j || eqb j k
        added j = a.below (omega arith) j

module _ (ws g : List ℕ) (f : Found) (u : Bool) (n : ℕ) (row : List ℕ) where
  pub readers-start : Empty row → PassedAt (reader_at ws g f u) n row 0
  readers-start h = passed_start (reader_at ws g f u) n row h

  module _ (k : ℕ) (h : PassedAt (reader_at ws g f u) n row k) where
    pub readers-end : n ≤ k → Holding row (reader_below n ws g f u)
    unfolding reader_below
    readers-end l = record { each = λ j. passed-end (reader_at ws g f u) n row k h l j }

    module _ (l : k < n) (r : Bool) (er : r ≡ reader_at ws g f u k) where
      pub readers-not : r ≡ false → PassedAt (reader_at ws g f u) n row (k + 1)
      readers-not y = passed-not (reader_at ws g f u) n row k h l (sym er ∙ y)

      pub readers-more : n ≤ 512 → (after : List ℕ) → r ≡ true → Added row k after → PassedAt (reader_at ws g f u) n after (k + 1)
      readers-more m after y a = passed-more (reader_at ws g f u) n row k h m after l (sym er ∙ y) a

pub ruleset readers_laws = (readers-start, readers-end, readers-not, readers-more)
