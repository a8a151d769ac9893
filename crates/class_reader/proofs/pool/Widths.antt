-- The bytes of a constant by its tag: a tag that has no case has none, and how small a width can be.
use Prim.Native.Nat.{ℕ, zero, suc, ◌+◌, ◌≤◌, ◌<◌}
use mathlib.Core.Path.{◌≡◌, refl}
use mathlib.Core.List.{List, [], ◌∷◌}
use mathlib.Core.Bool.{Bool, true, false, cond, ◌&&◌, ◌||◌}
use native.Mathlib.Omega.{arith}
use lib.ListN.{get_or}
use lib.Dec.{ltb, leb, eqb}
use borrow.Author.Tests.{ltb-true, leb-true, eqb-true, ne_eqb}
use Rattle.records.proofs.Logic.{and_left, and_right, or_right}
use Rattle.class_reader.specs.Pool.{widths}

-- a test passes at each entry of a table, with the entry's index
abbrev all_from : (ℕ → ℕ → Bool) → ℕ → List ℕ → Bool
all_from q k [] = true
all_from q k (x ∷ l) = q k x && all_from q (suc k) l

-- then it does at every index, if it passes at 0, which is what stands past the end
all-at : (q : ℕ → ℕ → Bool) → ((i : ℕ) → q i 0 ≡ true) → (k : ℕ) (l : List ℕ) → all_from q k l ≡ true → (i : ℕ) → q (k + i) (get_or l i 0) ≡ true
all-at q p k [] e i = p (k + i)
all-at q p k (x ∷ l) e zero = let s : k + 0 ≡ k = omega arith in rw s (and_left (q k x) (all_from q (suc k) l) e)
all-at q p k (x ∷ l) e (suc i) =
    let s : k + suc i ≡ suc k + i = omega arith in
    rw s (all-at q p (suc k) l (and_right (q k x) (all_from q (suc k) l) e) i)

each_width : (q : ℕ → ℕ → Bool) → ((i : ℕ) → q i 0 ≡ true) → all_from q 0 widths ≡ true → (k : ℕ) → q k (get_or widths k 0) ≡ true
each_width q p e k = let z : 0 + k ≡ k = omega arith in rw z at (all-at q p 0 widths e k)

-- ---- a tag that has no case has no width

-- the tags that have one, the last first, as a match hands them to its last case
abbrev tags : List ℕ
tags = 20 ∷ 19 ∷ 18 ∷ 17 ∷ 16 ∷ 15 ∷ 1 ∷ 12 ∷ 6 ∷ 5 ∷ 4 ∷ 3 ∷ 8 ∷ 11 ∷ 10 ∷ 9 ∷ 7 ∷ []

-- k is one of these, by a test
abbrev is_one_of : ℕ → List ℕ → Bool
is_one_of k [] = false
is_one_of k (t ∷ ts) = eqb k t || is_one_of k ts

-- k is none of these
abbrev NoneOf : ℕ → List ℕ → Type 0
NoneOf k [] = Unit {0}
NoneOf k (t ∷ ts) = NoneOf k ts × (k ≡ t → ⊥)

none_of : (k : ℕ) (ts : List ℕ) → NoneOf k ts → is_one_of k ts ≡ false
none_of k [] h = refl
none_of k (t ∷ ts) h = rw (ne_eqb k t h.1) (none_of k ts h.0)

pub width-none : (k : ℕ) → NoneOf k tags → 0 ≡ get_or widths k 0
width-none k h =
    let a : (is_one_of k tags || eqb 0 (get_or widths k 0)) ≡ true =
    each_width (λ i x. is_one_of i tags || eqb 0 x) (λ i. or_right (is_one_of i tags) true refl) refl k in
    eqb-true 0 (get_or widths k 0) (rw (none_of k tags h) at a)

-- ---- a constant takes three bytes or more, and one with two indices six or more

-- the least bytes of a constant with this tag
abbrev pub least : ℕ → ℕ
least k = 3 + cond (eqb k 5 || eqb k 6) 3 0

pub tag-wide : (k : ℕ) → ltb 0 (get_or widths k 0) ≡ true → least k ≤ get_or widths k 0
tag-wide k e = some (get_or widths k 0) (ltb-true 0 (get_or widths k 0) e) (each_width (λ i x. eqb x 0 || leb (least i) x) (λ i. refl) refl k)
  where
    some : (x : ℕ) → 0 < x → (eqb x 0 || leb (least k) x) ≡ true → least k ≤ x
    some x p h = leb-true (least k) x (rw (ne_eqb x 0 (omega arith)) at h)
