-- Byte order is a strict total order on byte strings.
use Prim.Native.Nat.{ℕ, ◌≤◌, ◌<◌}
use mathlib.Core.Path.{◌≡◌, refl, sym}
use mathlib.Core.List.{List, [], ◌∷◌}
use mathlib.Core.Bool.{Bool, true, false, ◌&&◌, ◌||◌}
use native.Mathlib.Omega.{arith}
use lib.Dec.{ltb, eqb}
use borrow.Author.Tests.{eq-eqb, lt-ltb, le-ltb, ltb-true, ltb-false, eqb-true, eqb-false}
use Rattle.records.specs.Bytes.{same_bytes, before_bytes}
use Rattle.records.proofs.Logic.{clash}
use Rattle.records.proofs.bytes.Laws.{same-eq, same_refl}

-- no string stands before itself
pub before_irrefl : (a : List ℕ) → before_bytes a a ≡ false
unfolding before_bytes
before_irrefl [] = refl
before_irrefl (x ∷ xs) = rw (le-ltb x x (omega arith), eq-eqb x x refl) (before_irrefl xs)

-- of two strings that are not empty: the first bytes decide, or they are the same and the rest decides
data Less (x : ℕ) (xs : List ℕ) (y : ℕ) (ys : List ℕ) : Type 0 where
  first : x < y → Less x xs y ys
  rest : x ≡ y → before_bytes xs ys ≡ true → Less x xs y ys

less : (x : ℕ) (xs : List ℕ) (y : ℕ) (ys : List ℕ) → before_bytes (x ∷ xs) (y ∷ ys) ≡ true → Less x xs y ys
unfolding before_bytes
less x xs y ys e = go (ltb x y) refl (eqb x y) refl e
  where
    go : (t : Bool) → ltb x y ≡ t → (u : Bool) → eqb x y ≡ u → (t || (u && before_bytes xs ys)) ≡ true → Less x xs y ys
    go true et u eu h = first (ltb-true x y et)
    go false et true eu h = rest (eqb-true x y eu) h
    go false et false eu h = clash (cc)

less-before : (x : ℕ) (xs : List ℕ) (y : ℕ) (ys : List ℕ) → Less x xs y ys → before_bytes (x ∷ xs) (y ∷ ys) ≡ true
unfolding before_bytes
less-before x xs y ys (first l) = rw (lt-ltb x y l)
less-before x xs y ys (rest e b) = rw (le-ltb x y (omega arith), eq-eqb x y e) b

less-trans : (x : ℕ) (xs : List ℕ) (y : ℕ) (ys : List ℕ) (z : ℕ) (zs : List ℕ) → Less x xs y ys → Less y ys z zs
    → (before_bytes xs ys ≡ true → before_bytes ys zs ≡ true → before_bytes xs zs ≡ true) → Less x xs z zs
less-trans x xs y ys z zs (first l) (first m) ih = first (omega arith)
less-trans x xs y ys z zs (first l) (rest e b) ih = first (omega arith)
less-trans x xs y ys z zs (rest d a) (first m) ih = first (omega arith)
less-trans x xs y ys z zs (rest d a) (rest e b) ih = rest (omega arith) (ih a b)

pub before-trans : (a b c : List ℕ) → before_bytes a b ≡ true → before_bytes b c ≡ true → before_bytes a c ≡ true
unfolding before_bytes
before-trans [] [] c p q = q
before-trans [] (y ∷ ys) [] p q = q
before-trans [] (y ∷ ys) (z ∷ zs) p q = refl
before-trans (x ∷ xs) [] c p q = clash (cc)
before-trans (x ∷ xs) (y ∷ ys) [] p q = q
before-trans (x ∷ xs) (y ∷ ys) (z ∷ zs) p q =
    less-before x xs z zs (less-trans x xs y ys z zs (less x xs y ys p) (less y ys z zs q) (before-trans xs ys zs))

-- of two strings that differ one stands before the other
pub before-total : (a b : List ℕ) → before_bytes a b ≡ false → same_bytes a b ≡ false → before_bytes b a ≡ true
unfolding before_bytes same_bytes
before-total [] [] p q = clash (cc)
before-total [] (y ∷ ys) p q = clash (cc)
before-total (x ∷ xs) [] p q = refl
before-total (x ∷ xs) (y ∷ ys) p q = less-before y ys x xs (go (ltb x y) refl (eqb x y) refl (before-total xs ys) p q)
  where
    go : (t : Bool) → ltb x y ≡ t → (u : Bool) → eqb x y ≡ u → (before_bytes xs ys ≡ false → same_bytes xs ys ≡ false → before_bytes ys xs ≡ true)
        → (t || (u && before_bytes xs ys)) ≡ false → (u && same_bytes xs ys) ≡ false → Less y ys x xs
    go true et u eu ih h k = clash (cc)
    go false et true eu ih h k = rest (sym (eqb-true x y eu)) (ih h k)
    go false et false eu ih h k =
        let l : y ≤ x = ltb-false x y et in
        let d : x ≡ y → ⊥ = eqb-false x y eu in
        first (omega arith)

-- a string that stands before another does not stand behind it, and is not the same
pub before-one-way : (a b : List ℕ) → before_bytes a b ≡ true → before_bytes b a ≡ false
before-one-way a b e = go (before_bytes b a) refl
  where
    go : (t : Bool) → before_bytes b a ≡ t → before_bytes b a ≡ false
    go true h =
        let p : before_bytes a a ≡ true = before-trans a b a e h in
        let z : ◌≡◌ {A = ℕ} 0 1 = cc (before_irrefl a) in absurd (omega arith)
    go false h = h

pub before-differ : (a b : List ℕ) → before_bytes a b ≡ true → same_bytes b a ≡ false
before-differ a b e = go (same_bytes b a) refl
  where
    go : (t : Bool) → same_bytes b a ≡ t → same_bytes b a ≡ false
    go true h =
        let p : b ≡ a = same-eq b a h in
        let z : ◌≡◌ {A = ℕ} 0 1 = cc (before_irrefl a) in absurd (omega arith)
    go false h = h

pub same-not-before : (a b : List ℕ) → same_bytes a b ≡ true → before_bytes a b ≡ false
same-not-before a b e = rw (same-eq a b e) (before_irrefl b)

same_back : (a b : List ℕ) → same_bytes a b ≡ true → same_bytes b a ≡ true
same_back a b e = rw (same-eq a b e) (same_refl b)

-- as before-total, with the names of the test turned round
pub before-total-back : (a b : List ℕ) → before_bytes b a ≡ false → same_bytes a b ≡ false → before_bytes a b ≡ true
before-total-back a b e f = go (same_bytes b a) refl
  where
    go : (t : Bool) → same_bytes b a ≡ t → before_bytes a b ≡ true
    go true h = let p : same_bytes a b ≡ true = same_back b a h in clash (cc)
    go false h = before-total b a e h
