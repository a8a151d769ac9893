-- Laws of the definitions of specs/Bytes.antt, and what each turn of the loops over them shows.
use Prim.Native.Nat.{ℕ, zero, suc, ◌+◌, ◌-◌, ◌≤◌, ◌<◌}
use mathlib.Core.Path.{◌≡◌, refl, sym, ◌∙◌, ap, ap₂}
use mathlib.Core.List.{List, [], ◌∷◌, ◌++◌}
use mathlib.Core.Bool.{Bool, true, false, ◌&&◌, and-true, and_assoc, or-false}
use native.Mathlib.Omega.{arith}
use native.Mathlib.Numerals.{add-one}
use lib.ListN.{length, get_or, take, drop, drop_of_length-le, get_or-eq_default, length-drop}
use native.Mathlib.Nat.{le_of_lt, add_assoc}
use lib.Seq.{drop-cons, drop-drop, take_all, take-add, length-take-le, get_or-drop}
use lib.Dec.{ltb, eqb}
use lib.Pointwise.{pointwise}
use Rattle.std.specs.Prelude.{min}
use borrow.Author.Tests.{eq-eqb, le-ltb, eqb-true, ltb-true, ltb-false}
use Rattle.records.specs.Bytes.{same_bytes, before_bytes, u16_at, AgreeAt, DifferAt}
use Rattle.records.proofs.Logic.{clash, and_left, and_right}
use lib.Seq.{length-take-le}

-- ---- parts

pub byte-none : (s : List ℕ) (i : ℕ) → length s ≤ i → 0 ≡ get_or s i 0
byte-none s i h = sym (get_or-eq_default s 0 h)

pub tail_none : (s : List ℕ) (n : ℕ) → length s < n → [] ≡ drop n s
tail_none s n h = sym (drop_of_length-le s (le_of_lt h))

pub tail-some : (s : List ℕ) (n : ℕ) → take (length s - n) (drop n s) ≡ drop n s
tail-some s n = take_all (length s - n) (drop n s) (rw length-drop (omega arith))

pub head-all : (s : List ℕ) (n : ℕ) → length s < n → s ≡ take n s
head-all s n h = sym (take_all n s (le_of_lt h))

-- ---- two bytes

pub u16-drop : (s : List ℕ) (at i : ℕ) → u16_at (drop at s) i ≡ u16_at s (at + i)
unfolding u16_at
u16-drop s at i = simp (get_or-drop, add_assoc)

-- ---- equality

-- strings of different lengths differ
pub same-lengths : (a b : List ℕ) → (length a ≡ length b → ⊥) → false ≡ same_bytes a b
unfolding same_bytes
same-lengths [] [] ne = absurd (ne refl)
same-lengths [] (y ∷ ys) ne = refl
same-lengths (x ∷ xs) [] ne = refl
same-lengths (x ∷ xs) (y ∷ ys) ne = go (eqb x y) (same-lengths xs ys (λ e. ne (ap suc e)))
  where
    go : (t : Bool) → false ≡ same_bytes xs ys → false ≡ (t && same_bytes xs ys)
    go true ih = ih
    go false ih = refl

-- what `==` says of two slices
pub same_is : (a b : List ℕ) → pointwise eqb a b ≡ same_bytes a b
unfolding same_bytes
same_is [] [] = refl
same_is [] (y ∷ ys) = refl
same_is (x ∷ xs) [] = refl
same_is (x ∷ xs) (y ∷ ys) = ap (λ (r : Bool). eqb x y && r) (same_is xs ys)

-- strings that are put together of parts of the same length
same-append : (a b c d : List ℕ) → length a ≡ length b → same_bytes (a ++ c) (b ++ d) ≡ (same_bytes a b && same_bytes c d)
unfolding same_bytes
same-append [] [] c d e = refl
same-append [] (y ∷ ys) c d e = absurd (omega arith)
same-append (x ∷ xs) [] c d e = absurd (omega arith)
same-append (x ∷ xs) (y ∷ ys) c d e = rw (same-append xs ys c d (omega (arith, e))) (sym (and_assoc (eqb x y) (same_bytes xs ys) (same_bytes c d)))

-- the n bytes from i on are the same
abbrev same_part : List ℕ → List ℕ → ℕ → ℕ → Bool
same_part a b i n = same_bytes (take n (drop i a)) (take n (drop i b))

same-split : (a b : List ℕ) (i n j m : ℕ) → length (take n (drop i a)) ≡ length (take n (drop i b)) → i + n ≡ j
    → same_part a b i (n + m) ≡ (same_part a b i n && same_part a b j m)
same-split a b i n j m e ej =
    rw (take-add n m (drop i a), take-add n m (drop i b), drop-drop n i a, drop-drop n i b, ej)
    (same-append (take n (drop i a)) (take n (drop i b)) (take m (drop j a)) (take m (drop j b)) e)

part-long : (s : List ℕ) (i n : ℕ) → i + n ≤ length s → length (take n (drop i s)) ≡ n
part-long s i n l = length-take-le n (drop i s) (rw length-drop (omega arith))

-- `equal` says whether the first k bytes from `at` on are the same
pub record SameInAt (a b : List ℕ) (at n : ℕ) (equal : Bool) (k : ℕ) : Type 0 where
  pub in-a : at + n ≤ length a
  pub in_b : at + n ≤ length b
  pub within : k ≤ n
  pub got : equal ≡ same_part a b at k

module _ (a b : List ℕ) (at n : ℕ) where
  pub same_in_start : at + n ≤ length a → at + n ≤ length b → SameInAt a b at n true 0
  unfolding same_bytes
  same_in_start la lb = record { in-a = la; in_b = lb; within = omega arith; got = refl }

  module _ (equal : Bool) (k : ℕ) (h : SameInAt a b at n equal k) where
    pub same_in_more : k < n → SameInAt a b at n (equal && eqb (get_or a (at + k) 0) (get_or b (at + k) 0)) (k + 1)
    unfolding same_bytes
    same_in_more l =
        let la : at + k < length a = omega (arith, h.in-a) in
        let lb : at + k < length b = omega (arith, h.in_b) in
        let one : same_part a b (at + k) 1 ≡ eqb (get_or a (at + k) 0) (get_or b (at + k) 0) = rw (drop-cons a (at + k) 0 la, drop-cons b (at + k) 0 lb) (and-true (eqb (get_or a (at + k) 0) (get_or b (at + k) 0))) in
        record {
          in-a = h.in-a;
          in_b = h.in_b;
          within = omega arith;
          got = ap₂ ◌&&◌ h.got (sym one) ∙ sym (same-split a b at k (at + k) 1 (part-long a at k (omega (arith, h.in-a)) ∙ sym (part-long b at k (omega (arith, h.in_b)))) refl);
        }

-- strings that compare equal are equal, and the other way
pub same-eq : (a b : List ℕ) → same_bytes a b ≡ true → a ≡ b
unfolding same_bytes
same-eq [] [] e = refl
same-eq [] (y ∷ ys) e = clash (cc)
same-eq (x ∷ xs) [] e = clash (cc)
same-eq (x ∷ xs) (y ∷ ys) e = go (eqb x y) refl (same-eq xs ys) e
  where
    go : (t : Bool) → eqb x y ≡ t → (same_bytes xs ys ≡ true → xs ≡ ys) → (t && same_bytes xs ys) ≡ true → x ∷ xs ≡ y ∷ ys
    go true et ih h = ap₂ (λ (p : ℕ) (q : List ℕ). p ∷ q) (eqb-true x y et) (ih h)
    go false et ih h = clash (cc)

pub same_refl : (a : List ℕ) → same_bytes a a ≡ true
unfolding same_bytes
same_refl [] = refl
same_refl (x ∷ xs) = rw (eq-eqb x x refl) (same_refl xs)

-- ---- byte order

-- bytes in front that are the same decide nothing
before-skip : (k : ℕ) (a b : List ℕ) → k ≤ length a → k ≤ length b → same_bytes (take k a) (take k b) ≡ true → before_bytes a b ≡ before_bytes (drop k a) (drop k b)
unfolding same_bytes before_bytes
before-skip zero a b la lb e = refl
before-skip (suc k) [] b la lb e = absurd (omega (arith, la))
before-skip (suc k) (x ∷ xs) [] la lb e = absurd (omega (arith, lb))
before-skip (suc k) (x ∷ xs) (y ∷ ys) la lb e =
    let xy : eqb x y ≡ true = and_left (eqb x y) (same_bytes (take k xs) (take k ys)) e in
    let rest : same_bytes (take k xs) (take k ys) ≡ true = and_right (eqb x y) (same_bytes (take k xs) (take k ys)) e in
    let ge : y ≤ x = omega (arith, eqb-true x y xy) in
    rw (le-ltb x y ge, xy) (before-skip k xs ys (omega (arith, la)) (omega (arith, lb)) rest)

module _ {a b : List ℕ} {n i : ℕ} (h : AgreeAt a b n i) where
  pub differ_in_a : i < n → i < length a
  differ_in_a l = omega (arith, h.in-a)

  pub differ_in_b : i < n → i < length b
  differ_in_b l = omega (arith, h.in_b)

  pub differ_next : i < n → get_or a i 0 ≡ get_or b i 0 → AgreeAt a b n (i + 1)
  unfolding before_bytes
  differ_next l e =
      let ge : get_or b i 0 ≤ get_or a i 0 = omega (arith, e) in
      record {
        in-a = h.in-a;
        in_b = h.in_b;
        within = omega arith;
        left = h.left ∙ rw (add-one, drop-cons a i 0 (differ_in_a l), drop-cons b i 0 (differ_in_b l), le-ltb (get_or a i 0) (get_or b i 0) ge, eq-eqb (get_or a i 0) (get_or b i 0) e);
      }

  pub agree_next : 8 ≤ n - i → (r : Bool) → r ≡ same_bytes (take 8 (drop i a)) (take 8 (drop i b)) → r ≡ true → AgreeAt a b n (i + 8)
  agree_next l r er e = record {
    in-a = h.in-a;
    in_b = h.in_b;
    within = omega (arith, l);
    left = h.left ∙ before-skip 8 (drop i a) (drop i b) (simp length-drop (omega (arith, l, h.in-a))) (simp length-drop (omega (arith, l, h.in_b))) (sym er ∙ e) ∙ rw (drop-drop 8 i a, drop-drop 8 i b);
  }

-- the shorter length is at most both
module _ (a b : List ℕ) (n : ℕ) (e : n ≡ min (length a) (length b)) where
  module _ (i : ℕ) (h : DifferAt a b n i) where
    pub before-at-a : i < n → i < length a
    before-at-a l = omega (arith, e)

    pub before-at-b : i < n → i < length b
    before-at-b l = omega (arith, e)

    pub before_at : i < n → ltb (get_or a i 0) (get_or b i 0) ≡ before_bytes a b
    unfolding before_bytes
    before_at l = sym (h.left ∙ rw (drop-cons a i 0 (before-at-a l), drop-cons b i 0 (before-at-b l), h.apart l) (or-false (ltb (get_or a i 0) (get_or b i 0))))

    pub before-end : n ≤ i → ltb (length a) (length b) ≡ before_bytes a b
    unfolding before_bytes
    before-end l = sym (h.left ∙ go (ltb (length a) (length b)) refl)
      where
        go : (t : Bool) → ltb (length a) (length b) ≡ t → before_bytes (drop i a) (drop i b) ≡ t
        go true k =
            let d : length a < length b = ltb-true (length a) (length b) k in
            rw (drop_of_length-le a {i = i} (omega (arith, e, l)), drop-cons b i 0 (omega (arith, e, h.within)))
        go false k =
            let d : length b ≤ length a = ltb-false (length a) (length b) k in
            past (drop i a) (drop_of_length-le b {i = i} (omega (arith, e, l)))
          where
            past : (x : List ℕ) {y : List ℕ} → y ≡ [] → before_bytes x y ≡ false
            past [] z = rw z
            past (c ∷ x) z = rw z

-- ---- a part

pub part_is : (s t r : List ℕ) (start len : ℕ) → t ≡ drop start s → r ≡ take len t → r ≡ take len (drop start s)
part_is s t r start len et er = cc

pub ruleset before_laws = (before_at, before-end)

pub ruleset head_laws = (head-all, length-take-le)

pub ruleset tail_laws = (tail_none, tail-some)
