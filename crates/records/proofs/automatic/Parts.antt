-- Module names: the walk over the bytes that tests all parts, what each return and turn of it shows, and laws of the names.
use Prim.Native.Nat.{ℕ, suc, ◌+◌, ◌≤◌, ◌<◌}
use mathlib.Core.Path.{◌≡◌, refl, sym, ◌∙◌, ap}
use mathlib.Core.List.{List, [], ◌∷◌}
use mathlib.Core.Bool.{Bool, true, false, cond, ◌&&◌, ◌||◌, not, and_assoc}
use native.Mathlib.Omega.{arith}
use native.Mathlib.Numerals.{add-one}
use lib.ListN.{length, get_or, drop, drop_of_length-le}
use lib.Seq.{drop-cons}
use lib.Dec.{leb, eqb}
use borrow.Author.Tests.{eq-eqb, ne_eqb, le-leb, lt-leb, leb-true, eqb-true, not-true}
use Rattle.records.proofs.bytes.Laws.{same-eq}
use Rattle.records.proofs.automatic.Characters.{digit-bounds, start-bounds}
use Rattle.records.proofs.Logic.{and_left, and_right, or_cases}
use Rattle.records.specs.Bytes.{same_bytes}
use Rattle.records.specs.Name.{all_unnamed, printable}
use Rattle.records.specs.Automatic.{is_digit, is_letter, is_start, is_rest, is_part, in_front, parts_of, all_parts, is_module_name}

-- ---- the walk

-- the bytes from here on end all parts; `first` says that a part starts here
unfoldable pub walk : Bool → List ℕ → Bool
walk first [] = not first
walk first (x ∷ xs) = cond (eqb x 46) (not first && walk true xs) (cond first (is_start x) (is_start x || is_digit x) && walk false xs)

-- the first of these continues a part, the others are whole
unfoldable rest_parts : List (List ℕ) → Bool
rest_parts [] = true
rest_parts (p ∷ ps) = is_rest p && all_parts ps

all-front : (x : ℕ) (ps : List (List ℕ)) → all_parts (in_front x ps) ≡ (is_start x && rest_parts ps)
unfolding all_parts rest_parts in_front is_part is_rest
all-front x [] = and_assoc (is_start x) true true
all-front x (p ∷ ps) = and_assoc (is_start x) (is_rest p) (all_parts ps)

rest-front : (x : ℕ) (ps : List (List ℕ)) → rest_parts (in_front x ps) ≡ ((is_start x || is_digit x) && rest_parts ps)
unfolding all_parts rest_parts in_front is_rest is_start
rest-front x [] = and_assoc (is_start x || is_digit x) true true
rest-front x (p ∷ ps) = and_assoc (is_start x || is_digit x) (is_rest p) (all_parts ps)

-- the walk tests the parts: from the start of one, and from inside one
walk-parts : (s : List ℕ) → (walk true s ≡ all_parts (parts_of s)) × (walk false s ≡ rest_parts (parts_of s))
unfolding walk all_parts rest_parts parts_of is_part is_rest
walk-parts [] = (refl, refl)
walk-parts (x ∷ xs) = go (eqb x 46) (walk-parts xs)
  where
    go : (t : Bool) → (walk true xs ≡ all_parts (parts_of xs)) × (walk false xs ≡ rest_parts (parts_of xs))
        → (cond t (false && walk true xs) (is_start x && walk false xs) ≡ all_parts (cond t ([] ∷ parts_of xs) (in_front x (parts_of xs))))
        × (cond t (true && walk true xs) ((is_start x || is_digit x) && walk false xs) ≡ rest_parts (cond t ([] ∷ parts_of xs) (in_front x (parts_of xs))))
    go true ih = (refl, ih.0)
    go false ih = (rw (all-front x (parts_of xs), ih.1), rw (rest-front x (parts_of xs), ih.1))

pub name-walk : (s : List ℕ) → length s ≤ 255 → is_module_name s ≡ walk true s
unfolding is_module_name
name-walk s l = rw (le-leb (length s) 255 l) (sym (walk-parts s).0)

-- at i what is left decides
pub record PartsAt (s : List ℕ) (first : Bool) (i : ℕ) : Type 0 where
  pub within : i ≤ length s
  pub left : is_module_name s ≡ walk first (drop i s)

pub name-long : (s : List ℕ) → 255 < length s → false ≡ is_module_name s
unfolding is_module_name
name-long s l = rw (lt-leb (length s) 255 l)

pub parts-start : (s : List ℕ) → length s ≤ 255 → PartsAt s true 0
parts-start s l = record { within = omega arith; left = name-walk s l }

module _ {s : List ℕ} {first : Bool} {i : ℕ} (h : PartsAt s first i) where
  pub parts-end : length s ≤ i → not first ≡ is_module_name s
  unfolding walk
  parts-end l = sym (h.left ∙ rw (drop_of_length-le s l))

  module _ (l : i < length s) (x : ℕ) (ex : x ≡ get_or s i 0) where
    here : is_module_name s ≡ walk first (x ∷ drop (suc i) s)
    here = h.left ∙ rw (drop-cons s i 0 l, ex)

    pub parts-empty : x ≡ 46 → first ≡ true → false ≡ is_module_name s
    unfolding walk
    parts-empty e ef = sym (here ∙ rw (eq-eqb x 46 e, ef))

    pub parts-dot : x ≡ 46 → first ≡ false → PartsAt s true (i + 1)
    unfolding walk
    parts-dot e ef = record { within = omega arith; left = here ∙ rw (add-one, eq-eqb x 46 e, ef) }

    module _ (ne : x ≡ 46 → ⊥) (r : Bool) (er : r ≡ is_start x) where
      step : (f : Bool) → walk f (x ∷ drop (suc i) s) ≡ (cond f r (r || is_digit x) && walk false (drop (suc i) s))
      unfolding walk
      step f = rw (ne_eqb x 46 ne, er)

      pub parts-begin : r ≡ true → PartsAt s false (i + 1)
      parts-begin e = record { within = omega arith; left = here ∙ step first ∙ rw (add-one, e) (go first) }
        where
          go : (f : Bool) → (cond f true true && walk false (drop (suc i) s)) ≡ walk false (drop (suc i) s)
          go true = refl
          go false = refl

      pub parts-bad-start : r ≡ false → first ≡ true → false ≡ is_module_name s
      parts-bad-start e ef = sym (here ∙ step first ∙ rw (e, ef))

      module _ (d : Bool) (ed : d ≡ is_digit x) where
        pub parts-bad : r ≡ false → first ≡ false → not d ≡ true → false ≡ is_module_name s
        parts-bad e ef en =
            let g : is_digit x ≡ false = sym ed ∙ not-true d en in
            sym (here ∙ step first ∙ rw (e, ef, g))

        pub parts-digit : r ≡ false → first ≡ false → d ≡ true → PartsAt s first (i + 1)
        parts-digit e ef en =
            let g : is_digit x ≡ true = sym ed ∙ en in
            record { within = omega arith; left = here ∙ step first ∙ rw (add-one, e, ef, g) }

pub ruleset parts_laws = (name-long, parts-start, parts-end, parts-empty, parts-dot, parts-begin, parts-bad-start, parts-bad, parts-digit)

-- ---- laws of module names

pub module_name-short : (n : List ℕ) → is_module_name n ≡ true → length n ≤ 255
unfolding is_module_name
module_name-short n e = leb-true (length n) 255 (and_left (leb (length n) 255) (all_parts (parts_of n)) e)

pub module_name-some : (n : List ℕ) → is_module_name n ≡ true → 0 < length n
unfolding is_module_name parts_of all_parts is_part
module_name-some [] e = let z : ◌≡◌ {A = ℕ} 0 1 = cc in absurd (omega arith)
module_name-some (x ∷ xs) e = omega arith

-- ALL-UNNAMED has a hyphen
unnamed-none : is_module_name all_unnamed ≡ false
unfolding is_module_name parts_of all_parts is_part is_rest in_front is_start is_letter is_digit
unnamed-none = refl

pub module_name-not-unnamed : (n : List ℕ) → is_module_name n ≡ true → same_bytes n all_unnamed ≡ false
module_name-not-unnamed n e = go (same_bytes n all_unnamed) refl
  where
    go : (t : Bool) → same_bytes n all_unnamed ≡ t → t ≡ false
    go true et = sym e ∙ ap is_module_name (same-eq n all_unnamed et) ∙ unnamed-none
    go false et = refl

walk-printable : (f : Bool) (s : List ℕ) → walk f s ≡ true → printable s ≡ true
unfolding walk printable
walk-printable f [] e = refl
walk-printable f (x ∷ xs) e = go (eqb x 46) refl f e (walk-printable true xs) (walk-printable false xs)
  where
    named : (36 ≤ x) × (x ≤ 122) → (leb 0x21 x && leb x 0x7E) ≡ true
    named b = rw (le-leb 0x21 x (omega arith), le-leb x 0x7E (omega arith))

    start : is_start x ≡ true → (36 ≤ x) × (x ≤ 122)
    start h = start-bounds x h

    digit : is_digit x ≡ true → (36 ≤ x) × (x ≤ 122)
    digit h = let b : (48 ≤ x) × (x ≤ 57) = digit-bounds x h in (omega arith, omega arith)

    inside : (c : Bool) → (c ≡ true → (36 ≤ x) × (x ≤ 122)) → (c && walk false xs) ≡ true → (walk false xs ≡ true → printable xs ≡ true) → (leb 0x21 x && leb x 0x7E && printable xs) ≡ true
    inside c k h ih = rw (named (k (and_left c (walk false xs) h)), ih (and_right c (walk false xs) h))

    go : (t : Bool) → eqb x 46 ≡ t → (f : Bool) → cond t (not f && walk true xs) (cond f (is_start x) (is_start x || is_digit x) && walk false xs) ≡ true
        → (walk true xs ≡ true → printable xs ≡ true) → (walk false xs ≡ true → printable xs ≡ true) → (leb 0x21 x && leb x 0x7E && printable xs) ≡ true
    go true et f h k k' =
        let d : x ≡ 46 = eqb-true x 46 et in
        rw (named (omega arith, omega arith), k (and_right (not f) (walk true xs) h))
    go false et true h k k' = inside (is_start x) start h k'
    go false et false h k k' = inside (is_start x || is_digit x) (λ e. or_cases (is_start x) (is_digit x) e start digit) h k'

pub module_name-printable : (n : List ℕ) → is_module_name n ≡ true → printable n ≡ true
module_name-printable n e = walk-printable true n (sym (name-walk n (module_name-short n e)) ∙ e)
