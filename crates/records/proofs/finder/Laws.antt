-- Laws of the lookup by name, and what each turn of its loop shows.
use Prim.Native.Nat.{ℕ, suc, ◌+◌, ◌≤◌, ◌<◌}
use mathlib.Core.Path.{◌≡◌, refl, sym, ◌∙◌}
use mathlib.Core.List.{List, [], ◌∷◌, map}
use mathlib.Core.Bool.{Bool, true, false, ◌||◌}
use native.Mathlib.Omega.{arith}
use native.Mathlib.Numerals.{add-one}
use lib.ListN.{length, get_or, take, drop, drop_of_length-le, length-take}
use lib.Seq.{drop-cons, get_or-take}
use lib.Dec.{eqb}
use Rattle.std.specs.Prelude.{min}
use Rattle.records.specs.Bytes.{same_bytes}
use Rattle.records.specs.Name.{mem_name}
use Rattle.records.specs.Set.{name_at}
use Rattle.records.specs.Finder.{find_name, pick_found, is_at}
use Rattle.records.specs.Finder.{Found}
use Rattle.records.proofs.Logic.{clash}
use Rattle.std.specs.Prelude.{Some, None}

-- none of the names before i is the one looked for, and those from i on decide
pub record FindAt (s t : List ℕ) (count : ℕ) (name : List ℕ) (i : ℕ) : Type 0 where
  pub left : find_name (map (name_at s) (take count t)) name 0 ≡ find_name (map (name_at s) (drop i (take count t))) name i

pub find-start : (s t : List ℕ) (count : ℕ) (name : List ℕ) → FindAt s t count name 0
find-start s t count name = record { left = refl }

module _ (s t : List ℕ) (count : ℕ) (name : List ℕ) (i : ℕ) (h : FindAt s t count name i) where
  module _ (l : i < min count (length t)) (n : List ℕ) (en : n ≡ name_at s (get_or t i 0)) (r : Bool) (er : r ≡ same_bytes n name) where
    turn : find_name (map (name_at s) (take count t)) name 0 ≡ pick_found r (Some i) (find_name (map (name_at s) (drop (i + 1) (take count t))) name (i + 1))
    unfolding find_name
    turn =
        let q : i < length (take count t) = rw length-take (omega arith) in
        h.left ∙ rw (drop-cons (take count t) i 0 q, get_or-take count t i 0 (omega arith), ← en, ← er, add-one i)

    pub find-here : r ≡ true → Some i ≡ find_name (map (name_at s) (take count t)) name 0
    find-here f = sym (turn ∙ rw f)

    pub find-more : r ≡ false → FindAt s t count name (i + 1)
    find-more f = record { left = turn ∙ rw f }

  pub find_none : min count (length t) ≤ i → None ≡ find_name (map (name_at s) (take count t)) name 0
  unfolding find_name
  find_none l = sym (h.left ∙ rw (drop_of_length-le (take count t) {i = i} (rw length-take l)))

pub ruleset find_laws = (find-start, find-here, find-more, find_none)

-- ---- what a lookup finds

-- a name that is found is among the names
pub found_in_lem : (l : List (List ℕ)) (n : List ℕ) (i j : ℕ) → find_name l n i ≡ Some j → mem_name n l ≡ true
unfolding find_name mem_name
found_in_lem [] n i j e = clash (cc)
found_in_lem (m ∷ l) n i j e = go (same_bytes m n) refl (found_in_lem l n (suc i) j) e
  where
    go : (b : Bool) → same_bytes m n ≡ b → (find_name l n (suc i) ≡ Some j → mem_name n l ≡ true) → pick_found b (Some i) (find_name l n (suc i)) ≡ Some j → (b || mem_name n l) ≡ true
    go true eb ih h = refl
    go false eb ih h = ih h

-- one that is not is none of them
pub found-not : (l : List (List ℕ)) (n : List ℕ) (i : ℕ) → find_name l n i ≡ None → mem_name n l ≡ false
unfolding find_name mem_name
found-not [] n i e = refl
found-not (m ∷ l) n i e = go (same_bytes m n) refl (found-not l n (suc i)) e
  where
    go : (b : Bool) → same_bytes m n ≡ b → (find_name l n (suc i) ≡ None → mem_name n l ≡ false) → pick_found b (Some i) (find_name l n (suc i)) ≡ None → (b || mem_name n l) ≡ false
    go true eb ih h = clash (cc)
    go false eb ih h = ih h

-- ---- a position

pub at-found : (f : Found) (i j : ℕ) → f ≡ Some j → eqb i j ≡ is_at f i
unfolding is_at
at-found f i j e = sym (rw e)

pub at-nothing : (f : Found) (i : ℕ) → f ≡ None → false ≡ is_at f i
unfolding is_at
at-nothing f i e = sym (rw e)

pub ruleset at_laws = (at-found, at-nothing)
