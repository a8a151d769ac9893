-- Lookup among names of which none stands twice: each is found at its own position. The elements that their names find are such.
use Prim.Native.Nat.{ℕ, zero, suc, ◌+◌, ◌<◌}
use mathlib.Core.Path.{◌≡◌, refl, sym, ◌∙◌, ap}
use mathlib.Core.List.{List, [], ◌∷◌, map, map-map}
use mathlib.Core.Bool.{Bool, true, false, cond, not}
use native.Mathlib.Omega.{arith}
use native.Mathlib.Nat.{add-zero}
use lib.ListN.{length, get_or, drop, length-drop}
use lib.Seq.{get_or-drop, drop-drop}
use borrow.Author.Tests.{not-true}
use Rattle.records.specs.Bytes.{same_bytes}
use Rattle.records.specs.Name.{mem_name}
use Rattle.records.specs.Descriptor.{Descriptor, descriptor_of}
use Rattle.records.specs.Set.{blocks, modules}
use Rattle.records.specs.Finder.{find_name, is_at, is_first, found_from, visible_blocks}
use Rattle.records.specs.Places.{names_in, distinct}
use Rattle.records.proofs.Logic.{by, and_left, and_right, not_of_false, and_both}
use Rattle.records.proofs.bytes.Laws.{same-eq, same_refl}
use Rattle.records.proofs.finder.Modules.{is_at_lem, at-is}
use Rattle.records.proofs.name.Lists.{differs}
use Rattle.std.specs.Prelude.{Some}

-- each name is found at its own position, where none stands twice
pub found-own : (l : List (List ℕ)) (i k : ℕ) (d : List ℕ) → distinct l ≡ true → k < length l → find_name l (get_or l k d) i ≡ Some (i + k)
unfolding find_name distinct
found-own [] i k d e h = absurd (omega arith)
found-own (m ∷ l) i zero d e h = rw (same_refl m, add-zero i)
found-own (m ∷ l) i (suc k) d e h =
    let q : suc i + k ≡ i + suc k = omega arith in
    rw (differs m l k d (not-true (mem_name m l) (and_left (not (mem_name m l)) (distinct l) e)) (omega (arith, h)), found-own l (suc i) k d (and_right (not (mem_name m l)) (distinct l) e) (omega (arith, h)), q)

pub first-own : (l : List (List ℕ)) (k : ℕ) (d : List ℕ) → distinct l ≡ true → k < length l → is_first l (get_or l k d) k ≡ true
unfolding is_first
first-own l k d e h = let z : 0 + k ≡ k = omega arith in at-is (find_name l (get_or l k d) 0) k (found-own l 0 k d e h ∙ ap Some z)

-- ---- of elements that have names, those that their names find

module _ {A : Type 0} (f : A → List ℕ) (l : List (List ℕ)) where
  -- a name that is found before k is none of theirs, where the first of them has position k
  found_before : (n : List ℕ) (i : ℕ) → find_name l n 0 ≡ Some i → (k : ℕ) (xs : List A) → i < k → mem_name n (map f (found_from f l k xs)) ≡ false
  unfolding found_from mem_name is_first
  found_before n i e k [] h = refl
  found_before n i e k (x ∷ xs) h = go (is_at (find_name l (f x) 0) k) refl (found_before n i e (suc k) xs (omega arith))
    where
      unlike : is_at (find_name l (f x) 0) k ≡ true → same_bytes (f x) n ≡ false
      unlike a =
          by (same_bytes (f x) n)
          (λ q.
          let w : find_name l n 0 ≡ Some k = rw (← same-eq (f x) n q) (is_at_lem (find_name l (f x) 0) k a) in
          let z : i ≡ k = cc in
          absurd (omega (arith, z, h)))
          (λ q. q)

      go : (b : Bool) → is_at (find_name l (f x) 0) k ≡ b → mem_name n (map f (found_from f l (suc k) xs)) ≡ false
          → mem_name n (map f (cond b (x ∷ found_from f l (suc k) xs) (found_from f l (suc k) xs))) ≡ false
      go true a below = rw (unlike a) below
      go false a below = below

  -- no name of theirs stands twice
  pub found-distinct : (k : ℕ) (xs : List A) → distinct (map f (found_from f l k xs)) ≡ true
  unfolding found_from distinct is_first
  found-distinct k [] = refl
  found-distinct k (x ∷ xs) = go (is_at (find_name l (f x) 0) k) refl (found-distinct (suc k) xs)
    where
      go : (b : Bool) → is_at (find_name l (f x) 0) k ≡ b → distinct (map f (found_from f l (suc k) xs)) ≡ true → distinct (map f (cond b (x ∷ found_from f l (suc k) xs) (found_from f l (suc k) xs))) ≡ true
      go true a below = and_both (not_of_false (found_before (f x) k (is_at_lem (find_name l (f x) 0) k a) (suc k) xs (omega arith))) below
      go false a below = below

  -- where no name stands twice, each is found
  pub found_all : distinct l ≡ true → (k : ℕ) (xs : List A) → drop k l ≡ map f xs → found_from f l k xs ≡ xs
  unfolding found_from
  found_all e k [] d = refl
  found_all e k (x ∷ xs) d =
      let long : length (drop k l) ≡ suc (length (map f xs)) = ap length d in
      let in-l : k < length l = omega (arith, long, length-drop k l) in
      let z : k + 0 ≡ k = omega arith in
      let name : get_or l k [] ≡ f x = sym (get_or-drop k l 0 [] ∙ ap (λ (i : ℕ). get_or l i []) z) ∙ ap (λ (y : List (List ℕ)). get_or y 0 []) d in
      let here : is_first l (f x) k ≡ true = rw (← name) (first-own l k [] e in-l) in
      let q : k + 1 ≡ suc k = omega arith in
      let later : drop (suc k) l ≡ map f xs = ap (λ (i : ℕ). drop i l) (sym q) ∙ sym (drop-drop 1 k l) ∙ ap (drop 1) d in
      rw (here, found_all e (suc k) xs later)

-- in a set where no name stands twice, no module is hidden
pub distinct-visible : (s : List ℕ) → distinct (names_in (blocks s)) ≡ true → visible_blocks s ≡ blocks s
unfolding visible_blocks modules
distinct-visible s e = rw (map-map (λ (m : Descriptor). m.name) descriptor_of (blocks s)) (found_all (λ (b : List ℕ). (descriptor_of b).name) (names_in (blocks s)) e 0 (blocks s) refl)
