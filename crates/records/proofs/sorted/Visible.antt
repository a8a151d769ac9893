-- A sorted table holds the visible positions and no other.
use Prim.Native.Nat.{ℕ}
use mathlib.Core.Path.{◌≡◌, refl, sym, ◌∙◌}
use mathlib.Core.List.{List, [], ◌∷◌}
use mathlib.Core.Bool.{Bool, true, false, ◌||◌}
use lib.Dec.{eqb}
use borrow.Author.Tests.{eqb-true, eq-eqb}
use Rattle.records.specs.Bytes.{same_bytes}
use Rattle.records.specs.Name.{mem_name}
use Rattle.records.specs.Finder.{find_name}
use Rattle.records.specs.Sorted.{name_of_position, names_by, is_visible, all_visible, has_position, Sorted}
use Rattle.records.proofs.Logic.{clash, by, true≠false, and_left, and_right, or_left, or_right}
use Rattle.records.proofs.bytes.Laws.{same-eq}
use Rattle.records.proofs.sorted.Search.{visible_at, not_found}
use Rattle.std.specs.Prelude.{Some, None}

module _ (names : List (List ℕ)) where
  -- a name of the table is found at one of its positions
  table-has : (l n : List ℕ) (p : ℕ) → all_visible names l ≡ true → mem_name n (names_by names l) ≡ true → find_name names n 0 ≡ Some p → has_position p l ≡ true
  unfolding all_visible names_by mem_name has_position
  table-has [] n p v h e = true≠false h refl
  table-has (q ∷ l) n p v h e = go (same_bytes (name_of_position names q) n) refl (λ k. table-has l n p (and_right (is_visible names q) (all_visible names l) v) k e) h
    where
      go : (b : Bool) → same_bytes (name_of_position names q) n ≡ b → (mem_name n (names_by names l) ≡ true → has_position p l ≡ true) → (b || mem_name n (names_by names l)) ≡ true
          → (eqb p q || has_position p l) ≡ true
      go true eb ih k =
          let f : find_name names (name_of_position names q) 0 ≡ Some q = visible_at names q (and_left (is_visible names q) (all_visible names l) v) in
          let g : find_name names n 0 ≡ Some q = rw (same-eq (name_of_position names q) n eb) at f in
          let w : p ≡ q = cc in
          or_left (eqb p q) (has_position p l) (eq-eqb p q w)
      go false eb ih k = or_right (eqb p q) (has_position p l) (ih k)

  has-visible : (l : List ℕ) (p : ℕ) → all_visible names l ≡ true → has_position p l ≡ true → is_visible names p ≡ true
  unfolding all_visible has_position
  has-visible [] p v h = true≠false h refl
  has-visible (q ∷ l) p v h = go (eqb p q) refl (has-visible l p (and_right (is_visible names q) (all_visible names l) v)) h
    where
      go : (b : Bool) → eqb p q ≡ b → (has_position p l ≡ true → is_visible names p ≡ true) → (b || has_position p l) ≡ true → is_visible names p ≡ true
      go true eb ih k = rw (eqb-true p q eb) (and_left (is_visible names q) (all_visible names l) v)
      go false eb ih k = ih k

  module _ (l : List ℕ) (h : Sorted names l) (p : ℕ) where
    found-there : (n : List ℕ) → find_name names n 0 ≡ Some p → has_position p l ≡ true
    found-there n e =
        by (mem_name n names)
        (λ m. table-has l n p h.visible (h.every n m) e)
        (λ m. let z : find_name names n 0 ≡ None = not_found names names n 0 m in clash (cc))

    -- a position is in the table exactly if it is visible
    pub sorted_exactly : has_position p l ≡ is_visible names p
    sorted_exactly =
        by (is_visible names p)
        (λ v. found-there (name_of_position names p) (visible_at names p v) ∙ sym v)
        (λ v. by (has_position p l) (λ k. true≠false (has-visible l p h.visible k) v) (λ k. k ∙ sym v))
