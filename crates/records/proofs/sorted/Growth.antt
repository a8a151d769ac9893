-- One name more: what a sorted table is of the names with one behind them.
use Prim.Native.Nat.{ℕ, zero, suc, ◌+◌, ◌≤◌, ◌<◌}
use mathlib.Core.Path.{◌≡◌, refl, sym, ◌∙◌, ap}
use mathlib.Core.List.{List, [], ◌∷◌, ◌++◌}
use mathlib.Core.Bool.{Bool, true, false, ◌||◌, or_assoc, or-false}
use native.Mathlib.Omega.{arith}
use native.Mathlib.Nat.{add-zero}
use lib.ListN.{length, get_or, take, drop, get_or-append}
use lib.Seq.{get_or-append_seam}
use lib.Dec.{ltb}
use borrow.Author.Tests.{ltb-true, ltb-false}
use Rattle.records.specs.Bytes.{same_bytes, before_bytes}
use Rattle.records.specs.Name.{mem_name}
use Rattle.records.specs.Order.{is_ordered, insert_name}
use Rattle.records.specs.Finder.{find_name, pick_found, is_first}
use Rattle.records.specs.Sorted.{name_of_position, names_by, is_visible, all_visible, Sorted, Gap}
use Rattle.records.proofs.Logic.{clash, by, and_left, and_right, and_both, or_cases, or_left, or_right}
use Rattle.records.proofs.bytes.Laws.{same-eq, same_refl}
use Rattle.records.proofs.bytes.Order.{before-one-way}
use Rattle.records.proofs.order.Ordered.{insert-ordered, insert-mem, insert-new, insert-last}
use Rattle.records.proofs.finder.Modules.{FoundAt, found_at, at-is}
use Rattle.records.proofs.sorted.Search.{ahead-differs, by-at, by-long, visible_at, gap_new}
use Rattle.std.specs.Prelude.{Some}

-- a visible position is one of the names'
pub visible_in : (names : List (List ℕ)) (p : ℕ) → is_visible names p ≡ true → p < length names
visible_in names p h =
    let f : FoundAt names (name_of_position names p) 0 p = found_at names (name_of_position names p) 0 p (visible_at names p h) in
    omega (arith, f.within)

-- ---- lookup among one name more

find-old : (l : List (List ℕ)) (x n : List ℕ) (i p : ℕ) → find_name l n i ≡ Some p → find_name (l ++ (x ∷ [])) n i ≡ Some p
unfolding find_name
find-old [] x n i p e = clash (cc)
find-old (m ∷ l) x n i p e = go (same_bytes m n) (find-old l x n (suc i) p) e
  where
    go : (b : Bool) → (find_name l n (suc i) ≡ Some p → find_name (l ++ (x ∷ [])) n (suc i) ≡ Some p) → pick_found b (Some i) (find_name l n (suc i)) ≡ Some p
        → pick_found b (Some i) (find_name (l ++ (x ∷ [])) n (suc i)) ≡ Some p
    go true ih h = h
    go false ih h = ih h

find-new : (l : List (List ℕ)) (x : List ℕ) (i : ℕ) → mem_name x l ≡ false → find_name (l ++ (x ∷ [])) x i ≡ Some (i + length l)
unfolding find_name mem_name
find-new [] x i e = rw (same_refl x, add-zero i)
find-new (m ∷ l) x i e = go (same_bytes m x) (find-new l x (suc i)) e
  where
    go : (b : Bool) → (mem_name x l ≡ false → find_name (l ++ (x ∷ [])) x (suc i) ≡ Some (suc i + length l)) → (b || mem_name x l) ≡ false
        → pick_found b (Some i) (find_name (l ++ (x ∷ [])) x (suc i)) ≡ Some (i + suc (length l))
    go true ih h = clash (cc)
    go false ih h = let q : suc i + length l ≡ i + suc (length l) = omega arith in ih h ∙ rw q

mem-more : (l : List (List ℕ)) (x n : List ℕ) → mem_name n (l ++ (x ∷ [])) ≡ (mem_name n l || same_bytes x n)
unfolding mem_name
mem-more [] x n = or-false (same_bytes x n)
mem-more (m ∷ l) x n = rw (mem-more l x n) (sym (or_assoc (same_bytes m n) (mem_name n l) (same_bytes x n)))

module _ (names : List (List ℕ)) (x : List ℕ) where
  pub old-name : (p : ℕ) → p < length names → name_of_position (names ++ (x ∷ [])) p ≡ name_of_position names p
  unfolding name_of_position
  old-name p h = get_or-append names (x ∷ []) [] p h

  pub new-name : name_of_position (names ++ (x ∷ [])) (length names) ≡ x
  unfolding name_of_position
  new-name = get_or-append_seam names x [] []

  is-visible : (p : ℕ) → find_name (names ++ (x ∷ [])) (name_of_position (names ++ (x ∷ [])) p) 0 ≡ Some p → is_visible (names ++ (x ∷ [])) p ≡ true
  unfolding is_visible is_first
  is-visible p e = at-is (find_name (names ++ (x ∷ [])) (name_of_position (names ++ (x ∷ [])) p) 0) p e

  old-visible : (p : ℕ) → is_visible names p ≡ true → is_visible (names ++ (x ∷ [])) p ≡ true
  old-visible p h = is-visible p (rw (old-name p (visible_in names p h)) (find-old names x (name_of_position names p) 0 p (visible_at names p h)))

  new-visible : mem_name x names ≡ false → is_visible (names ++ (x ∷ [])) (length names) ≡ true
  new-visible e =
      let z : 0 + length names ≡ length names = omega arith in
      is-visible (length names) (rw new-name (find-new names x 0 e ∙ rw z))

  old-all : (l : List ℕ) → all_visible names l ≡ true → all_visible (names ++ (x ∷ [])) l ≡ true
  unfolding all_visible
  old-all [] h = refl
  old-all (p ∷ l) h = and_both (old-visible p (and_left (is_visible names p) (all_visible names l) h)) (old-all l (and_right (is_visible names p) (all_visible names l) h))

  pub old-names : (l : List ℕ) → all_visible names l ≡ true → names_by (names ++ (x ∷ [])) l ≡ names_by names l
  unfolding all_visible names_by
  old-names [] h = refl
  old-names (p ∷ l) h =
      let e : name_of_position (names ++ (x ∷ [])) p ≡ name_of_position names p = old-name p (visible_in names p (and_left (is_visible names p) (all_visible names l) h)) in
      rw (e, old-names l (and_right (is_visible names p) (all_visible names l) h))

  module _ (l : List ℕ) (h : Sorted names l) where
    -- ---- the name is there

    pub sorted-there : mem_name x (names_by names l) ≡ true → Sorted (names ++ (x ∷ [])) l
    sorted-there e = record {
      ascending = rw (old-names l h.visible) h.ascending;
      visible = old-all l h.visible;
      every = λ n k. rw (old-names l h.visible) (or_cases (mem_name n names) (same_bytes x n) (sym (mem-more names x n) ∙ k)
          (h.every n)
          (λ q. rw (same-eq x n q) at e));
    }

    -- ---- the name is put in

    module _ (r : ℕ) (g : Gap names l x r) where
      short-of : r ≤ length (names_by names l)
      short-of = rw (by-long names l) g.within

      gap_below : (i : ℕ) → i < r → before_bytes (get_or (names_by names l) i []) x ≡ true
      gap_below i k = rw (by-at names l i (omega (arith, g.within, k))) (g.below i k)

      gap-above : r < length l → before_bytes x (get_or (names_by names l) r []) ≡ true
      gap-above k = rw (by-at names l r k) (g.above r (omega arith) k)

      gap-names : insert_name x (names_by names l) ≡ take r (names_by names l) ++ (x ∷ drop r (names_by names l))
      gap-names =
          by (ltb r (length l))
          (λ e. let k : r < length l = ltb-true r (length l) e in
          let b : before_bytes x (get_or (names_by names l) r []) ≡ true = gap-above k in
          insert-new x [] r (names_by names l) short-of gap_below (rw (by-long names l) k)
          (before-one-way x (get_or (names_by names l) r []) b) (ahead-differs x (get_or (names_by names l) r []) b))
          (λ e. insert-last x [] r (names_by names l) short-of gap_below (rw (by-long names l) (ltb-false r (length l) e)))

all-put : (names : List (List ℕ)) (p r : ℕ) (l : List ℕ) → is_visible names p ≡ true → all_visible names l ≡ true → all_visible names (take r l ++ (p ∷ drop r l)) ≡ true
unfolding all_visible
all-put names p zero l v h = and_both v h
all-put names p (suc r) [] v h = and_both v refl
all-put names p (suc r) (q ∷ l) v h =
    and_both (and_left (is_visible names q) (all_visible names l) h) (all-put names p r l v (and_right (is_visible names q) (all_visible names l) h))

names-put : (names : List (List ℕ)) (p r : ℕ) (l : List ℕ) → names_by names (take r l ++ (p ∷ drop r l)) ≡ take r (names_by names l) ++ (name_of_position names p ∷ drop r (names_by names l))
unfolding names_by
names-put names p zero l = refl
names-put names p (suc r) [] = refl
names-put names p (suc r) (q ∷ l) = ap (λ (t : List (List ℕ)). name_of_position names q ∷ t) (names-put names p r l)

module _ (names : List (List ℕ)) (x : List ℕ) (l : List ℕ) (h : Sorted names l) (r : ℕ) (g : Gap names l x r) where
  put-names : names_by (names ++ (x ∷ [])) (take r l ++ (length names ∷ drop r l)) ≡ insert_name x (names_by names l)
  put-names = names-put (names ++ (x ∷ [])) (length names) r l ∙ rw (old-names names x l h.visible, new-name names x) (sym (gap-names names x l h r g))

  pub sorted-put : Sorted (names ++ (x ∷ [])) (take r l ++ (length names ∷ drop r l))
  sorted-put = record {
    ascending = rw put-names (insert-ordered x (names_by names l) h.ascending);
    visible = all-put (names ++ (x ∷ [])) (length names) r l (new-visible names x (gap_new names l h x r g)) (old-all names x l h.visible);
    every = λ n k. rw (put-names, insert-mem n x (names_by names l)) (or_cases (mem_name n names) (same_bytes x n) (sym (mem-more names x n) ∙ k)
        (λ q. or_right (same_bytes x n) (mem_name n (names_by names l)) (h.every n q))
        (λ q. or_left (same_bytes x n) (mem_name n (names_by names l)) q));
  }

-- a table of no names
pub sorted_none : Sorted [] []
unfolding is_ordered names_by all_visible mem_name
sorted_none = record { ascending = refl; visible = refl; every = λ n k. k }
