-- What each turn of the search, of the shift and of the insertion shows.
use Prim.Native.Nat.{ℕ, zero, suc, ◌+◌, ◌-◌, ◌/◌, ◌≤◌, ◌<◌}
use mathlib.Core.Path.{◌≡◌, refl, sym, ◌∙◌, ap}
use mathlib.Core.List.{List, [], ◌∷◌, ◌++◌, map, map-append, append_assoc}
use mathlib.Core.Bool.{Bool, true, false, ◌&&◌}
use native.Mathlib.Omega.{arith}
use native.Mathlib.Numerals.{add-one}
use lib.ListN.{length, get_or, take, drop, set, length-map, length-set, length-append, length-drop, get_or-map}
use lib.Seq.{get_or-take, length-take-le, take-suc, set_at, take_at, drop_at, take-take, take-nil}
use lib.Dec.{ltb}
use borrow.Author.Tests.{lt-ltb, ltb-true, ltb-false}
use Rattle.records.specs.Bytes.{same_bytes, before_bytes}
use Rattle.records.specs.Name.{mem_name}
use Rattle.records.specs.Order.{insert_name, is_ordered, name_in, Placed, stands_at, shifted, Inserted}
use Rattle.std.specs.List.{copy_within}
use Rattle.records.proofs.Logic.{clash}
use Rattle.records.proofs.bytes.Order.{before-trans}
use Rattle.records.proofs.order.Ordered.{ordered-below, insert-ordered, insert-last, insert-there, insert-new, mem-there, mem-none}

-- ---- the names of the first entries

module _ (s table : List ℕ) (count : ℕ) where
  name-at : (i : ℕ) → i < count → get_or (map (name_in s) (take count table)) i (name_in s 0) ≡ name_in s (get_or table i 0)
  name-at i h = get_or-map (name_in s) (take count table) i 0 ∙ ap (name_in s) (get_or-take count table i 0 h)

  names-long : count ≤ length table → length (map (name_in s) (take count table)) ≡ count
  names-long h = length-map (take count table) (name_in s) ∙ length-take-le count table h

-- ---- the binary search

module _ (s table name : List ℕ) (o : is_ordered (map (name_in s) table) ≡ true) where
  -- where one stands before the name, those in front of it do too
  names-ahead : (i j d : ℕ) → i ≤ j → j < length table → before_bytes (name_in s (get_or table j d)) name ≡ true → before_bytes (name_in s (get_or table i d)) name ≡ true
  names-ahead i j d k c b = both (ltb i j) refl
    where
      at : (n : ℕ) → get_or (map (name_in s) table) n (name_in s d) ≡ name_in s (get_or table n d)
      at n = get_or-map (name_in s) table n d

      both : (u : Bool) → ltb i j ≡ u → before_bytes (name_in s (get_or table i d)) name ≡ true
      both true eu =
          let l : i < j = ltb-true i j eu in
          let h : before_bytes (name_in s (get_or table i d)) (name_in s (get_or table j d)) ≡ true =
          rw (← at i, ← at j) (ordered-below (map (name_in s) table) (name_in s d) i j o l (rw (length-map table (name_in s)) c)) in
          before-trans (name_in s (get_or table i d)) (name_in s (get_or table j d)) name h b
      both false eu = let q : j ≡ i = omega (arith, ltb-false i j eu) in rw q at b

-- the names below low stand before the name, and the one at high does not
pub record PlaceAt (s table name : List ℕ) (low high : ℕ) : Type 0 where
  pub order : low ≤ high
  pub within : high ≤ length table
  pub sorted : is_ordered (map (name_in s) table) ≡ true
  pub below : (i : ℕ) → i < low → before_bytes (name_in s (get_or table i 0)) name ≡ true
  pub above : high < length table → before_bytes (name_in s (get_or table high 0)) name ≡ false

pub place-start : (s table name : List ℕ) → is_ordered (map (name_in s) table) ≡ true → PlaceAt s table name 0 (length table)
place-start s table name o = record {
  order = omega arith;
  within = omega arith;
  sorted = o;
  below = λ i l. absurd (omega arith);
  above = λ l. absurd (omega arith);
}

module _ (s table name : List ℕ) (low high : ℕ) (h : PlaceAt s table name low high) where
  pub place-index : low < high → low + (high - low) / 2 < length table
  place-index l = omega (arith, h.within)

  module _ (l : low < high) (m : List ℕ) (r : Bool) (em : m ≡ name_in s (get_or table (low + (high - low) / 2) 0)) (er : r ≡ before_bytes m name) where
    here : before_bytes (name_in s (get_or table (low + (high - low) / 2) 0)) name ≡ r
    here = cc

    pub place_up : r ≡ true → PlaceAt s table name (low + (high - low) / 2 + 1) high
    place_up e = record {
      order = omega arith;
      within = h.within;
      sorted = h.sorted;
      below = λ i k. names-ahead s table name h.sorted i (low + (high - low) / 2) 0 (omega arith) (omega (arith, h.within)) (here ∙ e);
      above = h.above;
    }

    pub place_down : r ≡ false → PlaceAt s table name low (low + (high - low) / 2)
    place_down e = record {
      order = omega arith;
      within = omega (arith, h.within);
      sorted = h.sorted;
      below = h.below;
      above = λ k. here ∙ e;
    }

  pub place-done : high ≤ low → Placed s table (length table) name low
  place-done l =
      let e : high ≡ low = omega (arith, h.order) in
      record { within = omega (arith, h.within); below = h.below; above = λ k. rw e at (h.above (omega arith)) }

pub ruleset place_laws = (place-start, place-index, place_up, place_down, place-done)

-- ---- the test of the last

-- the last stands before the name
pub place-last : (s table name m : List ℕ) (r : Bool) → is_ordered (map (name_in s) table) ≡ true → 0 < length table → m ≡ name_in s (get_or table (length table - 1) 0)
    → r ≡ before_bytes m name → r ≡ true → Placed s table (length table) name (length table)
place-last s table name m r o l em er e = record {
  within = omega arith;
  below = λ i k. names-ahead s table name o i (length table - 1) 0 (omega arith) (omega arith) (cc);
  above = λ k. absurd (omega arith);
}

-- a place in the first entries is one in the table
pub placed_front : (s t name : List ℕ) (count r : ℕ) → count ≤ length t → Placed s (take count t) (length (take count t)) name r → Placed s t count name r
placed_front s t name count r h p = record {
  within = omega (arith, long, p.within);
  below = λ i k. rw (get_or-take count t i 0 (omega (arith, long, p.within))) at (p.below i k);
  above = λ k. rw (get_or-take count t r 0 k) at (p.above (omega (arith, long)));
}
  where
    long : length (take count t) ≡ count
    long = length-take-le count t h

-- ---- whether the name stands there

module _ (s table : List ℕ) (count at : ℕ) (name : List ℕ) where
  -- among the first entries as in the table
  pub stands_front : count ≤ length table → stands_at s (take count table) (length (take count table)) at name ≡ stands_at s table count at name
  unfolding stands_at
  stands_front h = rw (length-take-le count table h) (go (ltb at count) refl)
    where
      go : (b : Bool) → ltb at count ≡ b → (b && same_bytes name (name_in s (get_or (take count table) at 0))) ≡ (b && same_bytes name (name_in s (get_or table at 0)))
      go true e = rw (get_or-take count table at 0 (ltb-true at count e))
      go false e = refl

-- ---- the shift

pub length-shifted : (t : List ℕ) (from count : ℕ) → from ≤ count → count < length t → length (shifted t from count) ≡ length t
unfolding shifted
length-shifted t from count l h =
    let a : length (take (from + 1) t) ≡ from + 1 = length-take-le (from + 1) t (omega arith) in
    let b : length (take (count - from) (drop from t)) ≡ count - from = length-take-le (count - from) (drop from t) (rw length-drop (omega arith)) in
    rw (length-append, length-append, a, b, length-drop) (omega arith)

-- a copy one place up
pub shift_copied : (t : List ℕ) (from count : ℕ) → from ≤ count → copy_within t from count (from + 1) ≡ shifted t from count
unfolding shifted
shift_copied t from count l =
    let e : from + 1 + (count - from) ≡ count + 1 = omega arith in
    rw e (append_assoc (take (from + 1) t) (take (count - from) (drop from t)) (drop (count + 1) t))

-- ---- the insertion

module _ (f : ℕ → List ℕ) where
  map-take : (n : ℕ) (l : List ℕ) → take n (map f l) ≡ map f (take n l)
  map-take zero l = refl
  map-take (suc n) [] = refl
  map-take (suc n) (x ∷ l) = ap (λ (t : List (List ℕ)). f x ∷ t) (map-take n l)

  map-drop : (n : ℕ) (l : List ℕ) → drop n (map f l) ≡ map f (drop n l)
  map-drop zero l = refl
  map-drop (suc n) [] = refl
  map-drop (suc n) (x ∷ l) = map-drop n l

pub drop-take : (m n : ℕ) (l : List ℕ) → drop m (take n l) ≡ take (n - m) (drop m l)
drop-take zero n l = let e : n - 0 ≡ n = omega arith in rw e
drop-take (suc m) zero l = let e : 0 - suc m ≡ 0 = omega arith in rw e
drop-take (suc m) (suc n) [] = sym (take-nil (suc n - suc m))
drop-take (suc m) (suc n) (x ∷ l) = let e : suc n - suc m ≡ n - m = omega arith in rw e (drop-take m n l)

-- the entry in the place that the shift left
module _ (t : List ℕ) (at count entry : ℕ) (l : at ≤ count) (h : count < length t) where
  shifted-set : set (shifted t at count) at entry ≡ (take at t ++ (entry ∷ take (count - at) (drop at t))) ++ drop (count + 1) t
  unfolding shifted
  shifted-set =
      let p : List ℕ = take at t in
      let q : List ℕ = take (count - at) (drop at t) in
      let d : List ℕ = drop (count + 1) t in
      let lp : length p ≡ at = length-take-le at t (omega arith) in
      let x : take (suc at) t ++ (q ++ d) ≡ p ++ (get_or t at 0 ∷ (q ++ d)) =
      rw (take-suc t at 0 (omega arith), append_assoc p (get_or t at 0 ∷ []) (q ++ d)) in
      let y : p ++ (entry ∷ (q ++ d)) ≡ (p ++ (entry ∷ q)) ++ d = sym (append_assoc p (entry ∷ q) d) in
      rw (add-one at, x, set_at p (get_or t at 0) (q ++ d) entry at lp) y

  set_long : length (take at t ++ (entry ∷ take (count - at) (drop at t))) ≡ count + 1
  set_long =
      let lp : length (take at t) ≡ at = length-take-le at t (omega arith) in
      let lq : length (take (count - at) (drop at t)) ≡ count - at = length-take-le (count - at) (drop at t) (rw length-drop (omega arith)) in
      length-append (take at t) (entry ∷ take (count - at) (drop at t)) ∙ omega arith

  pub set-take : take (count + 1) (set (shifted t at count) at entry) ≡ take at t ++ (entry ∷ take (count - at) (drop at t))
  set-take = rw shifted-set (take_at (take at t ++ (entry ∷ take (count - at) (drop at t))) (drop (count + 1) t) (count + 1) set_long)

  -- what stands behind stays
  set_rest : drop (count + 1) (set (shifted t at count) at entry) ≡ drop (count + 1) t
  set_rest = rw shifted-set (drop_at (take at t ++ (entry ∷ take (count - at) (drop at t))) (drop (count + 1) t) (count + 1) set_long)

-- the name stands there, or it does not
stands_true : (s t : List ℕ) (count at : ℕ) (name : List ℕ) → stands_at s t count at name ≡ true → (at < count) × (same_bytes name (name_in s (get_or t at 0)) ≡ true)
unfolding stands_at
stands_true s t count at name e = go (ltb at count) refl e
  where
    go : (b : Bool) → ltb at count ≡ b → (b && same_bytes name (name_in s (get_or t at 0))) ≡ true → (at < count) × (same_bytes name (name_in s (get_or t at 0)) ≡ true)
    go true eb h = (ltb-true at count eb, h)
    go false eb h = clash (cc)

stands_false : (s t : List ℕ) (count at : ℕ) (name : List ℕ) → stands_at s t count at name ≡ false → at < count → same_bytes name (name_in s (get_or t at 0)) ≡ false
unfolding stands_at
stands_false s t count at name e l = rw (lt-ltb at count l) at e

module _ (s t : List ℕ) (count entry : ℕ) (name : List ℕ) (at : ℕ) (r : Bool) (h : count < length t) (o : is_ordered (map (name_in s) (take count t)) ≡ true)
    (en : name ≡ name_in s entry) (p : Placed s t count name at) (er : r ≡ stands_at s t count at name) where
  l : List (List ℕ)
  l = map (name_in s) (take count t)

  long-l : length l ≡ count
  unfolding l
  long-l = names-long s t count (omega arith)

  ahead : (i : ℕ) → i < at → before_bytes (get_or l i (name_in s 0)) name ≡ true
  unfolding l
  ahead i k = rw (name-at s t count i (omega (arith, p.within))) (p.below i k)

  pub inserted-none : r ≡ true → Inserted s t t count entry count
  unfolding l
  inserted-none e =
      let f : (at < count) × (same_bytes name (name_in s (get_or t at 0)) ≡ true) = stands_true s t count at name (sym er ∙ e) in
      let g : same_bytes name (get_or l at (name_in s 0)) ≡ true = rw (name-at s t count at f.0) f.1 in
      let k : insert_name name l ≡ l = insert-there name (name_in s 0) at l (omega (arith, long-l, f.0)) ahead (omega (arith, long-l, f.0)) g in
      record { names_are = rw (← en) (sym k); long = refl; least = omega arith; most = omega arith; sorted = o; rest = refl }

  placed : stands_at s t count at name ≡ false → insert_name name l ≡ take at l ++ (name ∷ drop at l)
  unfolding l
  placed e = go (ltb at count) refl
    where
      go : (b : Bool) → ltb at count ≡ b → insert_name name l ≡ take at l ++ (name ∷ drop at l)
      go true eb =
          let k : at < count = ltb-true at count eb in
          let g : same_bytes name (get_or l at (name_in s 0)) ≡ false = rw (name-at s t count at k) (stands_false s t count at name e k) in
          let b : before_bytes (get_or l at (name_in s 0)) name ≡ false = rw (name-at s t count at k) (p.above k) in
          insert-new name (name_in s 0) at l (omega (arith, long-l)) ahead (omega (arith, long-l)) b g
      go false eb = insert-last name (name_in s 0) at l (omega (arith, long-l, p.within)) ahead (omega (arith, long-l, ltb-false at count eb))

  module _ (t₁ : List ℕ) (et : t₁ ≡ shifted t at count) where
    told : r ≡ false → map (name_in s) (take (count + 1) (set t₁ at entry)) ≡ insert_name (name_in s entry) l
    unfolding l
    told e =
        let a : map (name_in s) (take at t) ≡ take at l = sym (map-take (name_in s) at (take count t) ∙ ap (map (name_in s)) (take-take at count t p.within)) in
        let b : map (name_in s) (take (count - at) (drop at t)) ≡ drop at l =
        sym (map-drop (name_in s) at (take count t) ∙ ap (map (name_in s)) (drop-take at count t)) in
        rw (et, set-take t at count entry p.within h, map-append (name_in s) (take at t) (entry ∷ take (count - at) (drop at t)), a, b, ← en) (sym (placed (sym er ∙ e)))

    pub inserted_new : r ≡ false → Inserted s t (set t₁ at entry) count entry (count + 1)
    unfolding l
    inserted_new e = record {
      names_are = told e;
      long = length-set t₁ at entry ∙ ap length et ∙ length-shifted t at count p.within h;
      least = omega arith;
      most = omega arith;
      sorted = rw (told e) (insert-ordered (name_in s entry) l o);
      rest = rw et (set_rest t at count entry p.within h);
    }

-- ---- whether a name is there

pub contains-is : (s t : List ℕ) (count : ℕ) (name : List ℕ) (at : ℕ) (r : Bool) → count ≤ length t → is_ordered (map (name_in s) (take count t)) ≡ true
    → Placed s t count name at → r ≡ stands_at s t count at name → r ≡ mem_name name (map (name_in s) (take count t))
contains-is s t count name at r h o p er = go (stands_at s t count at name) refl
  where
    l : List (List ℕ)
    l = map (name_in s) (take count t)

    long-l : length l ≡ count
    long-l = names-long s t count h

    go : (b : Bool) → stands_at s t count at name ≡ b → r ≡ mem_name name l
    go true e =
        let f : (at < count) × (same_bytes name (name_in s (get_or t at 0)) ≡ true) = stands_true s t count at name e in
        er ∙ e ∙ sym (mem-there name (name_in s 0) at l (omega (arith, long-l, f.0)) (rw (name-at s t count at f.0) f.1))
    go false e =
        er ∙ e ∙ sym (mem-none name (name_in s 0) at l o (omega (arith, long-l, p.within))
        (λ i k. rw (name-at s t count i (omega (arith, p.within))) (p.below i k))
        (λ k. let c : at < count = omega (arith, long-l) in rw (name-at s t count at c) (p.above c))
        (λ k. let c : at < count = omega (arith, long-l) in rw (name-at s t count at c) (stands_false s t count at name e c)))
