-- The search by halves: k names compared are enough for a table shorter than 2 ^ k, or one more for one of 2 ^ k at most if the first
-- is chosen; and what it finds is what the walk from the front finds.
use Prim.Native.Nat.{ℕ, zero, suc, ◌+◌, ◌-◌, ◌^◌, ◌≤◌, ◌<◌}
use mathlib.Core.Path.{◌≡◌, refl, sym, ◌∙◌}
use mathlib.Core.List.{List, [], ◌∷◌, map}
use mathlib.Core.Bool.{Bool, true, false, ◌||◌}
use native.Mathlib.Omega.{arith}
use native.Mathlib.Nat.{pow-zero, pow-suc}
use lib.ListN.{length, get_or, take, length-map}
use lib.Dec.{ltb}
use borrow.Author.Tests.{ltb-true, ltb-false}
use Rattle.records.specs.Bytes.{same_bytes, before_bytes}
use Rattle.records.specs.Name.{mem_name}
use Rattle.records.specs.Set.{name_at, module_limit}
use Rattle.records.specs.Order.{is_ordered}
use Rattle.records.specs.Finder.{find_name, pick_found, find_module, is_first}
use Rattle.records.specs.Keys.{standing}
use Rattle.records.specs.Sorted.{name_of_position, names_by, middle_of, by_standing, search_at, found_in, search_ten, is_visible, all_visible, Sorted, Held, Gap, Placing}
use Rattle.records.specs.Sorted.{Place}
use Rattle.records.proofs.Logic.{clash, by, true≠false, and_left, and_right}
use Rattle.records.proofs.bytes.Laws.{same-eq}
use Rattle.records.proofs.bytes.Order.{before-trans, before-total, before-one-way, same-not-before}
use Rattle.records.proofs.order.Ordered.{ordered-below, mem-none}
use Rattle.records.proofs.set.Blocks.{GoodSet}
use Rattle.records.proofs.finder.Modules.{find-is, is_at_lem}
use Rattle.std.specs.Prelude.{Some, None, Ok, Err}

pub ahead-differs : (a b : List ℕ) → before_bytes a b ≡ true → same_bytes a b ≡ false
ahead-differs a b h = by (same_bytes a b) (λ e. true≠false h (same-not-before a b e)) (λ e. e)

-- ---- the middle

module _ (low high : ℕ) (l : low < high) where
  pub middle_low : low ≤ middle_of low high
  unfolding middle_of
  middle_low = omega arith

  pub middle_high : middle_of low high < high
  unfolding middle_of
  middle_high = omega arith

  middle_up : (w : ℕ) → high - low < w + w → high - (middle_of low high + 1) < w
  unfolding middle_of
  middle_up w h = omega arith

  middle_down : (w : ℕ) → high - low < w + w → middle_of low high - low < w
  unfolding middle_of
  middle_down w h = omega arith

twice : (k w : ℕ) → w ≡ 2 ^ suc k → w ≡ 2 ^ k + 2 ^ k
twice k w e = e ∙ pow-suc 2 k ∙ (omega arith)

module _ (names : List (List ℕ)) where
  -- ---- the names of a table

  pub by-at : (l : List ℕ) (i : ℕ) → i < length l → get_or (names_by names l) i [] ≡ name_of_position names (get_or l i 0)
  unfolding names_by
  by-at [] i h = absurd (omega arith)
  by-at (p ∷ l) zero h = refl
  by-at (p ∷ l) (suc i) h = by-at l i (omega (arith, h))

  pub by-long : (l : List ℕ) → length (names_by names l) ≡ length l
  unfolding names_by
  by-long l = length-map l (name_of_position names)

  pub by-below : (l : List ℕ) → is_ordered (names_by names l) ≡ true → (i j : ℕ) → i < j → j < length l
      → before_bytes (name_of_position names (get_or l i 0)) (name_of_position names (get_or l j 0)) ≡ true
  by-below l o i j h k =
      rw (← by-at l i (omega arith), ← by-at l j k) (ordered-below (names_by names l) [] i j o h (rw (by-long l) k))

  -- ---- one comparison

  module _ (l n : List ℕ) (o : is_ordered (names_by names l) ≡ true) (m : ℕ) where
    -- where one stands before n, those in front of it do too
    pub reach : m < length l → before_bytes (name_of_position names (get_or l m 0)) n ≡ true
        → (i : ℕ) → i < m + 1 → before_bytes (name_of_position names (get_or l i 0)) n ≡ true
    reach k f i h =
        by (ltb i m)
        (λ e. before-trans (name_of_position names (get_or l i 0)) (name_of_position names (get_or l m 0)) n (by-below l o i m (ltb-true i m e) k) f)
        (λ e. let q : m ≡ i = omega (arith, ltb-false i m e) in rw q at f)

    -- where one stands behind n, those behind it do too
    pub beyond : before_bytes n (name_of_position names (get_or l m 0)) ≡ true
        → (i : ℕ) → m ≤ i → i < length l → before_bytes n (name_of_position names (get_or l i 0)) ≡ true
    beyond f i h k =
        by (ltb m i)
        (λ e. before-trans n (name_of_position names (get_or l m 0)) (name_of_position names (get_or l i 0)) f (by-below l o m i (ltb-true m i e) k))
        (λ e. let q : m ≡ i = omega (arith, ltb-false m i e) in rw q at f)

  pub placing-there : (l n : List ℕ) (m : ℕ) → m < length l → same_bytes (name_of_position names (get_or l m 0)) n ≡ true → Placing names l n (Ok m)
  placing-there l n m k e =
      record { there = λ i q. let w : m ≡ i = cc in record { within = rw w at k; same = rw w at e }; free = λ i q. clash (cc) }

  pub placing-free : (l n : List ℕ) (r : ℕ) → Gap names l n r → Placing names l n (Err r)
  placing-free l n r g = record { there = λ i q. clash (cc); free = λ i q. let w : r ≡ i = cc in rw w at g }

  search_step : (l n : List ℕ) (m : ℕ) → m < length l → (s₁ s₂ : Place)
      → (before_bytes (name_of_position names (get_or l m 0)) n ≡ true → Placing names l n s₁)
      → (before_bytes n (name_of_position names (get_or l m 0)) ≡ true → Placing names l n s₂)
      → Placing names l n (by_standing (standing (name_of_position names (get_or l m 0)) n) (Ok m) s₁ s₂)
  unfolding standing
  search_step l n m k s₁ s₂ f g = go (before_bytes x n) refl (same_bytes x n) refl
    where
      x : List ℕ
      x = name_of_position names (get_or l m 0)

      go : (b : Bool) → before_bytes x n ≡ b → (c : Bool) → same_bytes x n ≡ c → Placing names l n (by_standing (standing x n) (Ok m) s₁ s₂)
      go true eb c ec = rw eb (f eb)
      go false eb true ec = rw (eb, ec) (placing-there l n m k ec)
      go false eb false ec = rw (eb, ec) (g (before-total x n eb ec))

  -- ---- the search

  -- the names below low stand before n, and those from high on behind it
  pub record Part (l n : List ℕ) (low high : ℕ) : Type 0 where
    pub order : low ≤ high
    pub within : high ≤ length l
    pub below : (i : ℕ) → i < low → before_bytes (name_of_position names (get_or l i 0)) n ≡ true
    pub above : (i : ℕ) → high ≤ i → i < length l → before_bytes n (name_of_position names (get_or l i 0)) ≡ true

  pub part_empty : (l n : List ℕ) (low high : ℕ) → Part l n low high → high ≤ low → Placing names l n (Err low)
  part_empty l n low high p h = placing-free l n low (record { within = omega (arith, p.order, p.within); below = p.below; above = λ i k. p.above i (omega arith) })

  pub part_all : (l n : List ℕ) → Part l n 0 (length l)
  part_all l n = record { order = omega arith; within = omega arith; below = λ i h. absurd (omega arith); above = λ i h k. absurd (omega arith) }

  module _ (l n : List ℕ) (o : is_ordered (names_by names l) ≡ true) (low m high : ℕ) (p : Part l n low high) (lm : low ≤ m) (mh : m < high) where
    pub part_up : before_bytes (name_of_position names (get_or l m 0)) n ≡ true → Part l n (m + 1) high
    part_up f = record { order = omega arith; within = p.within; below = reach l n o m (omega (arith, p.within)) f; above = p.above }

    pub part_down : before_bytes n (name_of_position names (get_or l m 0)) ≡ true → Part l n low m
    part_down f = record { order = lm; within = omega (arith, p.within); below = p.below; above = beyond l n o m f }

  -- k comparisons, each in the middle, are enough for fewer than 2 ^ k entries
  pub search_halves : (k : ℕ) (l n : List ℕ) → is_ordered (names_by names l) ≡ true → (low high : ℕ) → Part l n low high → high - low < 2 ^ k
      → Placing names l n (search_at k names l n low (middle_of low high) high)
  unfolding search_at
  search_halves zero l n o low high p w = part_empty l n low high p (omega (arith, rw (pow-zero 2) at w))
  search_halves (suc k) l n o low high p w =
      by (ltb low high)
      (λ e. let lt : low < high = ltb-true low high e in
      let ww : high - low < 2 ^ k + 2 ^ k = rw (twice k (2 ^ suc k) refl) at w in
      let mh : middle_of low high < high = middle_high low high lt in
      let ml : low ≤ middle_of low high = middle_low low high lt in
      let m : ℕ = middle_of low high in
      rw e (search_step l n (middle_of low high) (omega (arith, mh, p.within))
      (search_at k names l n (middle_of low high + 1) (middle_of (middle_of low high + 1) high) high)
      (search_at k names l n low (middle_of low (middle_of low high)) (middle_of low high))
      (λ f. search_halves k l n o (middle_of low high + 1) high (part_up l n o low (middle_of low high) high p ml mh f) (middle_up low high lt (2 ^ k) ww))
      (λ f. search_halves k l n o low (middle_of low high) (part_down l n o low (middle_of low high) high p ml mh f) (middle_down low high lt (2 ^ k) ww))))
      (λ e. rw e (part_empty l n low high p (ltb-false low high e)))

  -- and one more, if the first entry to compare is any, for 2 ^ k entries at most
  pub search_first : (k : ℕ) (l n : List ℕ) → is_ordered (names_by names l) ≡ true → (m : ℕ) → m ≤ length l - 1 → length l ≤ 2 ^ k
      → Placing names l n (search_at (suc k) names l n 0 m (length l))
  unfolding search_at
  search_first k l n o m h w =
      by (ltb 0 (length l))
      (λ e. let lt : 0 < length l = ltb-true 0 (length l) e in
      let mh : m < length l = omega arith in
      let z : 0 ≤ m = omega arith in
      rw e (search_step l n m mh
      (search_at k names l n (m + 1) (middle_of (m + 1) (length l)) (length l))
      (search_at k names l n 0 (middle_of 0 m) m)
      (λ f. search_halves k l n o (m + 1) (length l) (part_up l n o 0 m (length l) (part_all l n) z mh f) (omega (arith, w)))
      (λ f. search_halves k l n o 0 m (part_down l n o 0 m (length l) (part_all l n) z mh f) (omega (arith, w)))))
      (λ e. rw e (part_empty l n 0 (length l) (part_all l n) (ltb-false 0 (length l) e)))

  -- ---- against the walk from the front

  pub not_found : (l : List (List ℕ)) (n : List ℕ) (i : ℕ) → mem_name n l ≡ false → find_name l n i ≡ None
  unfolding find_name mem_name
  not_found [] n i h = refl
  not_found (m ∷ l) n i h = go (same_bytes m n) refl (not_found l n (suc i)) h
    where
      go : (b : Bool) → same_bytes m n ≡ b → (mem_name n l ≡ false → find_name l n (suc i) ≡ None) → (b || mem_name n l) ≡ false → pick_found b (Some i) (find_name l n (suc i)) ≡ None
      go true eb ih e = clash (cc)
      go false eb ih e = ih e

  -- a visible position is found by its name
  pub visible_at : (p : ℕ) → is_visible names p ≡ true → find_name names (name_of_position names p) 0 ≡ Some p
  unfolding is_visible is_first
  visible_at p h = is_at_lem (find_name names (name_of_position names p) 0) p h

  pub all_visible_at : (l : List ℕ) (i : ℕ) → all_visible names l ≡ true → i < length l → is_visible names (get_or l i 0) ≡ true
  unfolding all_visible
  all_visible_at [] i h k = absurd (omega arith)
  all_visible_at (p ∷ l) zero h k = and_left (is_visible names p) (all_visible names l) h
  all_visible_at (p ∷ l) (suc i) h k = all_visible_at l i (and_right (is_visible names p) (all_visible names l) h) (omega (arith, k))

  module _ (l : List ℕ) (h : Sorted names l) where
    -- a name that belongs between two entries is none of the names
    pub gap_none : (n : List ℕ) (r : ℕ) → Gap names l n r → mem_name n (names_by names l) ≡ false
    gap_none n r g = mem-none n [] r (names_by names l) h.ascending (rw (by-long l) g.within)
        (λ i k. rw (by-at l i (omega (arith, g.within, k))) (g.below i k))
        (λ k. let q : r < length l = rw (by-long l) at k in before-one-way n (get_or (names_by names l) r []) (rw (by-at l r q) (g.above r (omega arith) q)))
        (λ k. let q : r < length l = rw (by-long l) at k in ahead-differs n (get_or (names_by names l) r []) (rw (by-at l r q) (g.above r (omega arith) q)))

    pub gap_new : (n : List ℕ) (r : ℕ) → Gap names l n r → mem_name n names ≡ false
    gap_new n r g = by (mem_name n names) (λ e. true≠false (h.every n e) (gap_none n r g)) (λ e. e)

    -- what stands in the table is what the walk finds
    pub placing_found : (n : List ℕ) (r : Place) → Placing names l n r → found_in l r ≡ find_name names n 0
    unfolding found_in
    placing_found n (Ok m) p =
        let d : Held names l n m = p.there m refl in
        let v : find_name names (name_of_position names (get_or l m 0)) 0 ≡ Some (get_or l m 0) = visible_at (get_or l m 0) (all_visible_at l m h.visible d.within) in
        sym (rw (same-eq (name_of_position names (get_or l m 0)) n d.same) at v)
    placing_found n (Err k) p = sym (not_found names n 0 (gap_new n k (p.free k refl)))

    -- k halvings are enough for a table shorter than 2 ^ k
    pub sorted_halves : (k : ℕ) (n : List ℕ) → length l < 2 ^ k → found_in l (search_at k names l n 0 (middle_of 0 (length l)) (length l)) ≡ find_name names n 0
    sorted_halves k n w =
        let z : length l - 0 ≡ length l = omega arith in
        placing_found n (search_at k names l n 0 (middle_of 0 (length l)) (length l)) (search_halves k l n h.ascending 0 (length l) (part_all l n) (rw z w))

    -- and k halvings behind any first comparison for a table of 2 ^ k entries at most
    pub sorted_first : (k : ℕ) (n : List ℕ) (m : ℕ) → m ≤ length l - 1 → length l ≤ 2 ^ k → found_in l (search_at (suc k) names l n 0 m (length l)) ≡ find_name names n 0
    sorted_first k n m q w = placing_found n (search_at (suc k) names l n 0 m (length l)) (search_first k l n h.ascending m q w)

    -- ten names for 512
    pub sorted_ten : (n : List ℕ) (m : ℕ) → m ≤ length l - 1 → length l ≤ module_limit → search_ten names l m n ≡ find_name names n 0
    unfolding search_ten
    sorted_ten n m q w = sorted_first 9 n m q w

-- in a set that the check takes the search is lookup among its modules, for any first entry
pub sorted_module : (s : List ℕ) (c : ℕ) (t : List ℕ) → GoodSet s c t → (l : List ℕ) → Sorted (map (name_at s) (take c t)) l → (n : List ℕ) (m : ℕ) → m ≤ length l - 1 → length l ≤ module_limit
    → search_ten (map (name_at s) (take c t)) l m n ≡ find_module s n
sorted_module s c t g l h n m q w = sorted_ten (map (name_at s) (take c t)) l h n m q w ∙ find-is s c t g n
