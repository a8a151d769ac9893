-- What each turn of the walk over a list of names shows.
use Prim.Native.Nat.{ℕ, suc, ◌+◌, ◌-◌, ◌*◌, ◌^◌, ◌≤◌, ◌<◌}
use mathlib.Core.Path.{◌≡◌, refl, sym, ◌∙◌}
use mathlib.Core.List.{List, [], map}
use mathlib.Core.Bool.{true}
use native.Mathlib.Omega.{arith}
use lib.ListN.{length, get_or, take, drop}
use lib.Seq.{drop-drop, get_or-drop}
use Rattle.records.specs.Name.{name_of, after_name, names_of}
use Rattle.records.specs.Order.{ordered_from, is_ordered, all_names, is_short, all_short, name_in, Inserted, NamesInserted}
use Rattle.records.proofs.order.Ordered.{insert_all}
use Rattle.records.proofs.order.Packages.{entry-is, short_is, rest_more}
use Rattle.records.proofs.record.Bodies.{take-front}

-- i names, up to `at`, are in the table, and those from `at` on are still to come
pub record ListAt (s : List ℕ) (from n : ℕ) (t table : List ℕ) (at i count : ℕ) : Type 0 where
  pub low : from ≤ 65535
  pub most : n ≤ 65535
  pub wide : n ≤ length t
  pub within : i ≤ n
  pub near : at ≤ from + i * 256
  pub long : length table ≡ length t
  pub few : count ≤ i
  pub small : all_short (map (name_in s) (take count table)) ≡ true
  pub sorted : is_ordered (map (name_in s) (take count table)) ≡ true
  pub rest : drop count table ≡ drop count t
  pub left : ordered_from [] (names_of n (drop from s)) ≡ ordered_from (map (name_in s) (take count table)) (names_of (n - i) (drop at s))

pub list-start : (s : List ℕ) (from n : ℕ) (t : List ℕ) → from ≤ 65535 → n ≤ 65535 → n ≤ length t → ListAt s from n t t from 0 0
unfolding is_ordered all_short all_names
list-start s from n t h m w =
    let e : n - 0 ≡ n = omega arith in
    record {
      low = h;
      most = m;
      wide = w;
      within = omega arith;
      near = omega arith;
      long = refl;
      few = omega arith;
      small = refl;
      sorted = refl;
      rest = refl;
      left = rw e;
    }

module _ (s : List ℕ) (from n : ℕ) (t table : List ℕ) (at i count : ℕ) (h : ListAt s from n t table at i count) where
  pub list-sorted : is_ordered (map (name_in s) (take count table)) ≡ true
  list-sorted = h.sorted

  module _ (l : i < n) where
    pub list_count : count < length table
    list_count = omega (arith, h.few, h.wide, h.long)

    -- the entry is a number of 64 bits
    pub list-first : at + 1 < 2 ^ 64
    list-first = omega (arith, h.near, h.low, h.most)

    pub list-high : (at + 1) * 65536 < 2 ^ 64
    list-high = omega (arith, h.near, h.low, h.most)

    pub list-entry : (m : List ℕ) → length m ≤ 255 → (at + 1) * 65536 + length m < 2 ^ 64
    list-entry m lm = omega (arith, h.near, h.low, h.most)

    pub list-after : (b : ℕ) → b < 256 → at + 1 + b < 2 ^ 64
    list-after b lb = omega (arith, h.near, h.low, h.most)

    pub list-more : (u m : List ℕ) → u ≡ drop at s → m ≡ name_of u → length m ≤ 255 → (table₁ : List ℕ) (count₁ : ℕ)
        → Inserted s table table₁ count ((at + 1) * 65536 + length m) count₁ → (b : ℕ) → b ≡ get_or s at 0 → b < 256
        → ListAt s from n t table₁ (at + 1 + b) (i + 1) count₁
    unfolding ordered_from all_short name_of names_of after_name
    list-more u m eu em lm table₁ count₁ j b eb lb =
        let here : at + 0 ≡ at = omega arith in
        let first : get_or (drop at s) 0 0 ≡ get_or s at 0 = get_or-drop at s 0 0 ∙ rw here in
        let m-is : m ≡ take b (drop (at + 1) s) = em ∙ rw (eu, first, ← eb, drop-drop 1 at s) in
        let name_is : name_in s ((at + 1) * 65536 + length m) ≡ m = entry-is s m at (omega arith) (rw m-is (take-front b (drop (at + 1) s))) in
        let k : n - i ≡ suc (n - (i + 1)) = omega arith in
        let d : at + (1 + b) ≡ at + 1 + b = omega arith in
        record {
          low = h.low;
          most = h.most;
          wide = h.wide;
          within = omega arith;
          near = omega (arith, h.near);
          long = j.long ∙ h.long;
          few = omega (arith, j.most, h.few);
          small = rw (j.names_are, name_is) (insert_all is_short m (map (name_in s) (take count table)) (short_is m lm) h.small);
          sorted = j.sorted;
          rest = rest_more count count₁ table₁ table t j.least j.rest h.rest;
          left = h.left ∙ rw (k, j.names_are, name_is, em, eu, first, ← eb, drop-drop (1 + b) at s, d);
        }

  pub list_done : n ≤ i → NamesInserted s (names_of n (drop from s)) t table 0 count
  unfolding ordered_from names_of
  list_done l =
      let z : n - i ≡ 0 = omega arith in
      record { names_are = sym (h.left ∙ rw z); sorted = h.sorted; small = λ a. h.small; long = h.long; rest = h.rest }

  pub list-few : count ≤ n
  list-few = omega (arith, h.few, h.within)

pub ruleset list_laws = (list-start, list-sorted, list_count, list-first, list-high, list-entry, list-after, list-more, list_done, list-few)
