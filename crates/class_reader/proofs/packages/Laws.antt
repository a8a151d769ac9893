-- The names of indices put in byte order: what each turn of the loop shows.
use Prim.Native.Nat.{ℕ, ◌+◌, ◌-◌, ◌*◌, ◌≤◌, ◌<◌}
use mathlib.Core.Path.{◌≡◌, refl, sym, ◌∙◌}
use mathlib.Core.List.{List, ◌∷◌, map}
use mathlib.Core.Bool.{true}
use native.Mathlib.Omega.{arith}
use lib.ListN.{length, take}
use borrow.Author.Tests.{le-leb}
use Rattle.records.specs.Bytes.{u16_at}
use Rattle.records.specs.Order.{name_in, ordered_from, ordered, is_ordered, all_names, is_short, all_short, Inserted}
use Rattle.records.specs.Output.{names_in}
use Rattle.records.proofs.order.Ordered.{insert_all}
use Rattle.records.proofs.output.Groups.{short-first, short-rest}
use Rattle.class_reader.specs.Pool.{name_at}
use Rattle.class_reader.specs.Entry.{names_at}
use Rattle.class_reader.specs.Packages.{NamesOrdered}
use Rattle.class_reader.proofs.output.Names.{names_more, names-none}

-- the names of the first i indices are in the table, and the others are still to come
pub record OrderAt (f t : List ℕ) (n p : ℕ) (table₀ table : List ℕ) (count i : ℕ) : Type 0 where
  pub few : n ≤ 65535
  pub low : p ≤ 65547
  pub within : i ≤ n
  pub wide : n ≤ length table
  pub long : length table ≡ length table₀
  pub most : count ≤ i
  pub small : all_short (names_in f table count) ≡ true
  pub sorted : is_ordered (names_in f table count) ≡ true
  pub coming : all_short (names_at f t (n - i) (p + 2 * i)) ≡ true
  pub left : ordered (names_at f t n p) ≡ ordered_from (names_in f table count) (names_at f t (n - i) (p + 2 * i))

pub order-start : (f t : List ℕ) (n p : ℕ) (table : List ℕ) → n ≤ length table → n ≤ 65535 → p ≤ 65547 → all_short (names_at f t n p) ≡ true → OrderAt f t n p table table 0 0
unfolding ordered names_in is_ordered all_short all_names
order-start f t n p table w few low s =
    let a : n - 0 ≡ n = omega arith in
    let q : p + 2 * 0 ≡ p = omega arith in
    record {
      few = few;
      low = low;
      within = omega arith;
      wide = w;
      long = refl;
      most = omega arith;
      small = refl;
      sorted = refl;
      coming = rw (a, q) s;
      left = rw (a, q);
    }

module _ {f t : List ℕ} {n p : ℕ} {table₀ table : List ℕ} {count i : ℕ} (h : OrderAt f t n p table₀ table count i) where
  pub order-sorted : is_ordered (map (name_in f) (take count table)) ≡ true
  unfolding names_in
  order-sorted = h.sorted

  abbrev rest : List (List ℕ)
  rest = names_at f t (n - (i + 1)) (p + 2 * (i + 1))

  module _ (l : i < n) where
    pub order-count : count < length table
    order-count = omega (arith, h.most, h.wide)

    module _ (k entry : ℕ) (ek : k ≡ u16_at f (p + 2 * i)) (ee : name_in f entry ≡ name_at f t k) where
      next : names_at f t (n - i) (p + 2 * i) ≡ name_in f entry ∷ rest
      next = names_more f t n p i l ∙ rw (ee, ek)

      short : is_short (name_in f entry) ≡ true
      unfolding is_short
      short = le-leb (length (name_in f entry)) 255 (short-first (name_in f entry) rest (rw next at h.coming))

      pub order-more : (table₁ : List ℕ) (count₁ : ℕ) → Inserted f table table₁ count entry count₁ → OrderAt f t n p table₀ table₁ count₁ (i + 1)
      unfolding names_in ordered_from all_short
      order-more table₁ count₁ s = record {
        few = h.few;
        low = h.low;
        within = omega arith;
        wide = omega (arith, h.wide, s.long);
        long = s.long ∙ h.long;
        most = omega (arith, h.most, s.most);
        small = rw s.names_are (insert_all is_short (name_in f entry) (map (name_in f) (take count table)) short h.small);
        sorted = s.sorted;
        coming = short-rest (name_in f entry) rest (rw next at h.coming);
        left = h.left ∙ rw (next, s.names_are);
      }

  pub order-done : n ≤ i → NamesOrdered f (names_at f t n p) table₀ table count
  unfolding ordered_from
  order-done l = record {
    names_are = sym (h.left ∙ rw (names-none f t n p i l));
    small = h.small;
    long = h.long;
    within = omega (arith, h.most, h.within, h.wide);
  }

  pub order_long : length table ≡ length table₀
  order_long = h.long

pub ruleset order-laws = (order-start, order-sorted, order-count, order-more, order-done, order_long)
