-- The packages of a ModulePackages attribute: how many they are, how long their names, and the table that tells them in order.
use Prim.Native.Nat.{ℕ, zero, suc, ◌+◌, ◌*◌, ◌≤◌}
use mathlib.Core.Path.{◌≡◌, refl, ◌∙◌, ap}
use mathlib.Core.List.{List, [], ◌∷◌, map}
use mathlib.Core.Bool.{Bool, true, false, cond, ◌&&◌}
use native.Mathlib.Omega.{arith}
use lib.ListN.{length, take}
use lib.Seq.{length-take-le}
use Rattle.std.proofs.Common.{Option, Some, None}
use Rattle.std.specs.Option.{ForSome}
use lib.Dec.{ltb, leb}
use borrow.Author.Tests.{leb-true}
use Rattle.records.specs.Bytes.{same_bytes, before_bytes, u16_at}
use Rattle.records.specs.Name.{printable}
use Rattle.records.specs.Order.{name_in, insert_name, ordered_from, ordered, all_names, is_short, all_short}
use Rattle.records.specs.Output.{names_in}
use Rattle.records.proofs.Logic.{and_left, and_right}
use Rattle.records.proofs.output.Sizes.{names-long}
use Rattle.class_reader.specs.Pool.{is_name_text, has_name}
use Rattle.class_reader.specs.Entry.{names_at, name_tag, entry_end, rest_good, is_entry, entries_good, table_good}
use Rattle.class_reader.specs.Attribute.{package_names}
use Rattle.class_reader.specs.Packages.{NamesOrdered}
use Rattle.class_reader.specs.Reader.{package_count, Ordered}
use Rattle.class_reader.specs.Walk.{Readable}
use Rattle.class_reader.specs.declared.entry.Entry.TheVariants.{Package}
use Rattle.class_reader.specs.declared.attribute.Seen.{Seen}
use Rattle.class_reader.proofs.entry.Bodies.{entry_named}

-- ---- good indices

-- names that obey the name rule are short
short-all : (ns : List (List ℕ)) → all_names is_name_text ns ≡ true → all_short ns ≡ true
unfolding all_short all_names is_short is_name_text
short-all [] e = refl
short-all (n ∷ ns) e =
    let g : (ltb 0 (length n) && (leb (length n) 255 && printable n)) ≡ true =
    and_left (ltb 0 (length n) && (leb (length n) 255 && printable n)) (all_names is_name_text ns) e in
    rw (and_left (leb (length n) 255) (printable n) (and_right (ltb 0 (length n)) (leb (length n) 255 && printable n) g))
    (short-all ns (and_right (is_name_text n) (all_names is_name_text ns) e))

module _ (f t : List ℕ) where
  package_low : (p : ℕ) → is_entry Package f t p ≡ true → p + 2 ≤ length f
  unfolding is_entry entry_end
  package_low p h = leb-true (p + 2) (length f) (and_left (leb (p + 2) (length f)) (has_name (name_tag Package) f t (u16_at f p) && rest_good Package f t p) h)

  names-told : (n p : ℕ) → entries_good Package f t n p ≡ true → all_names is_name_text (names_at f t n p) ≡ true
  unfolding entries_good entry_end names_at all_names
  names-told zero p g = refl
  names-told (suc n) p g =
      rw (entry_named Package f t p (and_left (is_entry Package f t p) (entries_good Package f t n (p + 2)) g))
      (names-told n (p + 2) (and_right (is_entry Package f t p) (entries_good Package f t n (p + 2)) g))

  entries-few : (n p : ℕ) → p ≤ length f → entries_good Package f t n p ≡ true → p + 2 * n ≤ length f
  unfolding entries_good entry_end
  entries-few zero p l h = omega arith
  entries-few (suc n) p l h =
      let low : p + 2 ≤ length f = package_low p (and_left (is_entry Package f t p) (entries_good Package f t n (p + 2)) h) in
      omega (arith, entries-few n (p + 2) low (and_right (is_entry Package f t p) (entries_good Package f t n (p + 2)) h))

  module _ (p : ℕ) (h : table_good Package f t p ≡ true) where
    table-entries : entries_good Package f t (u16_at f p) (p + 2) ≡ true
    unfolding table_good
    table-entries = and_right (leb (p + 2) (length f)) (entries_good Package f t (u16_at f p) (p + 2)) h

    table-few : p + 2 + 2 * u16_at f p ≤ length f
    unfolding table_good
    table-few =
        entries-few (u16_at f p) (p + 2)
        (leb-true (p + 2) (length f) (and_left (leb (p + 2) (length f)) (entries_good Package f t (u16_at f p) (p + 2)) h))
        table-entries

-- ---- the indices of the attribute

-- they obey the name rule
pub package_names_lem : (f t : List ℕ) (o : Option ℕ) → ((at : ℕ) → o ≡ Some at → table_good Package f t (at + 6) ≡ true) → all_names is_name_text (package_names f t o) ≡ true
unfolding package_names all_names
package_names_lem f t None g = refl
package_names_lem f t (Some at) g =
    let w : at + 6 + 2 ≡ at + 8 = omega arith in
    names-told f t (u16_at f (at + 6)) (at + 8) (rw w at (table-entries f t (at + 6) (g at refl)))

module _ (f t : List ℕ) (s : Seen) (h : Readable f t s) where
  pub count-few : length f ≤ 65535 → package_count f s.packages ≤ 32768
  unfolding package_count
  count-few l = go s.packages refl
    where
      go : (o : Option ℕ) → s.packages ≡ o → package_count f o ≤ 32768
      go None e = omega arith
      go (Some at) e = omega (arith, table-few f t (at + 6) (h.packages_good at e))

  pub names-short : all_short (package_names f t s.packages) ≡ true
  names-short = short-all (package_names f t s.packages) (package_names_lem f t s.packages h.packages_good)

  pub packages-low : length f ≤ 65535 → ForSome s.packages (λ at. at ≤ 65535)
  packages-low l = λ at e. omega (arith, h.packages_low at e)

  module _ (at : ℕ) (e : s.packages ≡ Some at) where
    pub order-here : at ≤ length f
    order-here = h.packages_low at e

    module _ (n : ℕ) (en : n ≡ u16_at f (at + 6)) where
      named : package_names f t s.packages ≡ names_at f t n (at + 8)
      unfolding package_names
      named = rw (e, en)

      pub order-short : all_short (names_at f t n (at + 8)) ≡ true
      order-short = rw named at names-short

      pub order-room : (table : List ℕ) → package_count f s.packages ≤ length table → n ≤ length table
      unfolding package_count
      order-room table l = rw en (rw e at l)

-- ---- the table

insert-long : (n : List ℕ) (l : List (List ℕ)) → length (insert_name n l) ≤ suc (length l)
unfolding insert_name
insert-long n [] = omega arith
insert-long n (m ∷ l) = go (before_bytes n m) (same_bytes n m) (insert-long n l)
  where
    go : (a b : Bool) → length (insert_name n l) ≤ suc (length l)
        → length (cond a (n ∷ m ∷ l) (cond b (m ∷ l) (m ∷ insert_name n l))) ≤ suc (suc (length l))
    go true b ih = omega arith
    go false true ih = omega arith
    go false false ih = omega arith

from-long : (done l : List (List ℕ)) → length (ordered_from done l) ≤ length done + length l
unfolding ordered_from
from-long done [] = omega arith
from-long done (n ∷ l) = omega (arith, from-long (insert_name n done) l, insert-long n done)

ordered-long : (l : List (List ℕ)) → length (ordered l) ≤ length l
unfolding ordered
ordered-long l = omega (arith, from-long [] l)

names-count : (f t : List ℕ) (n p : ℕ) → length (names_at f t n p) ≡ n
unfolding names_at
names-count f t zero p = refl
names-count f t (suc n) p = ap suc (names-count f t n (p + 2))

module _ (f t : List ℕ) (s : Seen) (h : Readable f t s) where
  pub table-none : s.packages ≡ None → (table : List ℕ) → Ordered f t s (take 0 table)
  unfolding package_names ordered ordered_from all_short all_names
  table-none e table = record { names_are = rw e; small = refl; few = omega arith }

  module _ (at : ℕ) (e : s.packages ≡ Some at) (n : ℕ) (en : n ≡ u16_at f (at + 6)) (before after : List ℕ) (r : ℕ) (o : NamesOrdered f (names_at f t n (at + 8)) before after r) where
    told : map (name_in f) (take r after) ≡ ordered (package_names f t s.packages)
    unfolding names_in
    told = o.names_are ∙ rw (named f t s h at e n en)

    pub table-ordered : n ≤ 65535 → Ordered f t s (take r after)
    unfolding names_in
    table-ordered l = record {
      names_are = told;
      small = o.small;
      few =
          omega
          (arith, length-take-le r after o.within, names-long f after r o.within, ap length o.names_are, ordered-long (names_at f t n (at + 8)), names-count f t n (at + 8));
    }

    pub table-within : r ≤ length after
    table-within = o.within

pub ruleset order-laws = (packages-low, order-here, order-short, order-room, table-none, table-ordered, table-within)

-- a table has room: for the few that there are, or for as many as a file can have
pub few-room : (f : List ℕ) (o : Option ℕ) (n : ℕ) (table : List ℕ) → n ≡ package_count f o → n ≤ 1024 → 1024 ≤ length table → package_count f o ≤ length table
few-room f o n table e l k = omega (arith, e)

pub many-room : (f t : List ℕ) (s : Seen) (table : List ℕ) → Readable f t s → length f ≤ 65535 → 32768 ≤ length table
    → package_count f s.packages ≤ length table
many-room f t s table h l k = omega (arith, count-few f t s h l)
