-- The PK records of the names of a table: their bytes, and what each turn of the loop that adds up shows.
use Prim.Native.Nat.{ℕ, suc, ◌+◌, ◌*◌, ◌≤◌, ◌<◌}
use mathlib.Core.Path.{◌≡◌, refl, sym, ap, ◌∙◌}
use mathlib.Core.List.{List, [], ◌∷◌, map, append-nil}
use mathlib.Core.Bool.{true}
use native.Mathlib.Omega.{arith}
use native.Mathlib.Numerals.{add-one}
use lib.ListN.{length, get_or, take, drop, drop_of_length-le, length-append}
use lib.Seq.{drop-cons}
use mir.Syntax.{w64}
use mir.Val.{Fits}
use mir.Facts.{Fits-below}
use Rattle.records.specs.Order.{name_in, all_short}
use Rattle.records.specs.Output.{Put, name_bytes, record_bytes, marked, group_of, names_in, GroupRoom}
use Rattle.records.specs.Record.{mark_for}
use Rattle.records.specs.declared.record.Kind.TheVariants as Kind
use Rattle.records.proofs.output.Made.{made-long}
use Rattle.records.proofs.output.Sizes.{name-fits}
use Rattle.class_reader.specs.Attribute.{package_item}
use Rattle.class_reader.specs.Entry.{bytes_of}

-- the PK records of these names
abbrev pub package_bytes : List (List ℕ) → List ℕ
package_bytes ns = bytes_of (map package_item ns)

first_long : (n : List ℕ) (ns : List (List ℕ)) → length (package_bytes (n ∷ ns)) ≡ 5 + length n + length (package_bytes ns)
unfolding bytes_of package_item name_bytes
first_long n ns =
    length-append (record_bytes Kind.Package (length n ∷ n)) (package_bytes ns) ∙ rw (made-long Kind.Package (length n ∷ n)) (omega arith)

-- ---- the loop

-- the records of the first i names take n bytes
pub record PackagesSize (f t : List ℕ) (n i : ℕ) : Type 0 where
  pub few : length t ≤ 65535
  pub low : n ≤ i * 65540
  pub left : length (package_bytes (map (name_in f) t)) ≡ n + length (package_bytes (map (name_in f) (drop i t)))

pub size-start : (f t : List ℕ) → length t ≤ 65535 → PackagesSize f t 0 0
size-start f t w = record { few = w; low = omega arith; left = omega arith }

module _ (f r : List ℕ) (e : ℕ) (er : r ≡ name_in f e) where
  told-fits : length r < 65536
  told-fits = rw er (name-fits f e)

  pub size-term : Fits w64 (5 + length r)
  size-term = Fits-below {n = 65541} tt (omega (arith, told-fits))

module _ {f t : List ℕ} {n i : ℕ} (h : PackagesSize f t n i) where
  module _ (l : i < length t) (r : List ℕ) (er : r ≡ name_in f (get_or t i 0)) where
    pub size-sum : Fits w64 (n + (5 + length r))
    size-sum = Fits-below {n = 4295229440} tt (omega (arith, told-fits f r (get_or t i 0) er, h.few, h.low))

    pub size-more : PackagesSize f t (n + (5 + length r)) (i + 1)
    size-more = record {
      few = h.few;
      low = omega (arith, told-fits f r (get_or t i 0) er, h.low);
      left = h.left ∙ rw (drop-cons t i 0 l, add-one i, ← er, first_long r (map (name_in f) (drop (suc i) t))) (omega arith);
    }

  pub size-done : length t ≤ i → n ≡ length (bytes_of (map package_item (map (name_in f) t)))
  unfolding bytes_of
  size-done l = sym (h.left ∙ rw (drop_of_length-le t {i = i} l) (omega arith))

  pub size_low : length t ≤ i → i ≤ length t → n ≤ 65541 * length t
  size_low l m = omega (arith, h.low)

pub ruleset size-laws = (size-start, size-term, size-sum, size-more, size-done, size_low)

-- ---- what is written

group-is : (ns : List (List ℕ)) → group_of 0x504B 0 ns ≡ package_bytes ns
unfolding group_of bytes_of package_item marked record_bytes mark_for
group-is [] = refl
group-is (n ∷ ns) = rw (append-nil (name_bytes n), group-is ns)

-- the names of a whole table
all-names : (f t : List ℕ) → names_in f t (length t) ≡ map (name_in f) t
unfolding names_in
all-names f t = rw (take-all t)
  where
    take-all : (l : List ℕ) → take (length l) l ≡ l
    take-all [] = refl
    take-all (x ∷ l) = ap (λ (r : List ℕ). x ∷ r) (take-all l)

module _ (o : List ℕ) (at : ℕ) (f t : List ℕ) (mark : ℕ) (em : mark ≡ mark_for Kind.Package) where
  group : group_of mark 0 (names_in f t (length t)) ≡ package_bytes (map (name_in f) t)
  unfolding mark_for
  group = rw (em, all-names f t) (group-is (map (name_in f) t))

  pub packages_room : all_short (map (name_in f) t) ≡ true → at + length (bytes_of (map package_item (map (name_in f) t))) ≤ length o
      → GroupRoom o at mark 0 f t (length t)
  packages_room s h = record { entries = omega arith; ends = omega arith; room = rw group h; short = rw (all-names f t) s }

  pub packages_put : (out : List ℕ) (r : ℕ) → Put o at (group_of mark 0 (names_in f t (length t))) out r
      → Put o at (bytes_of (map package_item (map (name_in f) t))) out r
  packages_put out r p = rw group at p
