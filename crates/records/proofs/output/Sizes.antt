-- The packages of a table, and the bytes that their records take.
use Prim.Native.Nat.{ℕ, zero, suc, ◌+◌, ◌*◌, ◌/◌, ◌%◌, ◌≤◌, ◌<◌}
use mathlib.Core.Path.{◌≡◌, sym, ◌∙◌, ap}
use mathlib.Core.List.{List, [], ◌∷◌, map}
use native.Mathlib.Omega.{arith}
use native.Mathlib.Numerals.{add-one}
use lib.ListN.{length, get_or, take, drop, drop_of_length-le, length-map, get_or-map}
use lib.Seq.{drop-cons, get_or-take, length-take-le}
use mir.Syntax.{w64}
use mir.Val.{Fits}
use mir.Facts.{Fits-below}
use Rattle.records.specs.Order.{name_in}
use Rattle.records.specs.Output.{packages_size, names_in}

-- ---- the packages of a table

pub names-long : (s t : List ℕ) (count : ℕ) → count ≤ length t → length (names_in s t count) ≡ count
unfolding names_in
names-long s t count h = length-map (take count t) (name_in s) ∙ length-take-le count t h

pub names-next : (s t : List ℕ) (count i : ℕ) → count ≤ length t → i < count → drop i (names_in s t count) ≡ name_in s (get_or t i 0) ∷ drop (suc i) (names_in s t count)
unfolding names_in
names-next s t count i h l =
    drop-cons (names_in s t count) i (name_in s 0) (omega (arith, names-long s t count h))
    ∙ rw (get_or-map (name_in s) (take count t) i 0, get_or-take count t i 0 l)

pub names-end : (s t : List ℕ) (count i : ℕ) → count ≤ length t → count ≤ i → drop i (names_in s t count) ≡ []
names-end s t count i h l = drop_of_length-le (names_in s t count) {i = i} (omega (arith, names-long s t count h))

take_short : (n : ℕ) (l : List ℕ) → length (take n l) ≤ n
take_short zero l = omega arith
take_short (suc n) [] = omega arith
take_short (suc n) (x ∷ l) = omega (arith, take_short n l)

-- an entry has two bytes for the length
pub name-fits : (s : List ℕ) (e : ℕ) → length (name_in s e) < 65536
unfolding name_in
name-fits s e = omega (arith, take_short (e % 65536) (drop (e / 65536) s))

-- ---- the loop that adds up

-- the records of the first i names take n bytes
pub record SizeAt (s t : List ℕ) (count n i : ℕ) : Type 0 where
  pub entries : count ≤ length t
  pub few : count ≤ 16384
  pub within : i ≤ count
  pub low : n ≤ i * 196624
  pub left : packages_size (names_in s t count) ≡ n + packages_size (drop i (names_in s t count))

pub size-start : (s t : List ℕ) (count : ℕ) → count ≤ length t → count ≤ 16384 → SizeAt s t count 0 0
size-start s t count h f = record { entries = h; few = f; within = omega arith; low = omega arith; left = omega arith }

module _ (s r : List ℕ) (e : ℕ) (er : r ≡ name_in s e) where
  told-fits : length r < 65536
  told-fits = rw er (name-fits s e)

  pub size-mul : Fits w64 (3 * length r)
  size-mul = Fits-below {n = 196605} tt (omega (arith, told-fits))

  pub size-term : Fits w64 (3 * length r + 19)
  size-term = Fits-below {n = 196624} tt (omega (arith, told-fits))

module _ {s t : List ℕ} {count n i : ℕ} (h : SizeAt s t count n i) where
  module _ (l : i < length (take count t)) (r : List ℕ) (er : r ≡ name_in s (get_or (take count t) i 0)) where
    inside : i < count
    inside = omega (arith, length-take-le count t h.entries)

    entry : r ≡ name_in s (get_or t i 0)
    entry = er ∙ ap (name_in s) (get_or-take count t i 0 inside)

    pub size-sum : Fits w64 (n + (3 * length r + 19))
    size-sum = Fits-below {n = 3221487616} tt (omega (arith, inside, told-fits s r (get_or t i 0) entry, h.few, h.low))

    pub size-more : SizeAt s t count (n + (3 * length r + 19)) (i + 1)
    unfolding packages_size
    size-more = record {
      entries = h.entries;
      few = h.few;
      within = omega (arith, inside);
      low = omega (arith, told-fits s r (get_or t i 0) entry, h.low);
      left = h.left ∙ rw (names-next s t count i h.entries inside, add-one i, ← entry) (omega arith);
    }

  pub size-done : length (take count t) ≤ i → n ≡ packages_size (map (name_in s) (take count t))
  unfolding packages_size names_in
  size-done l = sym (h.left ∙ rw (names-end s t count i h.entries (omega (arith, length-take-le count t h.entries))) (omega arith))

  pub size_low : n ≤ count * 196624
  size_low = omega (arith, h.within, h.low)

pub ruleset size_laws = (size-mul, size-term, size-sum, size-more, size-done)
