-- Laws of names, and what each turn of the loops over them shows.
use Prim.Native.Nat.{ℕ, suc, ◌+◌, ◌-◌, ◌≤◌, ◌<◌}
use Rattle.records.specs.Bytes.{same_bytes}
use mathlib.Core.Path.{◌≡◌, refl, sym, ◌∙◌, ap, ap₂}
use mathlib.Core.List.{List, [], ◌∷◌, ◌++◌}
use mathlib.Core.Bool.{Bool, true, false, ◌&&◌, ◌||◌, not, and-true, and_assoc}
use native.Mathlib.Omega.{arith}
use native.Mathlib.Numerals.{add-one}
use lib.ListN.{length, get_or, take, drop}
use lib.Seq.{drop-drop, take-add, take-length, take-suc}
use lib.Dec.{leb, eqb}
use borrow.Author.Tests.{not-true, not-false}
use Rattle.records.proofs.bytes.Parts.{Splits, PartsAt, cover, parts_more, parts-done}
use Rattle.records.specs.Name.{printable, name_of, after_name, is_name, is_empty, is_names, names_of, mem_name}

-- ---- the name at the front

printable-append : (a b : List ℕ) → printable (a ++ b) ≡ (printable a && printable b)
unfolding printable
printable-append [] b = refl
printable-append (x ∷ xs) b = rw (printable-append xs b) (sym (and_assoc (leb 0x21 x && leb x 0x7E) (printable xs) (printable b)))

-- the n bytes from i on are printable
abbrev printable_part : List ℕ → ℕ → ℕ → Bool
printable_part s i n = printable (take n (drop i s))

printable_splits : (s : List ℕ) → Splits (printable_part s)
printable_splits s i n j m ej = rw (take-add n m (drop i s), drop-drop n i s, ej) (printable-append (take n (drop i s)) (take m (drop j s)))

-- one byte more
pub printable-next : (s : List ℕ) (i : ℕ) (good r : Bool) → i < length s → good ≡ printable (take i s) → r ≡ (leb 0x21 (get_or s i 0) && leb (get_or s i 0) 0x7E) → (good && r) ≡ printable (take (i + 1) s)
unfolding printable
printable-next s i good r l e er =
    rw (e, er, add-one, take-suc s i 0 l, printable-append (take i s) (get_or s i 0 ∷ []), and-true (leb 0x21 (get_or s i 0) && leb (get_or s i 0) 0x7E))

-- the first i bytes and the last 16 are read
pub record PrintableAt (s : List ℕ) (last : ℕ) (good : Bool) (i : ℕ) : Type 0 where
  pub at_last : last ≡ length s - 16
  pub parts : PartsAt (printable_part s) (length s) good i

module _ (s : List ℕ) where
  whole : printable_part s 0 (length s) ≡ printable s
  whole = rw (take-length s)

  -- the last k bytes
  back : (k : ℕ) (x : Bool) → k ≤ length s → x ≡ printable (take (length s - (length s - k)) (drop (length s - k) s)) → x ≡ printable_part s (length s - k) k
  back k x l ex = let e : length s - (length s - k) ≡ k = omega arith in rw e at ex

  two : (k : ℕ) (x y : Bool) → k ≤ length s → length s ≤ k + k → x ≡ printable (take k s) → y ≡ printable (take (length s - (length s - k)) (drop (length s - k) s)) → (x && y) ≡ printable s
  two k x y l m ex ey = ap₂ ◌&&◌ ex (back k y l ey) ∙ (sym (cover (printable_part s) (printable_splits s) (length s) k k l l m) ∙ whole)

  pub printable_fours : (x y : Bool) → 4 ≤ length s → length s < 8 → x ≡ printable (take 4 s) → y ≡ printable (take (length s - (length s - 4)) (drop (length s - 4) s)) → (x && y) ≡ printable s
  printable_fours x y l m ex ey = two 4 x y l (omega arith) ex ey

  pub printable_eights : (x y : Bool) → 8 ≤ length s → length s < 16 → x ≡ printable (take 8 s) → y ≡ printable (take (length s - (length s - 8)) (drop (length s - 8) s)) → (x && y) ≡ printable s
  printable_eights x y l m ex ey = two 8 x y l (omega arith) ex ey

  pub printable-start : (r : Bool) → 16 ≤ length s → r ≡ printable (take (length s - (length s - 16)) (drop (length s - 16) s)) → PrintableAt s (length s - 16) r 0
  unfolding printable
  printable-start r l er = record { at_last = refl; parts = record { long = l; within = omega arith; got = back 16 r l er } }

module _ (s : List ℕ) (last : ℕ) (good : Bool) (i : ℕ) (h : PrintableAt s last good i) where
  pub printable-more : (x : Bool) → i < last → x ≡ printable (take (i + 16 - i) (drop i s)) → PrintableAt s last (good && x) (i + 16)
  printable-more x l ex =
      let e : i + 16 - i ≡ 16 = omega arith in
      record {
        at_last = h.at_last;
        parts = parts_more (printable_part s) (printable_splits s) (length s) good i h.parts (good && x) (omega (arith, h.at_last)) (ap (λ (y : Bool). good && y) (rw e at ex));
      }

  pub printable-done : last ≤ i → good ≡ printable s
  printable-done l = parts-done (printable_part s) (printable_splits s) (length s) good i h.parts (omega (arith, h.at_last)) ∙ whole s

-- i names are passed, and the others are still to come, from t on
pub record NamesAt (s : List ℕ) (count : ℕ) (t : List ℕ) (i : ℕ) : Type 0 where
  pub within : i ≤ count
  pub left : is_names count s ≡ is_names (count - i) t

pub names-start : (s : List ℕ) (count : ℕ) → NamesAt s count s 0
names-start s count = let e : count - 0 ≡ count = omega arith in record { within = omega arith; left = rw e }

module _ {s : List ℕ} {count : ℕ} {t : List ℕ} {i : ℕ} (h : NamesAt s count t i) where
  names-step : i < count → is_names (count - i) t ≡ (is_name t && is_names (count - (i + 1)) (after_name t))
  unfolding is_names
  names-step l = let e : count - i ≡ suc (count - (i + 1)) = omega arith in rw e

  pub names-bad : (r : Bool) → i < count → r ≡ is_name t → not r ≡ true → false ≡ is_names count s
  names-bad r l er e = sym (h.left ∙ rw (names-step l, ← er, not-true r e))

  pub names_more : (r : Bool) (u : List ℕ) → i < count → r ≡ is_name t → not r ≡ false → u ≡ after_name t → NamesAt s count u (i + 1)
  names_more r u l er e eu = record { within = omega arith; left = h.left ∙ rw (names-step l, ← er, not-false r e, eu) }

  pub names-done : (r : Bool) → count ≤ i → r ≡ eqb (length t) 0 → r ≡ is_names count s
  unfolding is_names is_empty
  names-done r l er = let e : count - i ≡ 0 = omega arith in er ∙ sym (h.left ∙ rw e)

-- the name is none of the i that are passed, and the others are left, from t on
pub record MemAt (name s : List ℕ) (count : ℕ) (t : List ℕ) (i : ℕ) : Type 0 where
  pub within : i ≤ count
  pub left : mem_name name (names_of count s) ≡ mem_name name (names_of (count - i) t)

module _ {name s : List ℕ} {count : ℕ} {t : List ℕ} {i : ℕ} (h : MemAt name s count t i) where
  module _ (l : i < count) (m : List ℕ) (em : m ≡ name_of t) (r : Bool) (er : r ≡ same_bytes m name) where
    turn : mem_name name (names_of count s) ≡ (r || mem_name name (names_of (count - (i + 1)) (after_name t)))
    unfolding names_of mem_name
    turn = let e : count - i ≡ suc (count - (i + 1)) = omega arith in h.left ∙ rw (e, er, em)

    pub mem-yes : r ≡ true → true ≡ mem_name name (names_of count s)
    mem-yes e = sym (turn ∙ rw e)

    pub mem-more : (u : List ℕ) → r ≡ false → u ≡ after_name t → MemAt name s count u (i + 1)
    mem-more u e eu = record { within = omega arith; left = turn ∙ rw (e, eu) }

  pub mem-done : count ≤ i → false ≡ mem_name name (names_of count s)
  unfolding names_of mem_name
  mem-done l = let e : count - i ≡ 0 = omega arith in sym (h.left ∙ rw e)

pub ruleset has_name_laws = (mem-yes, mem-more, mem-done)

pub ruleset is_names_laws = (names-bad, names_more, names-done)

pub ruleset printable_laws = (printable_fours, printable_eights, printable-start, printable-more, printable-done)
