-- What each turn of the walk over the records of a set shows: the table has room for one name more.
use Prim.Native.Nat.{ℕ, ◌+◌, ◌-◌, ◌*◌, ◌^◌, ◌≤◌, ◌<◌}
use mathlib.Core.Path.{◌≡◌, refl, ◌∙◌}
use mathlib.Core.Bool.{true}
use mathlib.Core.List.{List, map}
use native.Mathlib.Omega.{arith}
use lib.ListN.{length, take}
use Rattle.records.specs.Order.{name_in, is_ordered, Inserted}
use Rattle.records.specs.Record.{next_of}
use Rattle.records.specs.declared.record.Kind.{Kind}
use Rattle.records.specs.Record.{Next}
use Rattle.records.proofs.record.Bodies.{next-room, next-later, next-less, body-room}
use Rattle.std.specs.Prelude.{Some}
use Rattle.records.specs.declared.record.Span.{Span}

-- the walk is at `at`, and the table, which was t, has the first `count` names: a record takes four bytes at least
pub record NamesAt (s t table : List ℕ) (count at : ℕ) : Type 0 where
  pub within : at ≤ length s
  pub short : length s ≤ 65536
  pub wide : 16384 ≤ length t
  pub long : length table ≡ length t
  pub few : 4 * count ≤ at
  pub sorted : is_ordered (map (name_in s) (take count table)) ≡ true

pub names-start : (s t : List ℕ) → length s ≤ 65536 → 16384 ≤ length t → NamesAt s t t 0 0
unfolding is_ordered
names-start s t h k = record { within = omega arith; short = h; wide = k; long = refl; few = omega arith; sorted = refl }

module _ (s t table : List ℕ) (count at : ℕ) (h : NamesAt s t table count at) where
  module _ (k : Kind) (r : Next) (er : r ≡ next_of k s at) (span : Span) (e : r ≡ Some span) where
    pub names-room : count < length table
    names-room =
        omega (arith, next-room k s at r er span.start span.len span.next e h.within, next-later k s at r er span.start span.len span.next e, h.short, h.wide, h.long, h.few)

    -- where a name stands, and its entry, are numbers of 64 bits
    module _ (skip : ℕ) (l : skip < 8) where
      pub names-sum : span.start + skip < 2 ^ 64
      names-sum = omega (arith, l, body-room k s at r er span.start span.len span.next e h.within, h.short)

      pub names-first : span.start + skip + 1 < 2 ^ 64
      names-first = omega (arith, l, body-room k s at r er span.start span.len span.next e h.within, h.short)

      pub names-high : (span.start + skip + 1) * 65536 < 2 ^ 64
      names-high = omega (arith, l, body-room k s at r er span.start span.len span.next e h.within, h.short)

      pub names-entry : (m : List ℕ) → length m ≤ 255 → (span.start + skip + 1) * 65536 + length m < 2 ^ 64
      names-entry m n = omega (arith, l, n, body-room k s at r er span.start span.len span.next e h.within, h.short)

    pub names-less : length s - span.next.at < length s - at
    names-less = next-less k s at r er span.start span.len span.next e h.within

    pub names_more : (entry : ℕ) (table₁ : List ℕ) (count₁ : ℕ) → Inserted s table table₁ count entry count₁ → NamesAt s t table₁ count₁ span.next.at
    names_more entry table₁ count₁ w = record {
      within = next-room k s at r er span.start span.len span.next e h.within;
      short = h.short;
      wide = h.wide;
      long = w.long ∙ h.long;
      few = omega (arith, w.most, h.few, next-later k s at r er span.start span.len span.next e);
      sorted = w.sorted;
    }

    pub names-pass : NamesAt s t table count span.next.at
    names-pass = record {
      within = next-room k s at r er span.start span.len span.next e h.within;
      short = h.short;
      wide = h.wide;
      long = h.long;
      few = omega (arith, h.few, next-later k s at r er span.start span.len span.next e);
      sorted = h.sorted;
    }

  pub names-sorted : is_ordered (map (name_in s) (take count table)) ≡ true
  names-sorted = h.sorted

  pub names-done : count ≤ length table
  names-done = omega (arith, h.within, h.short, h.wide, h.long, h.few)

pub ruleset names_laws = (names-start, names-room, names-sum, names-first, names-high, names-entry, names-less, names_more, names-pass, names-sorted, names-done)
