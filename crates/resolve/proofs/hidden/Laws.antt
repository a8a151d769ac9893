-- What each turn of the walk over the PL of a set shows: the number of places is small.
use Prim.Native.Nat.{ℕ, ◌+◌, ◌-◌, ◌*◌, ◌^◌, ◌≤◌, ◌<◌}
use mathlib.Core.Path.{◌≡◌, sym, ◌∙◌}
use mathlib.Core.List.{List}
use native.Mathlib.Omega.{arith}
use lib.ListN.{length, take}
use Rattle.records.specs.Record.{next_of}
use Rattle.records.specs.Set.{check_set}
use Rattle.records.specs.declared.set.Checked.{Checked}
use Rattle.records.specs.declared.record.Kind.{Kind}
use Rattle.records.specs.Record.{Next}
use Rattle.records.specs.Set.{SetAnswer}
use Rattle.std.proofs.Common.{length-take-le}
use Rattle.records.proofs.sorted.Index.{indexed-none}
use Rattle.resolution.proofs.Sets.{starts-room}
use Rattle.records.proofs.record.Bodies.{next-room, next-later, next-less}
use Rattle.std.specs.Prelude.{Some, Ok}
use Rattle.records.specs.declared.record.Span.{Span}

-- the walk is at `at`, and there are so many places before: a record takes four bytes at least
pub record PlaceAt (s : List ℕ) (place at : ℕ) : Type 0 where
  pub within : at ≤ length s
  pub short : length s ≤ 65536
  pub few : 4 * place ≤ at + 4

pub place-start : (s : List ℕ) → length s ≤ 65536 → PlaceAt s 1 0
place-start s h = record { within = omega arith; short = h; few = omega arith }

module _ (s : List ℕ) (place at : ℕ) (h : PlaceAt s place at) where
  pub place-sum : place + 1 < 2 ^ 64
  place-sum = omega (arith, h.within, h.short, h.few)

  module _ (k : Kind) (r : Next) (er : r ≡ next_of k s at) (span : Span) (e : r ≡ Some span) where
    pub place-less : length s - span.next.at < length s - at
    place-less = next-less k s at r er span.start span.len span.next e h.within

    pub place-more : PlaceAt s (place + 1) span.next.at
    place-more = record { within = next-room k s at r er span.start span.len span.next e h.within; short = h.short; few = omega (arith, h.few, next-later k s at r er span.start span.len span.next e) }

    pub place-pass : PlaceAt s place span.next.at
    place-pass = record { within = next-room k s at r er span.start span.len span.next e h.within; short = h.short; few = omega (arith, h.few, next-later k s at r er span.start span.len span.next e) }

pub ruleset place_laws = (place-start, place-sum, place-less, place-more, place-pass)

-- ---- the set is checked first

module _ (s : List ℕ) (r : SetAnswer) (er : r ≡ check_set s) (c : Checked) (e : r ≡ Ok c) where
  pub hidden-room : c.count ≤ length c.starts
  hidden-room = starts-room s c.count c.starts (sym er ∙ e)

  pub hidden-taken : c.count ≡ length (take c.count c.starts)
  hidden-taken = sym (length-take-le c.count c.starts hidden-room)

pub ruleset hidden_laws = (indexed-none, hidden-room, hidden-taken)
