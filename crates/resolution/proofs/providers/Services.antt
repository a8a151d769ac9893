-- The services that a block provides, one after the other, and whether they are used.
use mathlib.Core.Path.{◌≡◌, refl, sym, ap, ◌∙◌}
use mathlib.Core.Bool.{Bool, true, false}
use mathlib.Core.List.{List, map}
use Prim.Native.Nat.{ℕ, ◌-◌, ◌<◌}
use native.Mathlib.Omega.{arith}
use lib.ListN.{length, take, drop}
use Rattle.records.specs.Name.{mem_name, name_of}
use Rattle.records.specs.Order.{name_in}
use Rattle.records.specs.Record.{bodies, next_of}
use Rattle.records.specs.Record.{Next}
use Rattle.records.specs.declared.record.Kind.TheVariants as Kind
use Rattle.records.proofs.record.Bodies.{next-less}
use Rattle.resolution.specs.Lists.{Name, any}
use Rattle.resolution.specs.Resolver.{has_named}
use Rattle.resolution.specs.Filter.{asked}
use Rattle.resolution.specs.Table.{NamesTold}
use Rattle.std.specs.Prelude.{Option, Some}
use Rattle.resolution.specs.declared.table.Told.TheVariants.{Services}
use Rattle.resolution.proofs.modules.Laws.{BodyAt, any-map, body-turn, body_more, body-done}
use Rattle.resolution.proofs.table.Laws.{tells-used}
use Rattle.records.specs.declared.record.Span.{Span}
use Rattle.std.specs.Prelude.{Some, None}

-- ---- one service

-- the table tells all services that are used
pub service_told : (set starts ps table : List ℕ) (s : Option ℕ) → NamesTold Services set starts ps table s → (count : ℕ) → s ≡ Some count
    → (n : Name) (r : Bool) → r ≡ mem_name n (map (name_in set) (take count table)) → r ≡ has_named (asked set starts) Kind.Uses ps n
service_told set starts ps table s h count a n r er = er ∙ h.told count a n ∙ tells-used set starts ps n

pub ruleset service_laws = (service_told)

-- ---- all that a block provides

-- no service that the block provides before `at` passes
pub record ProvidesAt (q : Name → Bool) (b : List ℕ) (at : ℕ) : Type 0 where
  pub walk : BodyAt (λ (x : List ℕ). q (name_of x)) Kind.Provides b at

pub provides_start : (q : Name → Bool) (b : List ℕ) → ProvidesAt q b 0
provides_start q b = record { walk = record { within = omega arith; left = refl } }

module _ (q : Name → Bool) (b : List ℕ) (at : ℕ) (h : ProvidesAt q b at) (r : Next) (er : r ≡ next_of Kind.Provides b at) where
  module _ (span : Span) (e : r ≡ Some span) where
    pub provides_less : length b - span.next.at < length b - at
    provides_less = next-less Kind.Provides b at r er span.start span.len span.next e h.walk.within

    module _ (x m : List ℕ) (ex : x ≡ take span.len (drop span.start b)) (em : m ≡ name_of x) (t : Bool) (et : t ≡ q m) where
      asks : q (name_of (take span.len (drop span.start b))) ≡ t
      asks = sym (et ∙ ap q (em ∙ ap name_of ex))

      pub provides_here : t ≡ true → true ≡ any q (map name_of (bodies Kind.Provides b))
      provides_here y =
          sym (any-map name_of q (bodies Kind.Provides b) ∙ body-turn (λ (z : List ℕ). q (name_of z)) Kind.Provides b at h.walk r er span e ∙ rw (asks, y))

      pub provides_more : t ≡ false → ProvidesAt q b span.next.at
      provides_more y = record { walk = body_more (λ (z : List ℕ). q (name_of z)) Kind.Provides b at h.walk r er span e (asks ∙ y) }

  pub provides_done : r ≡ None → false ≡ any q (map name_of (bodies Kind.Provides b))
  provides_done e = sym (any-map name_of q (bodies Kind.Provides b) ∙ body-done (λ (z : List ℕ). q (name_of z)) Kind.Provides b at h.walk r er e)

pub ruleset provides_laws = (provides_start, provides_less, provides_here, provides_more, provides_done)
