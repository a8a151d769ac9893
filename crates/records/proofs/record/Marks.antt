-- Kinds and their marks.
use Prim.Native.Nat.{ℕ}
use mathlib.Core.Path.{◌≡◌, refl, ap, subst}
use mathlib.Core.List.{List}
use mathlib.Core.Bool.{Bool, true, false}
use lib.Dec.{eqb}
use borrow.Author.Tests.{eqb-true}
use Rattle.records.specs.Record.{mark_of, mark_for, pick_kind, is_of, set_kind}
use Rattle.records.specs.declared.record.Kind.{Kind}
use Rattle.records.specs.declared.record.Kind.TheVariants.{Module, Requires, Exports, Opens, Uses, Provides, Package, MainClass, Place, Other}

-- ---- kinds and marks

-- the kind of a set's record tells its mark
unfoldable Told : ℕ → Kind → Type 0
Told m k = (k ≡ Other → ⊥) → m ≡ mark_for k

told : (m : ℕ) (b : Bool) (k l : Kind) → (b ≡ true → m ≡ mark_for k) → Told m l → Told m (pick_kind b k l)
unfolding Told
told m true k l f g = λ n. f refl
told m false k l f g = g

set_told : (m : ℕ) → Told m (set_kind m)
unfolding Told set_kind mark_for
set_told m =
    told m (eqb m 0x4D4F) Module _ (eqb-true m 0x4D4F)
    (told m (eqb m 0x5251) Requires _ (eqb-true m 0x5251)
    (told m (eqb m 0x4558) Exports _ (eqb-true m 0x4558)
    (told m (eqb m 0x4F50) Opens _ (eqb-true m 0x4F50)
    (told m (eqb m 0x5553) Uses _ (eqb-true m 0x5553)
    (told m (eqb m 0x5056) Provides _ (eqb-true m 0x5056)
    (told m (eqb m 0x504B) Package _ (eqb-true m 0x504B)
    (told m (eqb m 0x4D43) MainClass _ (eqb-true m 0x4D43)
    (told m (eqb m 0x504C) Place Other (eqb-true m 0x504C) (λ n. absurd (n refl))))))))))

-- so it tells of what other kind the record is
pub of-kind : (r : List ℕ) (k j : Kind) → (k ≡ Other → ⊥) → set_kind (mark_of r) ≡ k → is_of j r ≡ eqb (mark_for k) (mark_for j)
unfolding Told is_of
of-kind r k j n e = ap (λ (m : ℕ). eqb m (mark_for j)) (subst (λ (l : Kind). Told (mark_of r) l) e (set_told (mark_of r)) n)
