-- Of a set that the check takes: each RQ of a module's block is well-formed.
use Prim.Native.Nat.{ℕ}
use mathlib.Core.Path.{◌≡◌, refl}
use mathlib.Core.List.Memᴰ
use mathlib.Core.List.{List, ◌∷◌, Memᴰ}
use mathlib.Core.Logic.{⊎_elim}
use mathlib.Core.Bool.{Bool, true, false, cond}
use borrow.Author.Tests.{eqb-true}
use Rattle.records.specs.Record.{mark_of, body_of, set_kind, is_body, mark_for, is_of, bodies_in, bodies}
use Rattle.records.specs.Set.{check_set, blocks}
use Rattle.records.specs.declared.record.Kind.TheVariants.{Module, Requires, MainClass}
use Rattle.records.proofs.Logic.{clash}
use Rattle.records.proofs.record.Marks.{of-kind}
use Rattle.records.proofs.set.BlockSets.{Follows, none, inner, main, GoodBlock, good-block, block-alone}
use Rattle.std.specs.Prelude.{Ok}

-- among the records behind an MO
follows-requires : {m : Bool} {rs : List (List ℕ)} → Follows m rs → (b : List ℕ) → Memᴰ b (bodies_in Requires rs) → is_body Requires b ≡ true
unfolding bodies_in mark_for
follows-requires none b h = absurd (Memᴰ.not-nil h)
follows-requires (inner {r = r} {rs = rs} o k g f) b h = go (is_of Requires r) refl (follows-requires f b) h
  where
    kind : is_of Requires r ≡ true → set_kind (mark_of r) ≡ Requires
    kind q = unfold is_of mark_for set_kind in let e : mark_of r ≡ 0x5251 = eqb-true (mark_of r) 0x5251 q in rw e

    go : (c : Bool) → is_of Requires r ≡ c → (Memᴰ b (bodies_in Requires rs) → is_body Requires b ≡ true)
        → Memᴰ b (cond c (body_of r ∷ bodies_in Requires rs) (bodies_in Requires rs)) → is_body Requires b ≡ true
    go true ec below m = ⊎_elim (λ (q : b ≡ body_of r). rw (q, ← kind ec) g) (λ q. below q) (Memᴰ.cases_cons m)
    go false ec below m = below m
follows-requires (main {r = r} o k g f) b h = follows-requires f b (rw (of-kind r MainClass Requires (λ e. clash (cc)) k) at h)

pub good-requires : (s : List ℕ) (n : ℕ) (t : List ℕ) → check_set s ≡ Ok (record { count = n; starts = t })
    → (b : List ℕ) → Memᴰ b (blocks s) → (x : List ℕ) → Memᴰ x (bodies Requires b) → is_body Requires x ≡ true
unfolding bodies bodies_in mark_for
good-requires s n t e b m x k =
    let g : GoodBlock b = good-block s n t e b m in
    follows-requires g.follows x (rw (block-alone b g, of-kind g.header Module Requires (λ h. clash (cc)) g.kind) at k)
