-- Laws of the read edges' parts: what is required, and the overrides.
use mathlib.Core.Path.{◌≡◌, refl, sym, ap, ◌∙◌}
use mathlib.Core.Bool.{true, ◌&&◌}
use mathlib.Core.Option.{Option, none, some}
use mathlib.Core.List.Memᴰ
use mathlib.Core.List.{List, [], ◌∷◌, map}
use Rattle.records.proofs.bytes.Laws.{same-eq}
use Rattle.records.proofs.Logic.{and_both, and_left, and_right, or_cases, or_left, or_right, true≠false}
use Rattle.records.specs.Bytes.{same_bytes}
use Rattle.records.specs.Descriptor.{Descriptor, Requirement}
use Rattle.records.specs.Request.{Read, Grant, has_read, has_grant}
use Rattle.resolution.specs.Lists.{Mem, Name, keep}
use Rattle.resolution.specs.Reads.{required_names, transitive_names, transitive_of}
use Rattle.resolution.specs.Resolution.{find}
use Rattle.resolution.proofs.Find.{find-mem}
use Rattle.resolution.proofs.Lists.{flat_in, keep_out, map_in, map-out, →same}

-- a requirement of a module is required
pub required_in : (ms : List Descriptor) (m : Descriptor) (x : Name) → Mem m ms → Mem x (map (λ (r : Requirement). r.name) m.requires)
    → Mem x (required_names ms)
unfolding required_names
required_in ms m x h k = flat_in (λ (o : Descriptor). map (λ (r : Requirement). r.name) o.requires) h k

-- and so is a transitive requirement of a module resolved
pub transitive_in : (ms : List Descriptor) (n x : Name) → Mem x (transitive_of ms n) → Mem x (required_names ms)
unfolding transitive_of
transitive_in ms n x h = turned (find n ms) refl h
  where
    turned : (o : Option Descriptor) → find n ms ≡ o → Mem x (transitive_names o) → Mem x (required_names ms)
    turned none e q = unfold transitive_names in absurd (Memᴰ.not-nil q)
    turned (some a) e q = unfold transitive_names required_names in
        let r = map-out (λ (z : Requirement). z.name) (keep (λ (z : Requirement). z.transitive) a.requires) q in
        flat_in (λ (m : Descriptor). map (λ (z : Requirement). z.name) m.requires) (find-mem n ms a e).0
        (Memᴰ.cast r.2 (map_in (λ (z : Requirement). z.name) (keep_out (λ (z : Requirement). z.transitive) a.requires r.1).0))

-- ---- overrides: one that counts is one of the list
pub read_out : (l : List Read) (x y : Name) → has_read l x y ≡ true → (a : Read) × Mem a l × (a.source ≡ x) × (a.target ≡ y)
unfolding has_read
read_out [] x y e = true≠false e refl
read_out (a ∷ l) x y e =
    or_cases (same_bytes a.source x && same_bytes a.target y) (has_read l x y) e
    (λ h. (
      a,
      Memᴰ.head refl,
      same-eq a.source x (and_left (same_bytes a.source x) (same_bytes a.target y) h),
      same-eq a.target y (and_right (same_bytes a.source x) (same_bytes a.target y) h),
    ))
    (λ h. let r = read_out l x y h in (r.0, Memᴰ.tail r.1, r.2, r.3))

pub read_in : (x y : Name) {a : Read} {l : List Read} → Mem a l → a.source ≡ x → a.target ≡ y → has_read l x y ≡ true
unfolding has_read
read_in x y {a} (Memᴰ.head {x = b} {xs = l} e) p q =
    or_left (same_bytes b.source x && same_bytes b.target y) (has_read l x y)
    (and_both (→same (sym p ∙ ap (λ (z : Read). z.source) e)) (→same (sym q ∙ ap (λ (z : Read). z.target) e)))
read_in x y (Memᴰ.tail {x = b} {xs = l} m) p q =
    or_right (same_bytes b.source x && same_bytes b.target y) (has_read l x y) (read_in x y m p q)

-- so a longer list has all that a shorter one has
pub read-over : (x y : Name) (l₁ l₂ : List Read) → ((a : Read) → Mem a l₁ → Mem a l₂) → has_read l₁ x y ≡ true → has_read l₂ x y ≡ true
read-over x y l₁ l₂ f h = let r = read_out l₁ x y h in read_in x y (f r.0 r.1) r.2 r.3

pub grant-out : (l : List Grant) (x p y : Name) → has_grant l x p y ≡ true → (g : Grant) × Mem g l × (g.source ≡ x) × (g.pkg ≡ p) × (g.target ≡ y)
unfolding has_grant
grant-out [] x p y e = true≠false e refl
grant-out (g ∷ l) x p y e =
    or_cases (same_bytes g.source x && (same_bytes g.pkg p && same_bytes g.target y)) (has_grant l x p y) e
    (λ h. let k : same_bytes g.pkg p && same_bytes g.target y ≡ true = and_right (same_bytes g.source x) (same_bytes g.pkg p && same_bytes g.target y) h in (
      g,
      Memᴰ.head refl,
      same-eq g.source x (and_left (same_bytes g.source x) (same_bytes g.pkg p && same_bytes g.target y) h),
      same-eq g.pkg p (and_left (same_bytes g.pkg p) (same_bytes g.target y) k),
      same-eq g.target y (and_right (same_bytes g.pkg p) (same_bytes g.target y) k),
    ))
    (λ h. let r = grant-out l x p y h in (r.0, Memᴰ.tail r.1, r.2, r.3, r.4))

pub grant_in : (x p y : Name) {g : Grant} {l : List Grant} → Mem g l → g.source ≡ x → g.pkg ≡ p → g.target ≡ y → has_grant l x p y ≡ true
unfolding has_grant
grant_in x p y (Memᴰ.head {x = b} {xs = l} e) s q t =
    or_left (same_bytes b.source x && (same_bytes b.pkg p && same_bytes b.target y)) (has_grant l x p y)
    (and_both (→same (sym s ∙ ap (λ (z : Grant). z.source) e)) (and_both (→same (sym q ∙ ap (λ (z : Grant). z.pkg) e)) (→same (sym t ∙ ap (λ (z : Grant). z.target) e))))
grant_in x p y (Memᴰ.tail {x = b} {xs = l} m) s q t =
    or_right (same_bytes b.source x && (same_bytes b.pkg p && same_bytes b.target y)) (has_grant l x p y) (grant_in x p y m s q t)

pub grant-over : (x p y : Name) (l₁ l₂ : List Grant) → ((g : Grant) → Mem g l₁ → Mem g l₂) → has_grant l₁ x p y ≡ true → has_grant l₂ x p y ≡ true
grant-over x p y l₁ l₂ f h = let r = grant-out l₁ x p y h in grant_in x p y (f r.0 r.1) r.2 r.3 r.4
