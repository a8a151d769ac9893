-- The observable modules of a set: those that their names find.
use mathlib.Core.Path.{◌≡◌, refl, sym, ap, ◌∙◌, subst}
use Prim.Native.Nat.{ℕ, zero, suc, ◌+◌, ◌<◌}
use native.Mathlib.Omega.{arith}
use mathlib.Core.Bool.{Bool, true, false, cond}
use mathlib.Core.Option.{Option, none, some}
use mathlib.Core.List.Memᴰ
use mathlib.Core.List.{List, [], ◌∷◌}
use mathlib.Core.Logic.{⊎_elim}
use lib.ListN.{length}
use Rattle.records.specs.Descriptor.{Descriptor}
use Rattle.records.specs.Finder.{is_first, found_from}
use Rattle.records.proofs.Logic.{clash, true≠false}
use Rattle.resolution.specs.Lists.{Mem, Name}
use Rattle.resolution.specs.Positions.{module_at, is_visible}
use Rattle.resolution.specs.Resolution.{find, index_of, names, observable}
use Rattle.resolution.proofs.Find.{find-mem, find_in, has-find}
use Rattle.resolution.proofs.Positions.{find_at, index-visible, index_in, visible-found}

-- those that pass among the elements of S from position k on stand at visible positions
found-out : (s ds : List Descriptor) (k : ℕ) → ((d : ℕ) → d < length ds → module_at ds d ≡ module_at s (k + d)) → (m : Descriptor) → Mem m (found_from (λ (x : Descriptor). x.name) (names s) k ds)
    → (i : ℕ) × (is_visible s i ≡ true) × (m ≡ module_at s i)
unfolding found_from is_visible
found-out s [] k is m h = absurd (Memᴰ.not-nil h)
found-out s (d ∷ ds) k is m h = turned (is_first (names s) d.name k) refl (found-out s ds (suc k) later m) h
  where
    here : d ≡ module_at s k
    here = is 0 (omega arith) ∙ ap (module_at s) (omega arith)

    later : (e : ℕ) → e < length ds → module_at ds e ≡ module_at s (suc k + e)
    later e l = is (suc e) (omega (arith, l)) ∙ ap (module_at s) (omega arith)

    turned : (b : Bool) → is_first (names s) d.name k ≡ b → (Mem m (found_from (λ (x : Descriptor). x.name) (names s) (suc k) ds) → (i : ℕ) × (is_visible s i ≡ true) × (m ≡ module_at s i))
        → Mem m (cond b (d ∷ found_from (λ (x : Descriptor). x.name) (names s) (suc k) ds) (found_from (λ (x : Descriptor). x.name) (names s) (suc k) ds))
        → (i : ℕ) × (is_visible s i ≡ true) × (m ≡ module_at s i)
    turned false e below x = below x
    turned true e below x = ⊎_elim (λ (q : m ≡ d). (k, subst (λ (z : Descriptor). is_first (names s) z.name k ≡ true) here e, q ∙ here)) (λ q. below q) (Memᴰ.cases_cons x)

-- an observable module is the one that its name finds
pub observable-found : (s : List Descriptor) (m : Descriptor) → Mem m (observable s) → find m.name s ≡ some m
unfolding observable
observable-found s m h =
    let r = found-out s s 0 (λ d l. ap (module_at s) (omega arith)) m h in
    subst (λ (x : Descriptor). find x.name s ≡ some x) (sym r.2) (visible-found s r.0 r.1)

pub observable-mem : (s : List Descriptor) (m : Descriptor) → Mem m (observable s) → Mem m s
observable-mem s m h = (find-mem m.name s m (observable-found s m h)).0

-- and each that a name finds is observable
found_in_lem : (s ds : List Descriptor) (k : ℕ) → ((d : ℕ) → d < length ds → module_at ds d ≡ module_at s (k + d)) → (d : ℕ) → d < length ds → is_visible s (k + d) ≡ true
    → Mem (module_at ds d) (found_from (λ (x : Descriptor). x.name) (names s) k ds)
unfolding found_from is_visible
found_in_lem s [] k is d l v = absurd (omega arith)
found_in_lem s (x ∷ ds) k is d l v = turned d l v (is_first (names s) x.name k) refl (λ e h w. found_in_lem s ds (suc k) later e h w)
  where
    later : (e : ℕ) → e < length ds → module_at ds e ≡ module_at s (suc k + e)
    later e h = is (suc e) (omega (arith, h)) ∙ ap (module_at s) (omega arith)

    rest : List Descriptor
    rest = found_from (λ (y : Descriptor). y.name) (names s) (suc k) ds

    Below : Type 0
    Below = (e : ℕ) → e < length ds → is_visible s (suc k + e) ≡ true → Mem (module_at ds e) rest

    more : (e : ℕ) (a : Bool) → Mem (module_at ds e) rest → Mem (module_at ds e) (cond a (x ∷ rest) rest)
    more e true r = Memᴰ.tail r
    more e false r = r

    turned : (e : ℕ) → e < suc (length ds) → is_visible s (k + e) ≡ true → (b : Bool) → is_first (names s) x.name k ≡ b → Below → Mem (module_at (x ∷ ds) e) (cond b (x ∷ rest) rest)
    turned zero h w true c below = Memᴰ.head refl
    turned zero h w false c below =
        let z : k + 0 ≡ k = omega arith in
        let q : module_at s k ≡ x = sym (is 0 (omega arith) ∙ ap (module_at s) z) in
        true≠false (subst (λ (y : Descriptor). is_first (names s) y.name k ≡ true) q (subst (λ (i : ℕ). is_visible s i ≡ true) z w)) c
    turned (suc e) h w b c below =
        let z : k + suc e ≡ suc k + e = omega arith in
        more e b (below e (omega (arith, h)) (subst (λ (i : ℕ). is_visible s i ≡ true) z w))

pub found-observable : (s : List Descriptor) (n : Name) (m : Descriptor) → find n s ≡ some m → Mem m (observable s)
unfolding observable
found-observable s n m e =
    let h = has-find n s m e in
    let w : some (module_at s (index_of n s)) ≡ some m = sym (find_at n s h) ∙ e in
    let q : m ≡ module_at s (index_of n s) = cc in
    Memᴰ.cast q (found_in_lem s s 0 (λ d l. ap (module_at s) (omega arith)) (index_of n s) (index_in n s h) (subst (λ (i : ℕ). is_visible s i ≡ true) (omega arith) (index-visible n s h)))

-- ---- the observable modules by name

-- a name finds among them what it finds among all
pub find-observable : (s : List Descriptor) (n : Name) → find n (observable s) ≡ find n s
find-observable s n = turned (find n (observable s)) refl
  where
    back : (o : Option Descriptor) → find n (observable s) ≡ none → find n s ≡ o → none ≡ o
    back none e f = refl
    back (some m) e f = let r = find_in n (observable s) m (found-observable s n m f) (find-mem n s m f).1 in clash (cc)

    turned : (o : Option Descriptor) → find n (observable s) ≡ o → o ≡ find n s
    turned none e = back (find n s) e refl
    turned (some k) e =
        let r = find-mem n (observable s) k e in
        sym (subst (λ (z : Name). find z s ≡ some k) r.1 (observable-found s k r.0))

-- where none is hidden, as in a set of one place, they are all
found_all : (s ds : List Descriptor) (k : ℕ) → ((d : ℕ) → d < length ds → module_at ds d ≡ module_at s (k + d)) → ((d : ℕ) → d < length ds → is_visible s (k + d) ≡ true)
    → found_from (λ (x : Descriptor). x.name) (names s) k ds ≡ ds
unfolding found_from is_visible
found_all s [] k is v = refl
found_all s (x ∷ ds) k is v = rw (here, found_all s ds (suc k) later seen)
  where
    z : k + 0 ≡ k
    z = omega arith

    here : is_first (names s) x.name k ≡ true
    here = subst (λ (y : Descriptor). is_first (names s) y.name k ≡ true) (sym (is 0 (omega arith) ∙ ap (module_at s) z)) (subst (λ (i : ℕ). is_visible s i ≡ true) z (v 0 (omega arith)))

    later : (e : ℕ) → e < length ds → module_at ds e ≡ module_at s (suc k + e)
    later e h = is (suc e) (omega (arith, h)) ∙ ap (module_at s) (omega arith)

    seen : (e : ℕ) → e < length ds → is_visible s (suc k + e) ≡ true
    seen e h = subst (λ (i : ℕ). is_visible s i ≡ true) (omega arith) (v (suc e) (omega (arith, h)))

pub observable-all : (s : List Descriptor) → ((i : ℕ) → i < length s → is_visible s i ≡ true) → observable s ≡ s
unfolding observable
observable-all s v = found_all s s 0 (λ d l. ap (module_at s) (omega arith)) (λ d l. subst (λ (i : ℕ). is_visible s i ≡ true) (omega arith) (v d l))
