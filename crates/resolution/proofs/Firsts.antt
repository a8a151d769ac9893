-- The observable modules of a set are those whose name no module before them has; so the observable ones of these are all of them.
use mathlib.Core.Path.{◌≡◌, refl, sym, ap, ◌∙◌, subst}
use Prim.Native.Nat.{ℕ, suc, ◌<◌}
use native.Mathlib.Omega.{arith}
use mathlib.Core.Bool.{Bool, true, false, cond}
use mathlib.Core.List.{List, [], ◌∷◌}
use borrow.Author.Tests.{ne_eqb}
use Rattle.records.specs.Bytes.{same_bytes}
use Rattle.records.specs.Name.{mem_name}
use Rattle.records.specs.Descriptor.{Descriptor}
use Rattle.records.specs.Finder.{find_name, pick_found, is_at, is_first, found_from}
use Rattle.records.specs.Finder.{Found}
use Rattle.records.proofs.finder.Modules.{at-is}
use Rattle.records.proofs.Logic.{by, true≠false, neither_left, neither_right}
use Rattle.resolution.specs.Lists.{Name}
use Rattle.resolution.specs.Resolution.{names, observable}
use Rattle.resolution.proofs.Enqueue.{met-cases, met-new, met-old}
use Rattle.resolution.proofs.Lists.{→same}
use Rattle.std.specs.Prelude.{Some}

-- those whose name is not among these and that no module before them has
unfoldable pub firsts : List Name → List Descriptor → List Descriptor
firsts before [] = []
firsts before (m ∷ ms) = cond (mem_name m.name before) (firsts (m.name ∷ before) ms) (m ∷ firsts (m.name ∷ before) ms)

-- ---- they are the observable ones

-- of the names l, those before position k are these, and those from k on are the names of ds
record Split (l : List Name) (before : List Name) (k : ℕ) (ds : List Descriptor) : Type 0 where
  old : (n : Name) → mem_name n before ≡ true → (i : ℕ) × (find_name l n 0 ≡ Some i) × (i < k)
  new : (n : Name) → mem_name n before ≡ false → find_name l n 0 ≡ find_name (names ds) n k

module _ (l : List Name) (before : List Name) (k : ℕ) (m : Descriptor) (ds : List Descriptor) (w : Split l before k (m ∷ ds)) where
  -- the module at k
  here : (n : Name) → n ≡ m.name → mem_name n before ≡ false → find_name l n 0 ≡ Some k
  here n c f = w.new n f ∙ unfold find_name in ap (λ (b : Bool). pick_found b (Some k) (find_name (names ds) n (suc k))) (→same c)

  is-new : mem_name m.name before ≡ false → is_first l m.name k ≡ true
  unfolding is_first
  is-new f = at-is (find_name l m.name 0) k (here m.name refl f)

  is-old : mem_name m.name before ≡ true → is_first l m.name k ≡ false
  unfolding is_first is_at
  is-old h = let r = w.old m.name h in ap (λ (f : Found). is_at f k) r.1 ∙ ne_eqb k r.0 (λ q. absurd (omega (arith, q, r.2)))

  onward : Split l (m.name ∷ before) (suc k) ds
  onward = record {
    old = λ n h. by (mem_name n before)
        (λ y. let r = w.old n y in (r.0, r.1, omega (arith, r.2)))
        (λ y. met-cases n m.name before h (λ c. (k, here n c y, omega arith)) (λ z. true≠false z y));
    new = λ n h. unfold mem_name in later n (neither_left (same_bytes m.name n) (mem_name n before) h) (neither_right (same_bytes m.name n) (mem_name n before) h);
  }
    where
      later : (n : Name) → same_bytes m.name n ≡ false → mem_name n before ≡ false → find_name l n 0 ≡ find_name (names ds) n (suc k)
      later n e f = w.new n f ∙ unfold find_name in ap (λ (b : Bool). pick_found b (Some k) (find_name (names ds) n (suc k))) e

found-firsts : (l : List Name) (before : List Name) (k : ℕ) (ds : List Descriptor) → Split l before k ds
    → found_from (λ (x : Descriptor). x.name) l k ds ≡ firsts before ds
unfolding found_from firsts
found-firsts l before k [] w = refl
found-firsts l before k (m ∷ ds) w = turned (mem_name m.name before) refl (found-firsts l (m.name ∷ before) (suc k) ds (onward l before k m ds w))
  where
    turned : (b : Bool) → mem_name m.name before ≡ b
        → found_from (λ (x : Descriptor). x.name) l (suc k) ds ≡ firsts (m.name ∷ before) ds
        → cond (is_first l m.name k) (m ∷ found_from (λ (x : Descriptor). x.name) l (suc k) ds) (found_from (λ (x : Descriptor). x.name) l (suc k) ds)
        ≡ cond b (firsts (m.name ∷ before) ds) (m ∷ firsts (m.name ∷ before) ds)
    turned true e below = rw (is-old l before k m ds w e) below
    turned false e below = rw (is-new l before k m ds w e) (ap (λ (r : List Descriptor). m ∷ r) below)

pub observable-firsts : (s : List Descriptor) → observable s ≡ firsts [] s
unfolding observable
observable-firsts s = found-firsts (names s) [] 0 s (record { old = λ n h. unfold mem_name in true≠false h refl; new = λ n h. refl })

-- ---- and so of themselves

firsts-twice : (before more : List Name) → ((n : Name) → mem_name n before ≡ true → mem_name n more ≡ true) → (s : List Descriptor)
    → firsts before (firsts more s) ≡ firsts more s
unfolding firsts
firsts-twice before more f [] = refl
firsts-twice before more f (m ∷ ms) =
    turned (mem_name m.name more) refl
    (firsts-twice before (m.name ∷ more) (λ n h. met-old n m.name more (f n h)) ms)
    (firsts-twice (m.name ∷ before) (m.name ∷ more)
    (λ n h. met-cases n m.name before h (λ c. subst (λ (z : Name). mem_name z (m.name ∷ more) ≡ true) (sym c) (met-new m.name more)) (λ z. met-old n m.name more (f n z))) ms)
  where
    rest : List Descriptor
    rest = firsts (m.name ∷ more) ms

    turned : (b : Bool) → mem_name m.name more ≡ b → firsts before rest ≡ rest → firsts (m.name ∷ before) rest ≡ rest
        → firsts before (cond b rest (m ∷ rest)) ≡ cond b rest (m ∷ rest)
    turned true e p q = p
    turned false e p q =
        let new : mem_name m.name before ≡ false = by (mem_name m.name before) (λ h. true≠false (f m.name h) e) (λ h. h) in
        rw new (ap (λ (r : List Descriptor). m ∷ r) q)

pub observable-twice : (s : List Descriptor) → observable (observable s) ≡ observable s
observable-twice s =
    observable-firsts (observable s) ∙ ap (firsts []) (observable-firsts s) ∙ firsts-twice [] [] (λ n h. h) s ∙ sym (observable-firsts s)
