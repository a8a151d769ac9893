-- Lookup in a set that the check takes: by the table it is lookup among its modules; what is found has the name, and each
-- module that is not hidden is found by its own name.
use Prim.Native.Nat.{ℕ, suc, ◌+◌, ◌-◌, ◌≤◌, ◌<◌}
use mathlib.Core.Path.{◌≡◌, refl, sym, ◌∙◌, ap}
use mathlib.Core.List.{List, [], ◌∷◌, map}
use mathlib.Core.Bool.{Bool, true, false}
use native.Mathlib.Omega.{arith}
use lib.ListN.{length, get_or, take, length-map}
use borrow.Author.Tests.{eqb-true, eq-eqb}
use Rattle.records.specs.Bytes.{same_bytes}
use Rattle.records.specs.Name.{mem_name}
use Rattle.records.specs.Descriptor.{Descriptor, descriptor_of}
use Rattle.records.specs.Set.{name_at, blocks, modules}
use Rattle.records.specs.Finder.{find_name, pick_found, find_module, is_at, is_first}
use Rattle.records.specs.Finder.{Found}
use Rattle.records.proofs.Logic.{clash}
use Rattle.records.proofs.bytes.Laws.{same-eq}
use Rattle.records.proofs.finder.Laws.{found-not}
use Rattle.records.proofs.set.Blocks.{GoodSet}
use Rattle.std.specs.Prelude.{Some, None}

-- the position of a name that is found among names, the first of which has position i
pub record FoundAt (l : List (List ℕ)) (n : List ℕ) (i j : ℕ) : Type 0 where
  pub from : i ≤ j
  pub within : j < i + length l
  pub is : get_or l (j - i) [] ≡ n

pub found_at : (l : List (List ℕ)) (n : List ℕ) (i j : ℕ) → find_name l n i ≡ Some j → FoundAt l n i j
unfolding find_name
found_at [] n i j e = clash (cc)
found_at (m ∷ l) n i j e = go (same_bytes m n) refl (found_at l n (suc i) j) e
  where
    later : FoundAt l n (suc i) j → FoundAt (m ∷ l) n i j
    later f =
        let q : j - i ≡ suc (j - suc i) = omega (arith, f.from) in
        record { from = omega (arith, f.from); within = omega (arith, f.within); is = rw q f.is }

    go : (b : Bool) → same_bytes m n ≡ b → (find_name l n (suc i) ≡ Some j → FoundAt l n (suc i) j) → pick_found b (Some i) (find_name l n (suc i)) ≡ Some j → FoundAt (m ∷ l) n i j
    go true eb ih h =
        let q : i ≡ j = cc in
        let z : j - i ≡ 0 = omega arith in
        record { from = omega arith; within = omega arith; is = rw z (same-eq m n eb) }
    go false eb ih h = later (ih h)

-- a position that is found
pub is_at_lem : (f : Found) (i : ℕ) → is_at f i ≡ true → f ≡ Some i
unfolding is_at
is_at_lem (Some j) i e = ap Some (sym (eqb-true i j e))
is_at_lem None i e = clash (cc)

pub at-is : (f : Found) (i : ℕ) → f ≡ Some i → is_at f i ≡ true
unfolding is_at
at-is f i e = rw (e, eq-eqb i i refl)

-- ---- in a set that the check takes

module _ (s : List ℕ) (n : ℕ) (t : List ℕ) (g : GoodSet s n t) where
  -- lookup by the table is lookup among the modules
  pub find-is : (name : List ℕ) → find_name (map (name_at s) (take n t)) name 0 ≡ find_module s name
  unfolding find_module
  find-is name = ap (λ (l : List (List ℕ)). find_name l name 0) g.names

  counted : length (map (λ (m : Descriptor). m.name) (modules s)) ≡ n
  unfolding modules
  counted = length-map (map descriptor_of (blocks s)) (λ (m : Descriptor). m.name) ∙ length-map (blocks s) descriptor_of ∙ sym g.count

  -- what is found is a module's position, and that module has the name
  pub find-by-name : (name : List ℕ) (i : ℕ) → find_module s name ≡ Some i → (i < n) × (get_or (map (λ (m : Descriptor). m.name) (modules s)) i [] ≡ name)
  unfolding find_module
  find-by-name name i e =
      let f : FoundAt (map (λ (m : Descriptor). m.name) (modules s)) name 0 i = found_at (map (λ (m : Descriptor). m.name) (modules s)) name 0 i e in
      let z : i - 0 ≡ i = omega arith in
      (omega (arith, f.within, counted), rw z at f.is)

  -- each module that is not hidden is found by its own name
  pub find-by-position : (i : ℕ) → is_first (map (λ (m : Descriptor). m.name) (modules s)) (get_or (map (λ (m : Descriptor). m.name) (modules s)) i []) i ≡ true
      → find_module s (get_or (map (λ (m : Descriptor). m.name) (modules s)) i []) ≡ Some i
  unfolding find_module is_first
  find-by-position i e = is_at_lem (find_module s (get_or (map (λ (m : Descriptor). m.name) (modules s)) i [])) i e

  -- a name that is not found is no module's
  pub find-nothing : (name : List ℕ) → find_module s name ≡ None → mem_name name (map (λ (m : Descriptor). m.name) (modules s)) ≡ false
  unfolding find_module
  find-nothing name e = found-not (map (λ (m : Descriptor). m.name) (modules s)) name 0 e
