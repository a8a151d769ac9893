-- The graph of reads by positions and by names: in a set that the check takes they say the same.
use Prim.Native.Nat.{ℕ, zero, suc, ◌<◌}
use mathlib.Core.Path.{◌≡◌, refl, sym, ◌∙◌, subst}
use mathlib.Core.Bool.{true, false, or-false}
use mathlib.Core.List.{List, [], ◌∷◌, map}
use native.Mathlib.Omega.{arith}
use lib.ListN.{length, get_or, length-map, get_or-map}
use Rattle.records.specs.Bytes.{same_bytes}
use Rattle.records.specs.Name.{all_unnamed, mem_name}
use Rattle.records.specs.Descriptor.{Descriptor, descriptor_of}
use Rattle.records.specs.Set.{modules}
use Rattle.records.specs.Finder.{find_name, find_module, is_first}
use Rattle.records.specs.Finder.{Found}
use Rattle.records.proofs.bytes.Laws.{same-eq, same_refl}
use Rattle.records.proofs.finder.Modules.{is_at_lem, find-by-name}
use Rattle.records.proofs.set.Blocks.{GoodSet}
use Rattle.records.proofs.Logic.{by, true≠false, or_left, or_right}
use Rattle.resolution.specs.Lists.{Name}
use Rattle.resolution.specs.Positions.{module_at, is_visible}
use Rattle.resolution.specs.Observed.{has_member, has_edge}
use Rattle.resolution.proofs.Positions.{get_or-any, visible_in}
use Rattle.resolution.proofs.Sets.{set-length}
use Rattle.access.specs.Access.{passes, edge_to, is_reader, reads_name}
use Rattle.access.specs.ReadGraph.{reads_at, reads_unnamed_at}
use Rattle.std.specs.Prelude.{Some, None}

-- each of these names is among them
own_name : (l : List Name) (j : ℕ) → j < length l → mem_name (get_or l j []) l ≡ true
unfolding mem_name
own_name [] j h = absurd (omega arith)
own_name (x ∷ l) zero h = or_left (same_bytes x x) (mem_name x l) (same_refl x)
own_name (x ∷ l) (suc j) h = or_right (same_bytes x (get_or l j [])) (mem_name (get_or l j []) l) (own_name l j (omega arith))

module _ (s : List ℕ) (n : ℕ) (t : List ℕ) (g : GoodSet s n t) (c : List ℕ) where
  -- the name of the module at i
  abbrev name_of : ℕ → Name
  name_of i = get_or (map (λ (m : Descriptor). m.name) (modules s)) i []

  -- the module at i is not hidden
  abbrev Seen : ℕ → Type 0
  Seen i = is_visible (modules s) i ≡ true

  own-name-at : (i : ℕ) → Seen i → name_of i ≡ (module_at (modules s) i).name
  own-name-at i v = get_or-any (map (λ (m : Descriptor). m.name) (modules s)) i [] (descriptor_of []).name (omega (arith, visible_in (modules s) i v, length-map (modules s) (λ (m : Descriptor). m.name)))
      ∙ get_or-map (λ (m : Descriptor). m.name) (modules s) i (descriptor_of [])

  found-own : (i : ℕ) → Seen i → find_module s (name_of i) ≡ Some i
  unfolding find_module is_visible is_first
  found-own i v = rw (own-name-at i v) (is_at_lem (find_name (map (λ (m : Descriptor). m.name) (modules s)) (module_at (modules s) i).name 0) i v)

  -- a reader reads the name
  pub reader-is : (i : ℕ) → Seen i → (y : Name) → is_reader s c y i ≡ reads_name s c (name_of i) y
  unfolding reads_name passes
  reader-is i l y = sym (rw (found-own i l))

  -- a hidden module is no reader
  pub reader-hidden : (i : ℕ) → is_visible (modules s) i ≡ false → (y : Name) → is_reader s c y i ≡ false
  unfolding is_reader has_member
  reader-hidden i l y = rw l

  -- no module has the name ALL-UNNAMED
  no_module : (j : ℕ) → j < n → name_of j ≡ all_unnamed → ⊥
  no_module j l q =
      let names : List Name = map (λ (m : Descriptor). m.name) (modules s) in
      let b : j < length names = omega (arith, l, set-length s n t g, length-map (modules s) (λ (m : Descriptor). m.name)) in
      true≠false (subst (λ (x : Name). mem_name x names ≡ true) q (own_name names j b)) g.named

  other_name : (j : ℕ) → Seen j → same_bytes (name_of j) all_unnamed ≡ false
  other_name j l = by (same_bytes (name_of j) all_unnamed) (λ y. absurd (no_module j (omega (arith, visible_in (modules s) j l, set-length s n t g)) (same-eq (name_of j) all_unnamed y))) (λ y. y)

  not_found : (f : Found) → find_module s all_unnamed ≡ f → find_module s all_unnamed ≡ None
  not_found (Some j) e = let r = find-by-name s n t g all_unnamed j e in absurd (no_module j r.0 r.1)
  not_found None e = e

  -- an edge that counts is a read edge between the names
  pub reads-is : (i j : ℕ) → Seen i → Seen j → reads_at s c i j ≡ reads_name s c (name_of i) (name_of j)
  unfolding reads_at is_reader edge_to passes
  reads-is i j l m = sym (sym (reader-is i l (name_of j)) ∙ rw (found-own j m, other_name j m, or-false (has_edge (modules s) c i j)))

  -- and one to ALL-UNNAMED
  pub reads-unnamed-is : (i : ℕ) → Seen i → reads_unnamed_at s c i ≡ reads_name s c (name_of i) all_unnamed
  unfolding reads_unnamed_at is_reader edge_to passes
  reads-unnamed-is i l = sym (sym (reader-is i l all_unnamed) ∙ rw (not_found (find_module s all_unnamed) refl, same_refl all_unnamed))
