-- A name finds in the places one after the other what the finder composed of theirs gives.
use mathlib.Core.Path.{◌≡◌, refl, sym, ap, ◌∙◌}
use mathlib.Core.Bool.{Bool, true, false, cond}
use mathlib.Core.Option.{some}
use Prim.Native.Nat.{ℕ}
use mathlib.Core.List.{List, [], ◌∷◌, ◌++◌, map, map-append, flatten}
use Rattle.records.specs.Bytes.{same_bytes}
use Rattle.records.specs.Descriptor.{Descriptor, descriptor_of}
use Rattle.records.specs.Places.{places}
use Rattle.records.specs.Set.{modules}
use Rattle.records.proofs.set.Places.{places-blocks}
use Rattle.resolution.specs.Lists.{Name, first}
use Rattle.resolution.specs.Composed.{composed, or_else}
use Rattle.resolution.specs.Resolution.{find}

find-append : (n : Name) (p q : List Descriptor) → find n (p ++ q) ≡ or_else (find n p) (find n q)
unfolding find first or_else
find-append n [] q = refl
find-append n (m ∷ p) q = turned (same_bytes m.name n) (find-append n p q)
  where
    turned : (b : Bool) → find n (p ++ q) ≡ or_else (find n p) (find n q) → cond b (some m) (find n (p ++ q)) ≡ or_else (cond b (some m) (find n p)) (find n q)
    turned true below = refl
    turned false below = below

pub find-composed : (n : Name) (places : List (List Descriptor)) → find n (flatten places) ≡ composed n places
unfolding composed flatten
find-composed n [] = unfold find first in refl
find-composed n (p ∷ ps) = find-append n p (flatten ps) ∙ ap (or_else (find n p)) (find-composed n ps)

-- ---- over bytes

map-flatten : {A B : Type 0} (f : A → B) (l : List (List A)) → map f (flatten l) ≡ flatten (map (map f) l)
unfolding flatten
map-flatten f [] = refl
map-flatten f (x ∷ l) = map-append f x (flatten l) ∙ ap (λ r. map f x ++ r) (map-flatten f l)

-- "The first place holding a name gives the module": lookup in a set is that of the finder composed of one for each of its places
pub find-places : (s : List ℕ) (n : Name) → find n (modules s) ≡ composed n (map (map descriptor_of) (places s))
unfolding modules
find-places s n =
    ap (λ (l : List (List ℕ)). find n (map descriptor_of l)) (sym (places-blocks s)) ∙ ap (find n) (map-flatten descriptor_of (places s)) ∙ find-composed n (map (map descriptor_of) (places s))
