-- The cases of places that hide one another, by computation.
use Prim.Native.Nat.{ℕ}
use mathlib.Core.Path.{◌≡◌, refl, subst, sym}
use mathlib.Core.List.Memᴰ
use mathlib.Core.List.{List, [], ◌∷◌}
use Rattle.records.specs.Set.{enter_at, places_at, blocks}
use Rattle.resolution.specs.Cases.{root_a}
use Rattle.resolution.specs.Lists.{Name, Mem}
use Rattle.resolution.specs.PackageOwner.{owns_at, lowest, owner_in, find_module_for_package}
use Rattle.resolution.specs.PackageOwner.{Owner}
use Rattle.access.specs.ReadGraph.{readers_answered, readers_of}
use Rattle.access.specs.PlaceCases.{q, hidden_set, hidden_request, service_set, bound_set, shared_set, own_set, front_set, hidden_alone, PlaceCases}
use Rattle.access.proofs.Cases.{ask}

-- one line opens all: resolution and questions, and what a set with PL, its owners and its graph need beside
own : List ℕ → List ℕ → Name → Owner
unfolding ask enter_at places_at owns_at lowest owner_in find_module_for_package readers_answered readers_of q hidden_set hidden_request service_set bound_set shared_set own_set front_set hidden_alone root_a
own s c p = find_module_for_package s c p

-- front_set has one block more
own_blocks : List (List ℕ)
own_blocks = (77 ∷ 79 ∷ 0 ∷ 14 ∷ 0 ∷ 0 ∷ 0 ∷ 9 ∷ 106 ∷ 97 ∷ 118 ∷ 97 ∷ 46 ∷ 98 ∷ 97 ∷ 115 ∷ 101 ∷ 0 ∷ []) ∷ (77 ∷ 79 ∷ 0 ∷ 6 ∷ 0 ∷ 0 ∷ 0 ∷ 1 ∷ 97 ∷ 0 ∷ 82 ∷ 81 ∷ 0 ∷ 5 ∷ 0 ∷ 0 ∷ 1 ∷ 98 ∷ 0 ∷ []) ∷ (77 ∷ 79 ∷ 0 ∷ 6 ∷ 0 ∷ 0 ∷ 0 ∷ 1 ∷ 98 ∷ 0 ∷ []) ∷ []

own_is : blocks own_set ≡ own_blocks
unfolding own own_blocks
own_is = refl

front-is : blocks front_set ≡ (77 ∷ 79 ∷ 0 ∷ 6 ∷ 0 ∷ 0 ∷ 0 ∷ 1 ∷ 97 ∷ 0 ∷ []) ∷ own_blocks
unfolding own own_blocks
front-is = refl

front-blocks : (x : List ℕ) → Mem x (blocks own_set) → Mem x (blocks front_set)
front-blocks x h = subst (λ (l : List (List ℕ)). Mem x l) (sym front-is) (Memᴰ.tail (subst (λ (l : List (List ℕ)). Mem x l) own_is h))

pub place-cases : PlaceCases
unfolding own
place-cases = record {
  between = refl;
  between_members = refl;
  between_rows = refl;
  seen_owner = refl;
  hidden_owner = refl;
  hidden_export = refl;
  alone_owner = refl;
  alone_readers = refl;
  alone_unnamed = refl;
  service_hidden = refl;
  service_bound = refl;
  package_hidden = refl;
  blocks_kept = front-blocks;
  own = refl;
  front = refl;
  own_member = refl;
  front_lost = refl;
}
