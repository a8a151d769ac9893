-- Lookup of a module by its name: the first of that name, from the front.
use Rattle.std.specs.Prelude.{ℕ, suc, List, [], ◌∷◌, map, Bool, true, false, cond, eqb, Option, Some, None}
use Rattle.records.specs.Bytes.{same_bytes}
use Rattle.records.specs.Descriptor.{Descriptor, descriptor_of}
use Rattle.records.specs.Set.{blocks, modules}

-- a module's position in its set, if it has one
abbrev pub Found : Type 0
Found = Option ℕ

abbrev pub pick_found : Bool → Found → Found → Found
pick_found true a b = a
pick_found false a b = b

-- the position of the first of these names that is n, where the first of them has position i
unfoldable pub find_name : List (List ℕ) → List ℕ → ℕ → Found
find_name [] n i = None
find_name (m ∷ l) n i = pick_found (same_bytes m n) (Some i) (find_name l n (suc i))

-- the position of the module of this name in a set
unfoldable pub find_module : List ℕ → List ℕ → Found
find_module s n = find_name (map (λ (m : Descriptor). m.name) (modules s)) n 0

-- ---- what a set gives: of each name the first module. The others are hidden

-- what is found is position k
unfoldable pub is_at : Found → ℕ → Bool
is_at (Some i) k = eqb k i
is_at None k = false

-- the first of these names that is n has position k
unfoldable pub is_first : List (List ℕ) → List ℕ → ℕ → Bool
unfolding is_at
is_first l n k = is_at (find_name l n 0) k

-- of elements that have these names, those that their names find, where the first of them has position k
unfoldable pub found_from : {A : Type 0} → (A → List ℕ) → List (List ℕ) → ℕ → List A → List A
unfolding is_first
found_from f l k [] = []
found_from f l k (x ∷ xs) = cond (is_first l (f x) k) (x ∷ found_from f l (suc k) xs) (found_from f l (suc k) xs)

-- the blocks of the observable modules: "The first place holding a name gives the module"
unfoldable pub visible_blocks : List ℕ → List (List ℕ)
unfolding found_from
visible_blocks s = found_from (λ b. (descriptor_of b).name) (map (λ (m : Descriptor). m.name) (modules s)) 0 (blocks s)
