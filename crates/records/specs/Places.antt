-- The places of a set, each begun by a PL; the records before the first PL, if any, form the first (document 02, U2).
use Rattle.std.specs.Prelude.{ℕ, List, [], ◌∷◌, map, Bool, true, false, cond, ◌&&◌, ◌||◌, not}
use Rattle.records.specs.Name.{mem_name}
use Rattle.records.specs.Record.{records, is_of}
use Rattle.records.specs.Descriptor.{descriptor_of}
use Rattle.records.specs.Set.{blocks_of}
use Rattle.records.specs.declared.record.Kind.TheVariants.{Place}

-- a PL is among these records
unfoldable pub has_place : List (List ℕ) → Bool
has_place [] = false
has_place (r ∷ rs) = is_of Place r || has_place rs

-- the records up to the next PL
unfoldable pub up_to_place : List (List ℕ) → List (List ℕ)
up_to_place [] = []
up_to_place (r ∷ rs) = cond (is_of Place r) [] (r ∷ up_to_place rs)

-- the records behind each PL, up to the next
unfoldable pub behind_places : List (List ℕ) → List (List (List ℕ))
behind_places [] = []
behind_places (r ∷ rs) = cond (is_of Place r) (up_to_place rs ∷ behind_places rs) (behind_places rs)

-- the records of each place: those before the first PL, if there are any, and those behind each PL
unfoldable pub places_of : List (List ℕ) → List (List (List ℕ))
places_of [] = []
places_of (r ∷ rs) = cond (is_of Place r) (behind_places (r ∷ rs)) (up_to_place (r ∷ rs) ∷ behind_places (r ∷ rs))

-- the blocks of each place of a set
unfoldable pub places : List ℕ → List (List (List ℕ))
places s = map blocks_of (places_of (records s))

-- the names of the modules of these blocks
abbrev pub names_in : List (List ℕ) → List (List ℕ)
names_in bs = map (λ (b : List ℕ). (descriptor_of b).name) bs

-- no name stands twice
unfoldable pub distinct : List (List ℕ) → Bool
distinct [] = true
distinct (n ∷ l) = not (mem_name n l) && distinct l
