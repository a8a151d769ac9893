-- Positions in the set.
use Rattle.std.specs.Prelude.{ℕ, Bool, List, [], map, get_or}
use Rattle.records.specs.Descriptor.{Descriptor, descriptor_of}
use Rattle.records.specs.Finder.{is_first}

-- the module at position i; past the end, what the empty block says
abbrev pub module_at : List Descriptor → ℕ → Descriptor
module_at s i = get_or s i (descriptor_of [])

-- the name of the module at k finds it, and none before it: it is observable. Any other is hidden
unfoldable pub is_visible : List Descriptor → ℕ → Bool
is_visible s k = is_first (map (λ (m : Descriptor). m.name) s) (module_at s k).name k
