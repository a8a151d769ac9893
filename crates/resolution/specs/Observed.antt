-- What the words c of a configuration say of the modules of a set: three tests, and every definition of an answer that is given a set reads a
-- configuration by these alone. Each is false where no observable module stands at a position: "Bits at positions without a
-- module are ignored", and a hidden module is none.
use Rattle.std.specs.Prelude.{ℕ, Bool, ◌&&◌, List}
use Rattle.records.specs.Descriptor.{Descriptor}
use Rattle.resolution.specs.Positions.{is_visible}
use Rattle.resolution.specs.Configuration.{member_bit, edge_bit, unnamed_bit}

-- the module at i is a member
unfoldable pub has_member : List Descriptor → List ℕ → ℕ → Bool
has_member s c i = is_visible s i && member_bit c i

-- there is an edge from the module at i to the module at j
unfoldable pub has_edge : List Descriptor → List ℕ → ℕ → ℕ → Bool
has_edge s c i j = is_visible s i && (is_visible s j && edge_bit c i j)

-- there is an edge from the module at i to ALL-UNNAMED
unfoldable pub has_unnamed_edge : List Descriptor → List ℕ → ℕ → Bool
has_unnamed_edge s c i = is_visible s i && unnamed_bit c i
