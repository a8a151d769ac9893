-- Owners of packages (document 01: "resolved, it owns the package of each PK").
use Rattle.std.specs.Prelude.{cond, List, [], ◌∷◌}
use Rattle.std.proofs.Math.Option.{Option, none, some}
use Rattle.records.specs.Bytes.{before_bytes}
use Rattle.records.specs.Name.{mem_name}
use Rattle.records.specs.Descriptor.{Descriptor}
use Rattle.resolution.specs.Lists.{Name, any, keep, first}

-- the module that owns the package: of the modules resolved, in the order of resolution, the first with a PK of it
unfoldable pub owner_in : List Descriptor → Name → Option Descriptor
unfolding first mem_name
owner_in ms p = first (λ o. mem_name p o.packages) ms

unfoldable pub named : Option Descriptor → Option Name
named none = none
named (some m) = some m.name

-- the owner of the package, told by its name
unfoldable pub owner : List Descriptor → Name → Option Name
unfolding named owner_in
owner ms p = named (owner_in ms p)

-- ---- "packages, in byte order, are tested for another owner"

-- the packages of m that a module resolved before has too
unfoldable pub shared : List Descriptor → Descriptor → List Name
unfolding keep any mem_name
shared ms m = keep (λ p. any (λ o. mem_name p o.packages) ms) m.packages

unfoldable pub lesser : Name → Option Name → Option Name
lesser x none = some x
lesser x (some y) = some (cond (before_bytes y x) y x)

-- the first of these names in byte order
unfoldable pub least : List Name → Option Name
unfolding lesser
least [] = none
least (x ∷ xs) = lesser x (least xs)
