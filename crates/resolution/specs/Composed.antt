-- Places one after the other, as one finder for each: "The first place holding a name gives the module".
use Rattle.std.proofs.Math.Option.{Option, none, some}
use Rattle.std.specs.Prelude.{List, [], ◌∷◌}
use Rattle.records.specs.Descriptor.{Descriptor}
use Rattle.resolution.specs.Lists.{Name}
use Rattle.resolution.specs.Resolution.{find}

-- what the first finder gives, and where it gives nothing, what the rest give
unfoldable pub or_else : Option Descriptor → Option Descriptor → Option Descriptor
or_else none rest = rest
or_else (some m) rest = some m

-- the finder composed of one for each place, as the Java API composes them: the first that has the name
unfoldable pub composed : Name → List (List Descriptor) → Option Descriptor
unfolding or_else find
composed n [] = none
composed n (p ∷ ps) = or_else (find n p) (composed n ps)
