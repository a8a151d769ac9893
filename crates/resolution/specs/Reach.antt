-- The names that steps between names reach: all new ones are added until there is none.
use Rattle.std.specs.Prelude.{suc, not, length}
use mathlib.Core.List.{List, [], ◌∷◌, ◌++◌, flat_map}
use Rattle.records.specs.Name.{mem_name}
use Rattle.resolution.specs.Lists.{Name, keep}
use Rattle.resolution.specs.Loop.{Step, stop, go, Result, failed, done, loop}

-- what one step leads to from these names, and is not among them
unfoldable pub spread : (Name → List Name) → List Name → List Name
unfolding flat_map keep mem_name
spread onward l = keep (λ n. not (mem_name n l)) (flat_map onward l)

unfoldable pub widened : List Name → List Name → Step (List Name) (Unit {0})
widened l [] = stop
widened l (x ∷ xs) = go ((x ∷ xs) ++ l)

unfoldable pub widen : (Name → List Name) → List Name → Step (List Name) (Unit {0})
unfolding widened spread
widen onward l = widened l (spread onward l)

unfoldable pub ended : Result (List Name) (Unit {0}) → List Name
ended (failed a) = []
ended (done l) = l

-- the names of `start` and whatever steps reach from them; `all` holds every name that a step can lead to, so that as many
-- turns are enough
unfoldable pub closure : (Name → List Name) → List Name → List Name → List Name
unfolding ended loop widen
closure onward all start = ended (loop (widen onward) tt (suc (length all)) start)
