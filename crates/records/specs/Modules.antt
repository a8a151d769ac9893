-- What a table of modules that is looked in tells.
use Rattle.std.specs.Prelude.{ℕ, List, map, take}
use Rattle.records.specs.Set.{name_at}
use Rattle.records.specs.declared.sorted.Modules.{Modules}

-- the names of the modules, in order
abbrev pub names_in : Modules → List (List ℕ)
names_in modules = map (name_at modules.set.now) (take modules.count modules.starts.now)
