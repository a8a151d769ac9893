-- What the records of a set before one are.
use Rattle.std.specs.Prelude.{ℕ, List, map, take}
use Rattle.records.specs.Set.{Passed, name_at, passed_of}
use Rattle.records.specs.declared.set.Before.{Before}

-- the names of the modules so far, in order
abbrev pub names_in : Before → List (List ℕ)
names_in before = map (name_at before.set.now) (take before.seen.count before.starts.now)

abbrev pub passed_in : Before → Passed
passed_in before = passed_of before.starts.now before.seen
