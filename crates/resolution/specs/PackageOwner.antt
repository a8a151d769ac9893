-- The owner of a package in a configuration, told by its position in the set. Any words c of one: what they say of positions past the
-- modules of the set, and of hidden ones, plays no part.
use Rattle.std.specs.Prelude.{ℕ, zero, suc, Bool, true, false, ◌&&◌, List}
use Rattle.records.specs.Name.{mem_name}
use Rattle.records.specs.Descriptor.{Descriptor}
use Rattle.records.specs.Set.{modules, check_set, count_of}
use Rattle.records.specs.Set.{CountAnswer}
use Rattle.resolution.specs.Lists.{Name}
use Rattle.resolution.specs.Positions.{module_at}
use Rattle.resolution.specs.Observed.{has_member}
use Rattle.resolution.specs.Configuration.{with_words}
use Rattle.records.specs.declared.error.ModuleError.{ModuleError}
use Rattle.std.specs.Prelude.{Option, Result, Some, None, Ok, Err}

-- the owner's position, nothing where there is none, or why the set or the words are refused
abbrev pub Owner : Type 0
Owner = Result (Option ℕ) ModuleError

abbrev pub pick_owner : Bool → Owner → Owner → Owner
pick_owner true a b = a
pick_owner false a b = b

-- the module at k is a member, and has a PK of p
unfoldable pub owns_at : List Descriptor → List ℕ → Name → ℕ → Bool
unfolding has_member mem_name
owns_at s c p k = has_member s c k && mem_name p (module_at s k).packages

-- the lowest of the n positions from k on that passes
unfoldable pub lowest : (ℕ → Bool) → ℕ → ℕ → Owner
lowest q k zero = Ok None
lowest q k (suc n) = pick_owner (q k) (Ok (Some k)) (lowest q (suc k) n)

unfoldable pub owner_in : List ℕ → List ℕ → Name → CountAnswer → Owner
unfolding lowest owns_at
owner_in s c p (Err e) = Err e
owner_in s c p (Ok n) = lowest (owns_at (modules s) c p) 0 n

-- refusals 1 to 3 of the set first, then 4 for fewer than 4,616 words (U12)
unfoldable pub find_module_for_package : List ℕ → List ℕ → Name → Owner
unfolding owner_in with_words
find_module_for_package s c p = owner_in s c p (with_words c (count_of (check_set s)))
