-- The member of a name and its module, as code finds them by the table of a set, and the verdict by them.
use Rattle.std.specs.Prelude.{ℕ, Bool, ◌||◌, List}
use Rattle.std.proofs.Math.Option.{Option, none, some}
use Rattle.records.specs.Bytes.{same_bytes}
use Rattle.records.specs.Name.{all_unnamed}
use Rattle.records.specs.Descriptor.{Descriptor, descriptor_of}
use Rattle.records.specs.Request.{Request, has_grant}
use Rattle.records.specs.Set.{block_at}
use Rattle.records.specs.Finder.{find_module, pick_found}
use Rattle.records.specs.Finder.{Found}
use Rattle.resolution.specs.Lists.{Name}
use Rattle.resolution.specs.Configuration.{member_bit}
use Rattle.access.specs.Access.{grants_of, denied, pick_result, granted, unnamed_granted}
use Rattle.access.specs.declared.access.AccessCheckResult.{AccessCheckResult}
use Rattle.access.specs.declared.access.AccessCheckResult.TheVariants.{Allowed, NotReadable}
use Rattle.std.specs.Prelude.{Some, None}

-- what is found, if it is a member by the words c of a configuration
unfoldable pub among_members : List ℕ → Found → Found
among_members c (Some i) = pick_found (member_bit c i) (Some i) None
among_members c None = None

-- the member of this name
unfoldable pub member_in : List ℕ → List ℕ → Name → Found
unfolding among_members find_module
member_in s c n = among_members c (find_module s n)

-- the module of what is found, by the table t of the set s
unfoldable pub module_of : List ℕ → List ℕ → Found → Option Descriptor
module_of s t (Some i) = some (descriptor_of (block_at s t i))
module_of s t None = none

-- the verdict, where m is the target if it is resolved, and `readable` says whether a named asker can read it
unfoldable pub verdict_by : Bool → Request → Option Descriptor → Bool → Name → Name → Name → AccessCheckResult
unfolding unnamed_granted granted grants_of denied
verdict_by reflection rq m readable asker target p =
    pick_result (same_bytes asker target) Allowed
    (pick_result (same_bytes asker all_unnamed) (pick_result (unnamed_granted reflection rq target p m) Allowed (denied reflection))
    (pick_result readable (pick_result (has_grant (grants_of reflection rq) target p asker || granted reflection m p asker) Allowed (denied reflection)) NotReadable))
