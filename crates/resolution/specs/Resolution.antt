-- Resolution (document 01, "Resolution"): the queue, the rounds, the refusals 5 to 7 as met. `resolve` at the end is the whole.
-- Everywhere below, s is the set and rq the request; ms are the modules resolved so far, met the names met so far, q what is left
-- of the queue, e the name taken from it; in_round says that a round is being made, and not the queue of the roots. A test stands
-- as a value that the next function matches.
use Rattle.std.specs.Prelude.{ℕ, suc, Bool, true, false, not, ◌&&◌, ◌||◌, cond, length}
use Rattle.std.proofs.Math.Option.{Option, none, some}
use mathlib.Core.List.{List, [], ◌∷◌, ◌++◌, map, flat_map}
use Rattle.records.specs.Bytes.{same_bytes}
use Rattle.records.specs.Name.{java_base, mem_name}
use Rattle.records.specs.Descriptor.{Requirement, Descriptor}
use Rattle.records.specs.Request.{Request, is_permitted}
use Rattle.records.specs.Finder.{found_from}
use Rattle.resolution.specs.Lists.{Name, any, keep, first}
use Rattle.resolution.specs.Loop.{Step, stop, fail, go, Result, failed, done, loop}
use Rattle.resolution.specs.Owner.{owner_in, shared, least}

-- ---- modules by their names

-- the names of these modules
abbrev pub names : List Descriptor → List Name
names s = map (λ (m : Descriptor). m.name) s

-- the first of these modules with this name
unfoldable pub find : Name → List Descriptor → Option Descriptor
unfolding first
find n s = first (λ m. same_bytes m.name n) s

-- a module of this name is among these: among those of the set, the name is observable; among those resolved, it is a member
unfoldable pub has_module : List Descriptor → Name → Bool
unfolding any
has_module s n = any (λ m. same_bytes m.name n) s

-- its position, where it is among them
unfoldable pub index_of : Name → List Descriptor → ℕ
index_of n [] = 0
index_of n (m ∷ ms) = cond (same_bytes m.name n) 0 (suc (index_of n ms))

-- of the modules of a set, those that their names find, in set order: "The first place holding a name gives the module, and later
-- ones of that name are not observable, nor are their services"
unfoldable pub observable : List Descriptor → List Descriptor
unfolding found_from
observable s = found_from (λ m. m.name) (names s) 0 s

-- ---- refusals, and the state

-- the record that queued a name ("the record that first queued it or, in a round, the requirement at fault"): none for
-- java.base in front, root i of the request, requirement j of the module at position p, module i of a round's providers
pub data QueuedBy : Type 0 where
  base : QueuedBy
  root : ℕ → QueuedBy
  required : ℕ → ℕ → QueuedBy
  provider : ℕ → QueuedBy

pub data Refusal : Type 0 where
  -- 5: the name, and the record that it is a part of
  module_not_found : Name → QueuedBy → Refusal
  -- 6
  java_base_not_found : Refusal
  -- 7: the package, its owner, the second module
  split_package : Name → Name → Name → Refusal
  -- the fuel of a loop is used up: proofs/Fuel shows that this never occurs
  ran_out : Refusal

-- a name in the queue, and the record that queued it
pub record Item : Type 0 where
  pub name : Name
  pub by : QueuedBy

-- the modules resolved, in order; the names met ("A name is met once it has been queued, skipped later or not, and in no other
-- way"); the queue
pub record State : Type 0 where
  pub resolved : List Descriptor
  pub met : List Name
  pub queue : List Item

-- ---- queueing the names of a row of requirements

-- the requirement leads to its module: it is not static, or the request has ST. "By default such a requirement now brings nothing
-- in" (U6), observable or not
unfoldable pub leads : Request → Requirement → Bool
leads rq r = not r.static || rq.has_static

-- a requirement is passed over, queued, or refused
pub data Choice : Type 0 where
  pass add refuse : Choice

-- one that does not lead is passed over. Of the others "each requirement not met before is queued; a static one only if
-- observable". In a round "a non-static requirement that is absent and not met before refuses as its requirer is handled, permitted
-- or not".
-- Leads? In a round? Met before? Observable? Static?
unfoldable pub choose : Bool → Bool → Bool → Bool → Bool → Choice
choose leads in_round true observable static = pass
choose false in_round false observable static = pass
choose true in_round false true static = add
choose true in_round false false true = pass
choose true true false false false = refuse
choose true false false false false = add

-- the name at fault and its record; or the names met and the queue
pub data Enqueued : Type 0 where
  missing : Name → QueuedBy → Enqueued
  enqueued : List Name → List Item → Enqueued

-- a name that is queued is met, and stands at the queue's end
unfoldable pub enqueue_next : Choice → Name → QueuedBy → List Name → List Item → (List Name → List Item → Enqueued) → Enqueued
enqueue_next pass n p met q k = k met q
enqueue_next add n p met q k = k (n ∷ met) (q ++ (record { name = n; by = p } ∷ []))
enqueue_next refuse n p met q k = missing n p

-- the requirements in order, from number j on
unfoldable pub enqueue : Bool → List Descriptor → Request → (ℕ → QueuedBy) → List Requirement → ℕ → List Name → List Item → Enqueued
unfolding enqueue_next choose leads has_module mem_name
enqueue in_round s rq by_of [] j met q = enqueued met q
enqueue in_round s rq by_of (r ∷ rs) j met q =
    enqueue_next (choose (leads rq r) in_round (mem_name r.name met) (has_module s r.name) r.static) r.name (by_of j) met q
    (λ met₂ q₂. enqueue in_round s rq by_of rs (suc j) met₂ q₂)

-- ---- one turn of the queue

-- the module is resolved, and its requirements are queued
unfoldable pub handled : List Descriptor → Enqueued → Step State Refusal
handled ms (missing n p) = fail (module_not_found n p)
handled ms (enqueued met q) = go (record { resolved = ms; met = met; queue = q })

-- the name of the module, where there is one
unfoldable pub name_or_empty : Option Descriptor → Name
name_or_empty none = []
name_or_empty (some m) = m.name

-- "Then packages, in byte order, are tested for another owner. Then each requirement not met before is queued": m is the module
-- of the name taken; the test gave the first package that has another owner, or none
unfoldable pub tested : Bool → List Descriptor → Request → List Descriptor → Descriptor → List Name → List Item → Option Name → Step State Refusal
unfolding handled enqueue name_or_empty owner_in index_of
tested in_round s rq ms m met q (some p) = fail (split_package p (name_or_empty (owner_in ms p)) m.name)
tested in_round s rq ms m met q none =
    handled (ms ++ (m ∷ [])) (enqueue in_round s rq (required (index_of m.name s)) m.requires 0 met q)

-- "one not observable refuses": an absent java.base is 6, any other name 5
unfoldable pub found : Bool → List Descriptor → Request → Item → List Descriptor → List Name → List Item → Option Descriptor → Step State Refusal
unfolding tested least shared
found in_round s rq e ms met q none = fail (cond (same_bytes e.name java_base) java_base_not_found (module_not_found e.name e.by))
found in_round s rq e ms met q (some m) = tested in_round s rq ms m met q (least (shared ms m))

-- "A name taken from the queue that is not permitted is skipped (java.base always passes)"
unfoldable pub passed : Bool → List Descriptor → Request → Item → List Descriptor → List Name → List Item → Bool → Step State Refusal
unfolding found find
passed in_round s rq e ms met q false = go (record { resolved = ms; met = met; queue = q })
passed in_round s rq e ms met q true = found in_round s rq e ms met q (find e.name s)

-- the first name of the queue
unfoldable pub taken : Bool → List Descriptor → Request → List Descriptor → List Name → List Item → Step State Refusal
unfolding passed is_permitted
taken in_round s rq ms met [] = stop
taken in_round s rq ms met (e ∷ q) = passed in_round s rq e ms met q (is_permitted rq e.name)

unfoldable pub turn : Bool → List Descriptor → Request → State → Step State Refusal
unfolding taken
turn in_round s rq st = taken in_round s rq st.resolved st.met st.queue

-- ---- the queue, until it is empty

-- every name that can be queued: no queue takes more turns
unfoldable pub candidates : List Descriptor → Request → List Name
unfolding flat_map
candidates s rq = java_base ∷ (rq.roots ++ (flat_map (λ m. map (λ (r : Requirement). r.name) m.requires) s ++ names s))

unfoldable pub queue_fuel : List Descriptor → Request → ℕ
unfolding candidates
queue_fuel s rq = suc (length (candidates s rq))

unfoldable pub run_queue : Bool → List Descriptor → Request → State → Result State Refusal
unfolding loop turn queue_fuel
run_queue in_round s rq st = loop (turn in_round s rq) ran_out (queue_fuel s rq) st

-- ---- the rounds

-- roots and providers are queued as requirements that are not static
unfoldable pub as_requirement : Name → Requirement
as_requirement n = record { name = n; transitive = false; static = false }

-- m is permitted, and provides a service used by a resolved module
unfoldable pub is_provider : List Descriptor → Request → Descriptor → Bool
unfolding any mem_name is_permitted
is_provider ms rq m = is_permitted rq m.name && any (λ v. any (λ u. mem_name v u.uses) ms) m.provides

-- "all unmet, permitted, observable providers of services used by resolved modules, in set order": queueing leaves out those met
unfoldable pub providers : List Descriptor → Request → List Descriptor → List Requirement
unfolding as_requirement is_provider keep observable
providers s rq ms = map (λ m. as_requirement m.name) (keep (is_provider ms rq) (observable s))

unfoldable pub ran : Result State Refusal → Step State Refusal
ran (failed a) = fail a
ran (done t) = go t

-- "then the same queue"; "Rounds stop when none is new"
unfoldable pub round_on : List Descriptor → Request → List Descriptor → Enqueued → Step State Refusal
unfolding ran run_queue
round_on s rq ms (missing n p) = fail (module_not_found n p)
round_on s rq ms (enqueued met []) = stop
round_on s rq ms (enqueued met (e ∷ q)) = ran (run_queue true s rq (record { resolved = ms; met = met; queue = e ∷ q }))

unfoldable pub round : List Descriptor → Request → State → Step State Refusal
unfolding round_on enqueue providers
round s rq st = round_on s rq st.resolved (enqueue false s rq provider (providers s rq st.resolved) 0 st.met [])

-- a set of n modules takes no more than n rounds that find new ones
unfoldable pub rounds : List Descriptor → Request → Result State Refusal → Result State Refusal
unfolding loop round
rounds s rq (failed a) = failed a
rounds s rq (done st) = loop (round s rq) ran_out (suc (length s)) st

-- ---- the whole

-- "java.base in front unless it is a root"
unfoldable pub base_met : Bool → List Name
base_met true = []
base_met false = java_base ∷ []

unfoldable pub base_queue : Bool → List Item
base_queue true = []
base_queue false = record { name = java_base; by = base } ∷ []

-- "roots in order, repeats dropped"
unfoldable pub seeds : List Descriptor → Request → Enqueued
unfolding enqueue as_requirement base_met base_queue mem_name
seeds s rq = enqueue false s rq root (map as_requirement rq.roots) 0 (base_met (mem_name java_base rq.roots)) (base_queue (mem_name java_base rq.roots))

unfoldable pub started : List Descriptor → Request → Enqueued → Result State Refusal
unfolding rounds run_queue
started s rq (missing n p) = failed (module_not_found n p)
started s rq (enqueued met q) = rounds s rq (run_queue false s rq (record { resolved = []; met = met; queue = q }))

-- the set and the request: the modules resolved, or the refusal met
unfoldable pub resolve : List Descriptor → Request → Result State Refusal
unfolding started seeds
resolve s rq = started s rq (seeds s rq)
