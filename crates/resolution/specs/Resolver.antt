-- The short form over positions in the set, as the code does it: what it reads are bytes, and a module is its position.
-- proofs/ResolverWhole shows that this is the short form.
use Rattle.std.specs.Prelude.{ℕ, zero, suc, ◌+◌, ◌-◌, ◌≤◌, ◌<◌, ◌≡◌, Bool, true, false, not, ◌&&◌, ◌||◌, List, [], ◌∷◌, ◌++◌, map, eqb, length, get_or, take}
use Rattle.std.proofs.Math.Option.{Option, none, some}
use Rattle.records.specs.Bytes.{same_bytes}
use Rattle.records.specs.Name.{java_base, mem_name, name_of}
use Rattle.records.specs.Record.{body_of, records, is_of, bodies, first_in}
use Rattle.records.specs.Descriptor.{requirement_of}
use Rattle.records.specs.Request.{request_of, is_permitted}
use Rattle.records.specs.Set.{name_at, block_at}
use Rattle.records.specs.Finder.{find_name}
use Rattle.records.specs.declared.error.Input.{Input}
use Rattle.records.specs.declared.error.ModuleError.{ModuleError}
use Rattle.records.specs.declared.error.ModuleError.TheVariants.{ModuleNotFound, JavaBaseNotFound, SplitPackage}
use Rattle.records.specs.Finder.{Found}
use Rattle.records.specs.declared.record.Kind.{Kind}
use Rattle.resolution.specs.Lists.{Name, any, keep, first}
use Rattle.resolution.specs.Owner.{least}
use Rattle.resolution.specs.Resolution.{leads}
use Rattle.resolution.specs.Row.{holds, one, count_below}
use Rattle.resolution.specs.Resolve.{body_start}
use Rattle.resolution.specs.declared.resolver.Halt.{Halt}
use Rattle.resolution.specs.declared.resolver.Wanted.{Wanted}
use Rattle.resolution.specs.declared.resolver.Wanted.TheVariants.{Pass, Add, Stop, Refuse}
use Rattle.resolution.specs.declared.resolver.Queue.{Queue}
use Rattle.resolution.specs.declared.resolver.Phase.{Phase}
use Rattle.std.specs.Prelude.{Some, None}

-- ---- what is read

-- the set and the request; where each module of the set starts, and how many there are; the row of the positions permitted and
-- not hidden; whether a round is being made, and the positions resolved before the rounds
pub record Inputs : Type 0 where
  pub set : List ℕ
  pub request : List ℕ
  pub starts : List ℕ
  pub count : ℕ
  pub permitted : List ℕ
  pub in_round : Bool
  pub before : List ℕ

-- what the code reads: the array `old` has the positions resolved before the rounds in front
unfoldable pub inputs_of : List ℕ → List ℕ → List ℕ → List ℕ → Phase → Inputs
inputs_of set request starts old phase = record {
  set = set;
  request = request;
  starts = starts;
  count = phase.count;
  permitted = phase.permitted;
  in_round = phase.in_round;
  before = take phase.before old;
}

-- the position of the module of this name
unfoldable pub locate : Inputs → Name → Found
locate w n = find_name (map (name_at w.set) (take w.count w.starts)) n 0

-- where the block of module i starts, and the block
unfoldable pub start_of : Inputs → ℕ → ℕ
start_of w i = get_or w.starts i 0

unfoldable pub block_of : Inputs → ℕ → List ℕ
block_of w i = block_at w.set w.starts i

-- the names in front of the records of this kind of module i: its packages, the services it uses, those it provides
unfoldable pub names_of : Inputs → Kind → ℕ → List Name
names_of w k i = map name_of (bodies k (block_of w i))

-- a module at one of these positions has the name
unfoldable pub has_named : Inputs → Kind → List ℕ → Name → Bool
unfolding any
has_named w k ps n = any (λ i. mem_name n (names_of w k i)) ps

-- ---- what becomes of a name

abbrev pub pick_wanted : Bool → Wanted → Wanted → Wanted
pick_wanted true a b = a
pick_wanted false a b = b

-- the body of an RQ that is not static and requires this name
unfoldable pub requires_name : Name → List ℕ → Bool
requires_name n b = not (requirement_of b).static && same_bytes (requirement_of b).name n

-- an absent name was met before the rounds: it is a root, or such a requirement of a module resolved before them
unfoldable pub is_met_before : Inputs → Name → Bool
unfolding any
is_met_before w n = mem_name n (request_of w.request).roots || any (λ i. any (requires_name n) (bodies Kind.Requires (block_of w i))) w.before

-- an absent name that is not static, and the refusal that its record gives. In a round? Met before the rounds? Permitted?
-- java.base?
unfoldable pub want_absent : Bool → Bool → Bool → Bool → ModuleError → Wanted
want_absent true true permitted is_base e = Pass
want_absent true false permitted is_base e = Refuse e
want_absent false met false is_base e = Pass
want_absent false met true true e = Stop JavaBaseNotFound
want_absent false met true false e = Stop e

unfoldable pub want_unfound : Inputs → Name → ModuleError → Wanted
want_unfound w n e = want_absent w.in_round (is_met_before w n) (is_permitted (request_of w.request) n) (same_bytes n java_base) e

unfoldable pub want_found : Inputs → Name → Bool → ModuleError → Found → Wanted
want_found w n static e (Some i) = pick_wanted (holds w.permitted i) (Add i) Pass
want_found w n static e None = pick_wanted static Pass (want_unfound w n e)

unfoldable pub want : Inputs → Name → Bool → ModuleError → Wanted
want w n static e = want_found w n static e (locate w n)

-- the record with this body at `start`, of the set an RQ, of the request an RT; the name is a part of it. An RQ that does not lead is
-- passed over
unfoldable pub want_record : Inputs → Input → List ℕ → ℕ → Wanted
want_record w Input.Set b start =
    pick_wanted (leads (request_of w.request) (requirement_of b))
    (want w (requirement_of b).name (requirement_of b).static (ModuleNotFound Input.Set (start + 3) (length (requirement_of b).name)))
    Pass
want_record w Input.Request b start = want w (name_of b) false (ModuleNotFound Input.Request (start + 1) (length (name_of b)))
want_record w Input.Packages b start = Pass

unfoldable pub kind_for : Input → Kind
kind_for Input.Set = Kind.Requires
kind_for Input.Request = Kind.Root
kind_for Input.Packages = Kind.Other

-- ---- the queue

-- the positions resolved and waiting, in order; how many are resolved; what ends the queue
pub record Line : Type 0 where
  pub order : List ℕ
  pub head : ℕ
  pub halt : Halt

-- the queue of the code, with its array
unfoldable pub line_at : List ℕ → Queue → Line
line_at order q = record { order = take q.tail order; head = q.head; halt = q.halt }

-- i is one of these positions
unfoldable pub is_one_of : ℕ → List ℕ → Bool
unfolding any
is_one_of i ps = any (eqb i) ps

abbrev pub pick_line : Bool → Line → Line → Line
pick_line true a b = a
pick_line false a b = b

abbrev pub halted : Halt → Line → Line
halted h l = record { order = l.order; head = l.head; halt = h }

-- position i at the end, unless it is there
unfoldable pub queued_at : ℕ → Line → Line
queued_at i l = pick_line (is_one_of i l.order) l (record { order = l.order ++ (i ∷ []); head = l.head; halt = l.halt })

unfoldable pub queued_on : Halt → Wanted → Line → Line
queued_on Halt.Open Pass l = l
queued_on Halt.Open (Add i) l = queued_at i l
queued_on Halt.Open (Stop e) l = halted (Halt.Stop e) l
queued_on Halt.Open (Refuse e) l = halted (Halt.Refused e) l
queued_on (Halt.Stop x) wanted l = l
queued_on (Halt.Refused x) wanted l = l

-- a name is queued, as is wanted; after a halt nothing is
unfoldable pub queued : Wanted → Line → Line
queued wanted l = queued_on l.halt wanted l

-- the records from `at` on
unfoldable pub queue_in : Inputs → Input → ℕ → List (List ℕ) → Line → Line
queue_in w i at [] l = l
queue_in w i at (r ∷ rs) l = queue_in w i (at + length r) rs (pick_line (is_of (kind_for i) r) (queued (want_record w i (body_of r) (at + 4)) l) l)

-- the array has a place for each position that may come: those that stand in it are different, and below count. Behind these
-- places each position has its mark: 1 where it stands in the queue
pub record Ready (count : ℕ) (order : List ℕ) (q : Queue) : Type 0 where
  pub long : length order ≡ 1024
  pub few : count ≤ 512
  pub waits : q.head ≤ q.tail
  pub room : q.tail + count_below (λ k. not (is_one_of k (take q.tail order))) count ≤ count
  pub marked : (i : ℕ) → i < 512 → get_or order (512 + i) 0 ≡ one (is_one_of i (take q.tail order))

-- an array for a queue that is empty
pub record Fresh (count : ℕ) (order : List ℕ) : Type 0 where
  pub long : length order ≡ 1024
  pub few : count ≤ 512
  pub unmarked : (i : ℕ) → i < 512 → get_or order (512 + i) 0 ≡ 0

-- and the empty queue
pub record Unused (count : ℕ) (order : List ℕ) (q : Queue) : Type 0 where
  pub fresh : Fresh count order
  pub empty : q ≡ record { head = 0; tail = 0; halt = Halt.Open }

-- `first` has the first n entries of the order
pub record FirstOf (order : List ℕ) (n : ℕ) (first : List ℕ) : Type 0 where
  pub long : length first ≡ 512
  pub same : take n first ≡ take n order

-- a position that is wanted is below count
unfoldable pub Within : ℕ → Wanted → Type 0
Within count Pass = Unit {0}
Within count (Add i) = i < count
Within count (Stop e) = Unit {0}
Within count (Refuse e) = Unit {0}

-- the array and the queue are this line
pub record Moved (count : ℕ) (order : List ℕ) (q : Queue) (l : Line) : Type 0 where
  pub line : line_at order q ≡ l
  pub ready : Ready count order q

-- ---- one turn

unfoldable pub position_or : Option ℕ → ℕ
position_or none = 0
position_or (some i) = i

-- of these positions, the first whose module has the package
unfoldable pub owner_at : Inputs → List ℕ → Name → Option ℕ
unfolding first
owner_at w ps n = first (λ i. mem_name n (names_of w Kind.Package i)) ps

unfoldable pub split_of : Inputs → List ℕ → ℕ → Option Name → Halt
split_of w ps p none = Halt.Open
split_of w ps p (some n) =
    Halt.Refused (SplitPackage (body_start (first_in Kind.Package (n ∷ []) (start_of w p) (records (block_of w p))) + 1) (length n) (position_or (owner_at w ps n)) p)

-- the test of the packages of the module at p, where those at ps are resolved
unfoldable pub split_at : Inputs → List ℕ → ℕ → Halt
unfolding keep
split_at w ps p = split_of w ps p (least (keep (has_named w Kind.Package ps) (names_of w Kind.Package p)))

-- the module at p is resolved, and its requirements are queued
unfoldable pub advanced_at : Inputs → Line → ℕ → Line
advanced_at w l p = queue_in w Input.Set (start_of w p) (records (block_of w p)) (record { order = l.order; head = suc l.head; halt = l.halt })

unfoldable pub handled_at : Inputs → Line → ℕ → Halt → Line
handled_at w l p Halt.Open = advanced_at w l p
handled_at w l p (Halt.Stop e) = halted (Halt.Refused e) l
handled_at w l p (Halt.Refused e) = halted (Halt.Refused e) l

-- the module at the head
unfoldable pub handle_at : Inputs → Line → Line
handle_at w l = handled_at w l (get_or l.order l.head 0) (split_at w (take l.head l.order) (get_or l.order l.head 0))

-- ---- the queue, until none waits

-- the queue goes on: there is no refusal, and one waits
unfoldable pub is_open : Halt → Bool
is_open Halt.Open = true
is_open (Halt.Stop e) = true
is_open (Halt.Refused e) = false

unfoldable pub goes_on : Line → Bool
goes_on l = is_open l.halt && not (eqb l.head (length l.order))

unfoldable pub run_at : Inputs → ℕ → Line → Line
run_at w zero l = l
run_at w (suc f) l = pick_line (goes_on l) (run_at w f (handle_at w l)) l

-- ---- the rounds

unfoldable pub is_provider_at : Inputs → List ℕ → ℕ → Bool
unfolding any
is_provider_at w ps i = holds w.permitted i && any (has_named w Kind.Uses ps) (names_of w Kind.Provides i)

-- the module at i, where those at ps are resolved
unfoldable pub offered_at : Inputs → List ℕ → ℕ → Line → Line
offered_at w ps i l = pick_line (is_provider_at w ps i) (queued (Add i) l) l

-- n modules from position i on
unfoldable pub provide_from : Inputs → List ℕ → ℕ → ℕ → Line → Line
provide_from w ps zero i l = l
provide_from w ps (suc n) i l = provide_from w ps n (suc i) (offered_at w ps i l)

-- the providers of a round
unfoldable pub provide_at : Inputs → Line → Line
provide_at w l = provide_from w (take l.head l.order) w.count 0 l

-- nothing ends the queue
unfoldable pub is_done : Halt → Bool
is_done Halt.Open = true
is_done (Halt.Stop e) = false
is_done (Halt.Refused e) = false

-- one round: the providers, then the queue
unfoldable pub round_at : Inputs → Line → Line
round_at w l = run_at w (suc w.count - l.head) (provide_at w l)

unfoldable pub rounds_at : Inputs → ℕ → Line → Line
rounds_at w zero l = l
rounds_at w (suc f) l =
    pick_line (is_done l.halt && not (eqb l.head (length (provide_at w l).order)))
    (rounds_at w f (round_at w l))
    l

-- ---- the whole

-- java.base in front unless it is a root
unfoldable pub front_at : Inputs → Line
front_at w =
    pick_line (mem_name java_base (request_of w.request).roots) (record { order = []; head = 0; halt = Halt.Open })
    (queued (want w java_base false JavaBaseNotFound) (record { order = []; head = 0; halt = Halt.Open }))

-- the queue of the roots
unfoldable pub roots_at : Inputs → Line
roots_at w = queue_in w Input.Request 0 (records w.request) (front_at w)

abbrev pub in_rounds : Inputs → List ℕ → Inputs
in_rounds w before = record {
  set = w.set;
  request = w.request;
  starts = w.starts;
  count = w.count;
  permitted = w.permitted;
  in_round = true;
  before = before;
}

unfoldable pub then_rounds : Inputs → Line → Line
then_rounds w l = rounds_at (in_rounds w l.order) (suc w.count) l

-- before the rounds
unfoldable pub first_at : Inputs → Line
first_at w = run_at w (suc w.count) (roots_at w)

-- the line at the end: w is read before the rounds
unfoldable pub resolve_at : Inputs → Line
resolve_at w = then_rounds w (first_at w)

-- what is read before the rounds
abbrev pub start_on : List ℕ → List ℕ → ℕ → List ℕ → List ℕ → Inputs
start_on set request count starts permitted = record {
  set = set;
  request = request;
  starts = starts;
  count = count;
  permitted = permitted;
  in_round = false;
  before = [];
}
