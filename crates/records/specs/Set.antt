-- A set of modules: its check, and its module blocks (document 01, "The set and the request").
use Rattle.std.specs.Prelude.{ℕ, ◌+◌, ◌-◌, List, [], ◌∷◌, ◌++◌, map, Bool, true, false, cond, ◌&&◌, ◌||◌, not, length, get_or, take, drop, replicate, ltb, leb, eqb, Result, Ok, Err}
use Rattle.records.specs.Bytes.{same_bytes}
use Rattle.records.specs.Name.{all_unnamed, mem_name}
use Rattle.records.specs.Record.{mark_of, size_of, body_of, records, set_kind, is_body, is_of}
use Rattle.records.specs.Descriptor.{module_name, Descriptor, descriptor_of}
use Rattle.records.specs.declared.record.Kind.{Kind}
use Rattle.records.specs.declared.record.Kind.TheVariants.{Module, Requires, Exports, Opens, Uses, Provides, Package, MainClass, Place, Root, LimitModules, AddReads, AddExports, AddOpens, Static, Other}
use Rattle.records.specs.declared.error.Input.TheVariants.{Set}
use Rattle.records.specs.declared.error.ModuleError.{ModuleError}
use Rattle.records.specs.declared.error.ModuleError.TheVariants.{Malformed, TooLarge, Repeated}
use Rattle.records.specs.declared.set.Verdict.{Verdict}
use Rattle.records.specs.declared.set.Verdict.TheVariants.{Start, Main, Enter, Pass}
use Rattle.records.specs.declared.set.Seen.{Seen}
use Rattle.records.specs.declared.set.Checked.{Checked}

-- how many modules a set has at most
abbrev pub module_limit : ℕ
module_limit = 512

-- how many entries the table of its modules has: one for each, and one for the end
abbrev pub starts_length : ℕ
starts_length = 513

-- what a record of a set leads to: the set is refused, or not
abbrev pub VerdictAnswer : Type 0
VerdictAnswer = Result Verdict ModuleError

-- the answer on a set: the table of its modules, or why it is refused
abbrev pub SetAnswer : Type 0
SetAnswer = Result Checked ModuleError

-- how many modules it has, or why it is refused
abbrev pub CountAnswer : Type 0
CountAnswer = Result ℕ ModuleError

abbrev pub count_of : SetAnswer → CountAnswer
count_of (Ok c) = Ok c.count
count_of (Err e) = Err e

-- where its modules start, nothing where it is refused
abbrev pub starts_in : SetAnswer → List ℕ
starts_in (Ok c) = c.starts
starts_in (Err e) = []

-- ---- the check of a set: its length, then its records front to back, at each 1, 2, 3

-- the records so far: the offsets of the MO among them, and of those in the present place; how many places there are, the first
-- being there before its PL; and whether the last module has its MC
pub record Passed : Type 0 where
  pub starts : List ℕ
  pub here : List ℕ
  pub places : ℕ
  pub main : Bool

-- before the first record
abbrev pub none_yet : Passed
none_yet = record { starts = []; here = []; places = 1; main = false }

-- the same of a table of starts and the numbers that tell of it
abbrev pub here_of : List ℕ → Seen → List ℕ
here_of t n = take (n.count - n.first) (drop n.first t)

abbrev pub passed_of : List ℕ → Seen → Passed
passed_of t n = record { starts = take n.count t; here = here_of t n; places = n.places; main = n.main }

-- the body of the record at this offset of s
unfoldable pub body_at : List ℕ → ℕ → List ℕ
body_at s at = take (size_of (drop at s)) (drop 4 (drop at s))

-- the name of the MO at this offset of s
unfoldable pub name_at : List ℕ → ℕ → List ℕ
name_at s at = module_name (body_at s at)

-- a record of this kind may stand here, where the present place has `count` modules so far: MO and PL anywhere, the others behind
-- an MO of the place, and MC at most once in a module
unfoldable pub is_placed : ℕ → Bool → Kind → Bool
is_placed count main Module = true
is_placed count main Requires = ltb 0 count
is_placed count main Exports = ltb 0 count
is_placed count main Opens = ltb 0 count
is_placed count main Uses = ltb 0 count
is_placed count main Provides = ltb 0 count
is_placed count main Package = ltb 0 count
is_placed count main MainClass = not main && ltb 0 count
is_placed count main Place = true
is_placed count main Root = false
is_placed count main LimitModules = false
is_placed count main AddReads = false
is_placed count main AddExports = false
is_placed count main AddOpens = false
is_placed count main Static = false
is_placed count main Other = false

abbrev pub pick_verdict : Bool → VerdictAnswer → VerdictAnswer → VerdictAnswer
pick_verdict true a b = a
pick_verdict false a b = b

-- an MO at `at`: at most 512 modules (2); no name seen before in the same place, and none ALL-UNNAMED (3)
unfoldable pub admit_at : List ℕ → Passed → ℕ → List ℕ → VerdictAnswer
admit_at s p at b =
    pick_verdict (leb module_limit (length p.starts)) (Err (TooLarge at))
    (pick_verdict (same_bytes (module_name b) all_unnamed || mem_name (module_name b) (map (name_at s) p.here)) (Err (Repeated at))
    (Ok Start))

-- a PL at `at`: at most eight places (2)
unfoldable pub enter_at : Passed → ℕ → VerdictAnswer
enter_at p at = pick_verdict (leb 8 p.places) (Err (TooLarge at)) (Ok Enter)

-- how many places there are with that one; a PL at the front begins the first
unfoldable pub places_at : ℕ → ℕ → ℕ
places_at n at = cond (ltb 0 at) (n + 1) n

-- a well-formed record at `at`
unfoldable pub pass_at : List ℕ → Passed → ℕ → Kind → List ℕ → VerdictAnswer
pass_at s p at Module b = admit_at s p at b
pass_at s p at Requires b = Ok Pass
pass_at s p at Exports b = Ok Pass
pass_at s p at Opens b = Ok Pass
pass_at s p at Uses b = Ok Pass
pass_at s p at Provides b = Ok Pass
pass_at s p at Package b = Ok Pass
pass_at s p at MainClass b = Ok Main
pass_at s p at Place b = enter_at p at
pass_at s p at Root b = Ok Pass
pass_at s p at LimitModules b = Ok Pass
pass_at s p at AddReads b = Ok Pass
pass_at s p at AddExports b = Ok Pass
pass_at s p at AddOpens b = Ok Pass
pass_at s p at Static b = Ok Pass
pass_at s p at Other b = Ok Pass

-- the record at `at`, of kind k and body b
unfoldable pub judge_at : List ℕ → Passed → ℕ → Kind → List ℕ → VerdictAnswer
judge_at s p at k b =
    pick_verdict (is_placed (length p.here) p.main k && is_body k b) (pass_at s p at k b) (Err (Malformed Set at))

-- the table of a set's modules: where each starts, then the set's length, then zeros
unfoldable pub table_of : List ℕ → ℕ → List ℕ
table_of starts n = starts ++ (n ∷ replicate (module_limit - length starts) 0)

unfoldable pub accepted : List ℕ → ℕ → SetAnswer
accepted starts n = Ok (record { count = length starts; starts = table_of starts n })

abbrev pub pick_checked : Bool → SetAnswer → SetAnswer → SetAnswer
pick_checked true a b = a
pick_checked false a b = b

-- the records so far and one more: an MO at `at`, an MC, and a PL at `at`
abbrev pub with_module : Passed → ℕ → Passed
with_module p at = record { starts = p.starts ++ (at ∷ []); here = p.here ++ (at ∷ []); places = p.places; main = false }

abbrev pub with_main : Passed → Passed
with_main p = record { starts = p.starts; here = p.here; places = p.places; main = true }

abbrev pub with_place : Passed → ℕ → Passed
with_place p at = record { starts = p.starts; here = []; places = places_at p.places at; main = p.main }

unfoldable pub go_on : VerdictAnswer → Passed → ℕ → (Passed → SetAnswer) → SetAnswer
go_on (Err e) p at f = Err e
go_on (Ok Start) p at f = f (with_module p at)
go_on (Ok Main) p at f = f (with_main p)
go_on (Ok Enter) p at f = f (with_place p at)
go_on (Ok Pass) p at f = f p

-- the records from `at` on
unfoldable pub check_from : List ℕ → Passed → ℕ → List (List ℕ) → SetAnswer
check_from s p at [] = pick_checked (eqb at (length s)) (accepted p.starts (length s)) (Err (Malformed Set at))
check_from s p at (r ∷ rs) =
    go_on (judge_at s p at (set_kind (mark_of r)) (body_of r)) p at (λ p'. check_from s p' (at + length r) rs)

-- the set: its length first (2), then its records
unfoldable pub check_set : List ℕ → SetAnswer
check_set s = pick_checked (ltb 65535 (length s)) (Err (TooLarge 0)) (check_from s none_yet 0 (records s))

-- ---- module blocks: MO and the records up to the next MO or PL; PL belongs to no module

-- the bytes of the records up to the next MO or PL
unfoldable pub up_to_next : List (List ℕ) → List ℕ
up_to_next [] = []
up_to_next (r ∷ rs) = cond (is_of Module r || is_of Place r) [] (r ++ up_to_next rs)

unfoldable pub blocks_of : List (List ℕ) → List (List ℕ)
blocks_of [] = []
blocks_of (r ∷ rs) = cond (is_of Module r) ((r ++ up_to_next rs) ∷ blocks_of rs) (blocks_of rs)

-- the module blocks of a set
unfoldable pub blocks : List ℕ → List (List ℕ)
blocks s = blocks_of (records s)

-- the part of s that the table gives for module i: its block, and any PL behind it
unfoldable pub block_at : List ℕ → List ℕ → ℕ → List ℕ
block_at s starts i = take (get_or starts (i + 1) 0 - get_or starts i 0) (drop (get_or starts i 0) s)

-- the modules of a set
unfoldable pub modules : List ℕ → List Descriptor
modules s = map descriptor_of (blocks s)
