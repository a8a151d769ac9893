-- A request: its check, and what it says. The check of package records is the same, with PK only
-- (document 01, "The set and the request").
use Rattle.std.specs.Prelude.{ℕ, ◌+◌, List, [], ◌∷◌, map, Bool, true, false, ◌&&◌, ◌||◌, not, length, ltb, eqb, Option as Maybe, Some, None, Result, Ok, Err}
use Rattle.std.proofs.Math.Option.{Option, none, some}
use Rattle.records.specs.Bytes.{same_bytes}
use Rattle.records.specs.Name.{java_base, name_of, after_name, list_of, mem_name}
use Rattle.records.specs.Record.{mark_of, body_of, records, mark_for, kind_in, is_body, bodies}
use Rattle.records.specs.Set.{pick_checked, check_set, SetAnswer}
use Rattle.records.specs.declared.record.Kind.{Kind}
use Rattle.records.specs.declared.record.Kind.TheVariants.{Root, LimitModules, AddReads, AddExports, AddOpens, Static}
use Rattle.records.specs.declared.error.Input.{Input}
use Rattle.records.specs.declared.error.ModuleError.TheVariants.{Malformed, TooLarge}
use Rattle.records.specs.declared.request.Once.{Once}
use Rattle.records.specs.declared.error.ModuleError.{ModuleError}

-- ---- the check of a request, and of package records

-- whether records are well-formed, or why they are refused
abbrev pub RecordsAnswer : Type 0
RecordsAnswer = Result (Unit {0}) ModuleError

abbrev pub pick_answer : Bool → RecordsAnswer → RecordsAnswer → RecordsAnswer
pick_answer true a b = a
pick_answer false a b = b

-- the one kind is the other
unfoldable pub same_kind : Kind → Kind → Bool
same_kind k j = eqb (mark_for k) (mark_for j)

-- what one record leads to: the records passed then that stand at most once, nothing where it is at fault
abbrev pub Row : Type 0
Row = Maybe Once

abbrev pub pick_row : Bool → Row → Row → Row
pick_row true a b = a
pick_row false a b = b

-- neither an LM nor an ST was passed
abbrev pub none_once : Once
none_once = record { limited = false; statics = false }

-- a record of kind k and body b, where o says whether an LM and an ST were passed: its body is well-formed, and it is no second LM
-- and no second ST ("at most once")
unfoldable pub row_of : Once → Kind → List ℕ → Row
row_of o k b =
    pick_row (is_body k b && not ((o.limited && same_kind k LimitModules) || (o.statics && same_kind k Static)))
    (Some (record { limited = o.limited || same_kind k LimitModules; statics = o.statics || same_kind k Static }))
    None

unfoldable pub row_on : Row → RecordsAnswer → (Once → RecordsAnswer) → RecordsAnswer
row_on None bad f = bad
row_on (Some o) bad f = f o

-- the records from `at` on; the last ends where the input does (1)
unfoldable pub check_records_from : Input → ℕ → Once → ℕ → List (List ℕ) → RecordsAnswer
check_records_from i n o at [] = pick_answer (eqb at n) (Ok tt) (Err (Malformed i at))
check_records_from i n o at (r ∷ rs) =
    row_on (row_of o (kind_in i (mark_of r)) (body_of r)) (Err (Malformed i at)) (λ o₂. check_records_from i n o₂ (at + length r) rs)

-- the length first (2), then the records
unfoldable pub check_records : Input → List ℕ → RecordsAnswer
check_records i s = pick_answer (ltb 65535 (length s)) (Err (TooLarge 0)) (check_records_from i (length s) none_once 0 (records s))

-- ---- a set and a request

-- the answer on the set, and where that is taken, the answer on the request
unfoldable pub then_request : SetAnswer → RecordsAnswer → SetAnswer
then_request (Err e) a = Err e
then_request (Ok c) (Ok u) = Ok c
then_request (Ok c) (Err e) = Err e

-- both lengths (2), the set, then the request
unfoldable pub check_inputs : List ℕ → List ℕ → SetAnswer
check_inputs s q =
    pick_checked (ltb 65535 (length s) || ltb 65535 (length q)) (Err (TooLarge 0)) (then_request (check_set s) (check_records Input.Request q))

-- ---- the decoded request

-- AR: the source reads the target
pub record Read : Type 0 where
  pub source : List ℕ
  pub target : List ℕ

-- AE and AO: a package of the source is exported, or opened, to the target
pub record Grant : Type 0 where
  pub source : List ℕ
  pub pkg : List ℕ
  pub target : List ℕ

pub record Request : Type 0 where
  pub roots : List (List ℕ)
  -- the names in LM, none where there is no LM
  pub limit : Option (List (List ℕ))
  pub add_reads : List Read
  pub add_exports : List Grant
  pub add_opens : List Grant
  -- there is an ST
  pub has_static : Bool

unfoldable pub read_of : List ℕ → Read
read_of b = record { source = name_of b; target = name_of (after_name b) }

unfoldable pub grant_of : List ℕ → Grant
grant_of b = record { source = name_of b; pkg = name_of (after_name b); target = name_of (after_name (after_name b)) }

-- the names of the first LM
unfoldable pub limit_of : List (List ℕ) → Option (List (List ℕ))
limit_of [] = none
limit_of (b ∷ bs) = some (list_of b)

-- the list is not empty
unfoldable pub has_any : List (List ℕ) → Bool
has_any [] = false
has_any (b ∷ bs) = true

-- what a request says
unfoldable pub request_of : List ℕ → Request
request_of s = record {
  roots = map name_of (bodies Root s);
  limit = limit_of (bodies LimitModules s);
  add_reads = map read_of (bodies AddReads s);
  add_exports = map grant_of (bodies AddExports s);
  add_opens = map grant_of (bodies AddOpens s);
  has_static = has_any (bodies Static s);
}

-- no LM permits all names
unfoldable pub within_limit : Option (List (List ℕ)) → List ℕ → Bool
within_limit none n = true
within_limit (some l) n = mem_name n l

-- permitted: java.base, the names in LM and, without LM, all names
unfoldable pub is_permitted : Request → List ℕ → Bool
is_permitted rq n = same_bytes n java_base || within_limit rq.limit n

-- some AR has this source and this target
unfoldable pub has_read : List Read → List ℕ → List ℕ → Bool
has_read [] source target = false
has_read (a ∷ l) source target = (same_bytes a.source source && same_bytes a.target target) || has_read l source target

-- some AE, or AO, has this source, this package and this target
unfoldable pub has_grant : List Grant → List ℕ → List ℕ → List ℕ → Bool
has_grant [] source pkg target = false
has_grant (g ∷ l) source pkg target =
    (same_bytes g.source source && (same_bytes g.pkg pkg && same_bytes g.target target)) || has_grant l source pkg target
