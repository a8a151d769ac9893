-- The check of a set and a request refuses with 1, 2 or 3, and with no other number.
use Prim.Native.Nat.{ℕ, ◌+◌, ◌≤◌}
use mathlib.Core.Path.{◌≡◌, subst}
use mathlib.Core.Bool.{Bool, true, false, ◌&&◌, ◌||◌}
use mathlib.Core.List.{List, [], ◌∷◌, map}
use native.Mathlib.Omega.{arith}
use lib.Dec.{ltb, leb, eqb}
use lib.ListN.{length}
use Rattle.records.specs.Bytes.{same_bytes}
use Rattle.records.specs.Descriptor.{module_name}
use Rattle.records.specs.Error.{number_of}
use Rattle.records.specs.Name.{all_unnamed, mem_name}
use Rattle.records.specs.Record.{mark_of, body_of, records, set_kind, kind_in, is_body}
use Rattle.records.specs.Request.{check_records, check_records_from, check_inputs, then_request, none_once, row_of, row_on, pick_answer}
use Rattle.records.specs.Set.{Passed, check_set, check_from, judge_at, pass_at, admit_at, enter_at, is_placed, go_on, pick_checked, pick_verdict, accepted, none_yet, name_at, module_limit}
use Rattle.records.specs.declared.error.Input.{Input}
use Rattle.records.specs.declared.error.ModuleError.{ModuleError}
use Rattle.records.specs.declared.error.ModuleError.TheVariants.{Malformed, TooLarge, Repeated}
use Rattle.records.specs.declared.record.Kind.{Kind}
use Rattle.records.specs.declared.record.Kind.TheVariants.{Module, Requires, Exports, Opens, Uses, Provides, Package, MainClass, Place, Root, LimitModules, AddReads, AddExports, AddOpens, Static, Other}
use Rattle.records.specs.declared.request.Once.{Once}
use Rattle.records.specs.Request.{Row}
use Rattle.records.specs.Request.{RecordsAnswer}
use Rattle.records.specs.Set.{SetAnswer}
use Rattle.records.specs.Set.{SetAnswer, count_of}
use Rattle.records.proofs.request.Taken.{answer-refused}
use Rattle.records.specs.Set.{VerdictAnswer}
use Rattle.records.specs.declared.set.Verdict.TheVariants.{Start, Main, Enter, Pass}
use Rattle.std.specs.Prelude.{Some, None, Ok, Err}

-- 1, 2 or 3
abbrev OfCheck : ModuleError → Type 0
OfCheck e = number_of e ≤ 3

abbrev OfVerdict : VerdictAnswer → Type 0
OfVerdict (Err e) = OfCheck e
OfVerdict (Ok Start) = Unit {0}
OfVerdict (Ok Main) = Unit {0}
OfVerdict (Ok Enter) = Unit {0}
OfVerdict (Ok Pass) = Unit {0}

abbrev OfAnswer : SetAnswer → Type 0
OfAnswer (Err e) = OfCheck e
OfAnswer (Ok c) = Unit {0}

abbrev OfRecords : RecordsAnswer → Type 0
OfRecords (Ok u) = Unit {0}
OfRecords (Err e) = OfCheck e

pick-verdict : (b : Bool) (x y : VerdictAnswer) → OfVerdict x → OfVerdict y → OfVerdict (pick_verdict b x y)
pick-verdict true x y h k = h
pick-verdict false x y h k = k

pick-checked : (b : Bool) (x y : SetAnswer) → OfAnswer x → OfAnswer y → OfAnswer (pick_checked b x y)
pick-checked true x y h k = h
pick-checked false x y h k = k

pick-answer : (b : Bool) (x y : RecordsAnswer) → OfRecords x → OfRecords y → OfRecords (pick_answer b x y)
pick-answer true x y h k = h
pick-answer false x y h k = k

-- ---- the set

pass-number : (s : List ℕ) (p : Passed) (at : ℕ) (k : Kind) (b : List ℕ) → OfVerdict (pass_at s p at k b)
unfolding pass_at admit_at enter_at number_of
pass-number s p at Module b =
    pick-verdict (leb module_limit (length p.starts)) (Err (TooLarge at))
    (pick_verdict (same_bytes (module_name b) all_unnamed || mem_name (module_name b) (map (name_at s) p.here)) (Err (Repeated at)) (Ok Start)) (omega arith)
    (pick-verdict (same_bytes (module_name b) all_unnamed || mem_name (module_name b) (map (name_at s) p.here)) (Err (Repeated at)) (Ok Start) (omega arith) tt)
pass-number s p at Requires b = tt
pass-number s p at Exports b = tt
pass-number s p at Opens b = tt
pass-number s p at Uses b = tt
pass-number s p at Provides b = tt
pass-number s p at Package b = tt
pass-number s p at MainClass b = tt
pass-number s p at Place b = pick-verdict (leb 8 p.places) (Err (TooLarge at)) (Ok Enter) (omega arith) tt
pass-number s p at Root b = tt
pass-number s p at LimitModules b = tt
pass-number s p at AddReads b = tt
pass-number s p at AddExports b = tt
pass-number s p at AddOpens b = tt
pass-number s p at Static b = tt
pass-number s p at Other b = tt

judge_number : (s : List ℕ) (p : Passed) (at : ℕ) (k : Kind) (b : List ℕ) → OfVerdict (judge_at s p at k b)
unfolding judge_at number_of
judge_number s p at k b = pick-verdict (is_placed (length p.here) p.main k && is_body k b) _ _ (pass-number s p at k b) (omega arith)

from-number : (s : List ℕ) (rs : List (List ℕ)) (p : Passed) (at : ℕ) → OfAnswer (check_from s p at rs)
unfolding check_from accepted number_of go_on
from-number s [] p at = pick-checked (eqb at (length s)) _ _ tt (omega arith)
from-number s (r ∷ rs) p at = turned (judge_at s p at (set_kind (mark_of r)) (body_of r)) (judge_number s p at (set_kind (mark_of r)) (body_of r)) (λ p₂. from-number s rs p₂ (at + length r))
  where
    turned : (v : VerdictAnswer) → OfVerdict v → ((p₂ : Passed) → OfAnswer (check_from s p₂ (at + length r) rs))
        → OfAnswer (go_on v p at (λ p₂. check_from s p₂ (at + length r) rs))
    turned (Err e) h next = h
    turned (Ok Start) h next = next _
    turned (Ok Main) h next = next _
    turned (Ok Enter) h next = next _
    turned (Ok Pass) h next = next _

set-number : (s : List ℕ) → OfAnswer (check_set s)
unfolding check_set number_of
set-number s = pick-checked (ltb 65535 (length s)) _ _ (omega arith) (from-number s (records s) none_yet 0)

-- ---- the request

records-from-number : (i : Input) (n : ℕ) (rs : List (List ℕ)) (o : Once) (at : ℕ) → OfRecords (check_records_from i n o at rs)
unfolding check_records_from number_of row_on
records-from-number i n [] o at = pick-answer (eqb at n) _ _ tt (omega arith)
records-from-number i n (r ∷ rs) o at = turned (row_of o (kind_in i (mark_of r)) (body_of r)) (λ o₂. records-from-number i n rs o₂ (at + length r))
  where
    turned : (w : Row) → ((o₂ : Once) → OfRecords (check_records_from i n o₂ (at + length r) rs))
        → OfRecords (row_on w (Err (Malformed i at)) (λ o₂. check_records_from i n o₂ (at + length r) rs))
    turned None next = omega arith
    turned (Some o₂) next = next o₂

records-number : (i : Input) (s : List ℕ) → OfRecords (check_records i s)
unfolding check_records number_of
records-number i s = pick-answer (ltb 65535 (length s)) _ _ (omega arith) (records-from-number i (length s) (records s) none_once 0)

-- ---- both

inputs-number : (s q : List ℕ) → OfAnswer (check_inputs s q)
unfolding check_inputs number_of then_request
inputs-number s q = pick-checked (ltb 65535 (length s) || ltb 65535 (length q)) _ _ (omega arith)
    (turned (check_set s) (check_records Input.Request q) (set-number s) (records-number Input.Request q))
  where
    turned : (a : SetAnswer) (r : RecordsAnswer) → OfAnswer a → OfRecords r → OfAnswer (then_request a r)
    turned (Err e) r h k = h
    turned (Ok c) (Ok u) h k = h
    turned (Ok c) (Err e) h k = k

-- a refusal of the check is 1, 2 or 3
pub check-number : (s q : List ℕ) (e : ModuleError) → count_of (check_inputs s q) ≡ Err e → number_of e ≤ 3
check-number s q e h = subst OfAnswer (answer-refused (check_inputs s q) e h) (inputs-number s q)
