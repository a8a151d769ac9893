-- Records: a two-byte mark, a two-byte body length, the body. Their kinds, what a well-formed body of each kind is, and
-- the bodies of one kind (document 01, "The set and the request").
use Rattle.std.specs.Prelude.{ℕ, zero, suc, ◌+◌, List, [], ◌∷◌, Bool, true, false, cond, ◌&&◌, not, length, get_or, take, drop, ltb, leb, eqb, Option, Some, None}
use Rattle.records.specs.Bytes.{same_bytes, u16_at}
use Rattle.records.specs.Name.{all_unnamed, name_of, after_name, is_names, is_list, is_name_version, is_name_list}
use Rattle.records.specs.declared.error.Input.{Input}
use Rattle.records.specs.declared.error.Input.TheVariants.{Set, Request, Packages}
use Rattle.records.specs.declared.record.Step.{Step}
use Rattle.records.specs.declared.record.Step.TheVariants.{Record, Bad, End}
use Rattle.records.specs.declared.record.Kind.{Kind}
use Rattle.records.specs.declared.record.Kind.TheVariants.{Module, Requires, Exports, Opens, Uses, Provides, Package, MainClass, Place, Root, LimitModules, AddReads, AddExports, AddOpens, Static, Other}
use Rattle.records.specs.declared.record.Span.{Span}

-- ---- the records of a byte string

-- the mark of the record at the front of s
unfoldable pub mark_of : List ℕ → ℕ
mark_of s = u16_at s 0

-- the length of its body
unfoldable pub size_of : List ℕ → ℕ
size_of s = u16_at s 2

-- the body of a record
unfoldable pub body_of : List ℕ → List ℕ
body_of r = drop 4 r

-- the bytes of a record after its first
unfoldable pub record_more : List ℕ → ℕ
record_more s = 3 + size_of s

-- a whole record stands at the front of s
unfoldable pub whole : List ℕ → Bool
whole s = leb (suc (record_more s)) (length s)

-- k bytes are passed first; then the records, up to the end or to what is no whole record
unfoldable pub records_from : ℕ → List ℕ → List (List ℕ)
records_from k [] = []
records_from (suc k) (x ∷ xs) = records_from k xs
records_from zero (x ∷ xs) =
    cond (whole (x ∷ xs)) (take (suc (record_more (x ∷ xs))) (x ∷ xs) ∷ records_from (record_more (x ∷ xs)) xs) []

-- the records of s, each with its mark and length
unfoldable pub records : List ℕ → List (List ℕ)
records s = records_from 0 s

abbrev pub pick_step : Bool → Step → Step → Step
pick_step true a b = a
pick_step false a b = b

-- what a cursor finds at `at`
unfoldable pub step_at : List ℕ → ℕ → Step
step_at s at =
    pick_step (ltb at (length s))
    (pick_step (whole (drop at s))
    (Record (mark_of (drop at s)) (at + 4) (size_of (drop at s)) (record { at = at + 4 + size_of (drop at s) }))
    Bad)
    End

-- ---- kinds

-- the mark of a kind; no record that is not Other has mark 0
unfoldable pub mark_for : Kind → ℕ
mark_for Module = 0x4D4F
mark_for Requires = 0x5251
mark_for Exports = 0x4558
mark_for Opens = 0x4F50
mark_for Uses = 0x5553
mark_for Provides = 0x5056
mark_for Package = 0x504B
mark_for MainClass = 0x4D43
mark_for Place = 0x504C
mark_for Root = 0x5254
mark_for LimitModules = 0x4C4D
mark_for AddReads = 0x4152
mark_for AddExports = 0x4145
mark_for AddOpens = 0x414F
mark_for Static = 0x5354
mark_for Other = 0

abbrev pub pick_kind : Bool → Kind → Kind → Kind
pick_kind true a b = a
pick_kind false a b = b

-- the kind of a record of a set, by its mark: MO RQ EX OP US PV PK MC PL; any other is Other
unfoldable pub set_kind : ℕ → Kind
set_kind m =
    pick_kind (eqb m 0x4D4F) Module
    (pick_kind (eqb m 0x5251) Requires
    (pick_kind (eqb m 0x4558) Exports
    (pick_kind (eqb m 0x4F50) Opens
    (pick_kind (eqb m 0x5553) Uses
    (pick_kind (eqb m 0x5056) Provides
    (pick_kind (eqb m 0x504B) Package
    (pick_kind (eqb m 0x4D43) MainClass
    (pick_kind (eqb m 0x504C) Place
    Other))))))))

-- of a request: RT LM AR AE AO ST
unfoldable pub request_kind : ℕ → Kind
request_kind m =
    pick_kind (eqb m 0x5254) Root
    (pick_kind (eqb m 0x4C4D) LimitModules
    (pick_kind (eqb m 0x4152) AddReads
    (pick_kind (eqb m 0x4145) AddExports
    (pick_kind (eqb m 0x414F) AddOpens
    (pick_kind (eqb m 0x5354) Static
    Other)))))

-- of package records: PK
unfoldable pub package_kind : ℕ → Kind
package_kind m = pick_kind (eqb m 0x504B) Package Other

-- the kind of a record, by its mark and by what it stands in
unfoldable pub kind_in : Input → ℕ → Kind
kind_in Set m = set_kind m
kind_in Request m = request_kind m
kind_in Packages m = package_kind m

-- MO: flags, automatic (0 or 1), name, version
unfoldable pub is_module : List ℕ → Bool
is_module b = leb (get_or b 2 0) 1 && is_name_version (drop 3 b)

-- RQ: flags, name, version; the name is not ALL-UNNAMED
unfoldable pub is_requires : List ℕ → Bool
is_requires b = not (same_bytes (name_of (drop 2 b)) all_unnamed) && is_name_version (drop 2 b)

-- b is a well-formed body of a record of this kind
unfoldable pub is_body : Kind → List ℕ → Bool
is_body Module b = is_module b
is_body Requires b = is_requires b
is_body Exports b = is_name_list b
is_body Opens b = is_name_list b
is_body Uses b = is_names 1 b
is_body Provides b = is_name_list b
is_body Package b = is_names 1 b
is_body MainClass b = is_names 1 b
is_body Place b = is_names 0 b
is_body Root b = is_names 1 b
is_body LimitModules b = is_list b
is_body AddReads b = is_names 2 b
is_body AddExports b = is_names 3 b
is_body AddOpens b = is_names 3 b
is_body Static b = is_names 0 b
is_body Other b = false

-- ---- the records of one kind

-- r is a record of kind k
unfoldable pub is_of : Kind → List ℕ → Bool
is_of k r = eqb (mark_of r) (mark_for k)

-- the bodies of the records of kind k, front to back
unfoldable pub bodies_in : Kind → List (List ℕ) → List (List ℕ)
bodies_in k [] = []
bodies_in k (r ∷ rs) = cond (is_of k r) (body_of r ∷ bodies_in k rs) (bodies_in k rs)

unfoldable pub bodies : Kind → List ℕ → List (List ℕ)
bodies k s = bodies_in k (records s)

-- what a cursor finds of one kind: where the body stands, and the cursor past it
abbrev pub Next : Type 0
Next = Option Span

abbrev pub pick_next : Bool → Next → Next → Next
pick_next true a b = a
pick_next false a b = b

-- the first record of kind k among those that stand from `at` on
unfoldable pub next_in : Kind → ℕ → List (List ℕ) → Next
next_in k at [] = None
next_in k at (r ∷ rs) = pick_next (is_of k r) (Some (record { start = at + 4; len = length (body_of r); next = record { at = at + length r } })) (next_in k (at + length r) rs)

-- what a cursor at `at` finds of kind k
unfoldable pub next_of : Kind → List ℕ → ℕ → Next
next_of k s at = next_in k at (records (drop at s))

-- record i of kind k among those that stand from `at` on: where it stands
unfoldable pub nth_in : Kind → ℕ → ℕ → List (List ℕ) → Next
nth_in k i at [] = None
nth_in k zero at (r ∷ rs) =
    pick_next (is_of k r) (Some (record { start = at + 4; len = length (body_of r); next = record { at = at + length r } })) (nth_in k zero (at + length r) rs)
nth_in k (suc i) at (r ∷ rs) = pick_next (is_of k r) (nth_in k i (at + length r) rs) (nth_in k (suc i) (at + length r) rs)

unfoldable pub nth_of : Kind → ℕ → List ℕ → Next
nth_of k i s = nth_in k i 0 (records s)

-- ---- the records of one kind that begin with these names

unfoldable pub begins : List (List ℕ) → List ℕ → Bool
begins [] b = true
begins (n ∷ ns) b = same_bytes (name_of b) n && begins ns (after_name b)

-- the first of the records that stand from `at` on, of kind k, that begins with these names
unfoldable pub first_in : Kind → List (List ℕ) → ℕ → List (List ℕ) → Next
first_in k ns at [] = None
first_in k ns at (r ∷ rs) =
    pick_next (is_of k r && begins ns (body_of r)) (Some (record { start = at + 4; len = length (body_of r); next = record { at = at + length r } }))
    (first_in k ns (at + length r) rs)

unfoldable pub first_of : Kind → List (List ℕ) → List ℕ → Next
first_of k ns s = first_in k ns 0 (records s)
