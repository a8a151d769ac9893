-- Writers of records, for the cases: a set and a request are records one after the other. Each is named by its mark, as in document
-- 01 ("The set and the request"), and writes the bytes that the document says, without the definitions that the cases are of. Bodies
-- and lists are shorter than 256, so the high byte of a length or count is 0.
use Rattle.std.specs.Prelude.{ℕ, length}
use mathlib.Core.List.{List, [], ◌∷◌, ◌++◌, flat_map}
use Rattle.resolution.specs.Lists.{Name}

-- "one length byte (1 to 255), then bytes"; a version is the same, and length 0 means none
unfoldable pub named : Name → List ℕ
named n = length n ∷ n

-- "a two-byte count, then names"
unfoldable pub list : List Name → List ℕ
unfolding named flat_map
list ns = 0 ∷ length ns ∷ flat_map named ns

-- "a two-byte ASCII mark, a two-byte body length, a body"
unfoldable pub marked : ℕ → ℕ → List ℕ → List ℕ
marked x y body = x ∷ y ∷ 0 ∷ length body ∷ body

-- MO: the low byte of its flags, automatic, name; no version
unfoldable pub module_with : ℕ → ℕ → Name → List ℕ
unfolding marked named
module_with flags automatic n = marked 77 79 (0 ∷ flags ∷ automatic ∷ (named n ++ named []))

-- neither open nor automatic; open (0x0020); automatic
unfoldable pub MO : Name → List ℕ
unfolding module_with
MO n = module_with 0 0 n

unfoldable pub MO_open : Name → List ℕ
unfolding module_with
MO_open n = module_with 0x20 0 n

unfoldable pub MO_automatic : Name → List ℕ
unfolding module_with
MO_automatic n = module_with 0 1 n

-- RQ: the two bytes of its flags, name; no version
unfoldable pub requires_with : ℕ → ℕ → Name → List ℕ
unfolding marked named
requires_with high low n = marked 82 81 (high ∷ low ∷ (named n ++ named []))

-- neither transitive nor static; transitive (0x0020); static (0x0040)
unfoldable pub RQ : Name → List ℕ
unfolding requires_with
RQ n = requires_with 0 0 n

unfoldable pub RQ_transitive : Name → List ℕ
unfolding requires_with
RQ_transitive n = requires_with 0 0x20 n

unfoldable pub RQ_static : Name → List ℕ
unfolding requires_with
RQ_static n = requires_with 0 0x40 n

-- EX, OP: "package, list of targets; an empty list means unqualified"
unfoldable pub EX : Name → List Name → List ℕ
unfolding marked named list
EX p ts = marked 69 88 (named p ++ list ts)

unfoldable pub OP : Name → List Name → List ℕ
unfolding marked named list
OP p ts = marked 79 80 (named p ++ list ts)

-- US: service
unfoldable pub US : Name → List ℕ
unfolding marked named
US s = marked 85 83 (named s)

-- PV: service; no implementations
unfoldable pub PV : Name → List ℕ
unfolding marked named list
PV s = marked 80 86 (named s ++ list [])

-- PK: package
unfoldable pub PK : Name → List ℕ
unfolding marked named
PK p = marked 80 75 (named p)

-- MC: main class
unfoldable pub MC : Name → List ℕ
unfolding marked named
MC n = marked 77 67 (named n)

-- PL: the start of a place (U2)
unfoldable pub PL : List ℕ
unfolding marked
PL = marked 80 76 []

-- RT: root
unfoldable pub RT : Name → List ℕ
unfolding marked named
RT n = marked 82 84 (named n)

-- LM: the permitted names
unfoldable pub LM : List Name → List ℕ
unfolding marked list
LM ns = marked 76 77 (list ns)

-- ST: "a record ST with empty body" (U6)
unfoldable pub ST : List ℕ
unfolding marked
ST = marked 83 84 []

-- AR: source, target
unfoldable pub AR : Name → Name → List ℕ
unfolding marked named
AR source target = marked 65 82 (named source ++ named target)

-- AE, AO: source, package, target
unfoldable pub AE : Name → Name → Name → List ℕ
unfolding marked named
AE source p target = marked 65 69 (named source ++ (named p ++ named target))

unfoldable pub AO : Name → Name → Name → List ℕ
unfolding marked named
AO source p target = marked 65 79 (named source ++ (named p ++ named target))
