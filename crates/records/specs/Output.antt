-- What is written: bytes into a lent buffer, and the records of an automatic module (document 01, "Automatic names").
use Rattle.std.specs.Prelude.{ℕ, ◌+◌, ◌*◌, ◌/◌, ◌%◌, ◌≤◌, ◌≡◌, List, [], ◌∷◌, ◌++◌, map, true, length, take, drop}
use Rattle.records.specs.Name.{java_base}
use Rattle.records.specs.Record.{mark_for}
use Rattle.records.specs.Order.{name_in, all_short}
use Rattle.records.specs.declared.record.Kind.{Kind}
use Rattle.records.specs.declared.record.Kind.TheVariants.{Module, Requires, Exports, Opens, Package}

-- ---- a lent buffer

-- the buffer with s written at `at`: the bytes before and behind stay
unfoldable pub written : List ℕ → ℕ → List ℕ → List ℕ
written o at s = take at o ++ (s ++ drop (at + length s) o)

-- s was written at `at`, and r is the place behind it
pub record Put (o : List ℕ) (at : ℕ) (s out : List ℕ) (r : ℕ) : Type 0 where
  pub place : r ≡ at + length s
  pub bytes : out ≡ written o at s

-- ---- records

-- a number as two bytes, the high byte first
unfoldable pub two_bytes : ℕ → List ℕ
two_bytes n = (n / 256 % 256) ∷ (n % 256) ∷ []

unfoldable pub record_bytes : Kind → List ℕ → List ℕ
record_bytes k body = two_bytes (mark_for k) ++ (two_bytes (length body) ++ body)

-- a name with its length byte
unfoldable pub name_bytes : List ℕ → List ℕ
name_bytes n = length n ∷ n

-- a record with this mark, whose body is a name and then `end`
unfoldable pub marked : ℕ → List ℕ → List ℕ → List ℕ
marked m n end = two_bytes m ++ (two_bytes (length (name_bytes n ++ end)) ++ (name_bytes n ++ end))

-- MO: flags 0, automatic 1, the name, no version
unfoldable pub module_record : List ℕ → List ℕ
module_record n = record_bytes Module (0 ∷ 0 ∷ 1 ∷ (name_bytes n ++ (0 ∷ [])))

-- RQ: flags 0x8000, java.base, no version
unfoldable pub base_record : List ℕ
base_record = record_bytes Requires (0x80 ∷ 0 ∷ (name_bytes java_base ++ (0 ∷ [])))

-- a record of this kind for each name: the name, then these bytes
unfoldable pub group : Kind → List ℕ → List (List ℕ) → List ℕ
group k end [] = []
group k end (n ∷ ns) = record_bytes k (name_bytes n ++ end) ++ group k end ns

-- an empty list: an unqualified entry
abbrev pub no_targets : List ℕ
no_targets = 0 ∷ 0 ∷ []

-- MO, RQ java.base, an EX for each package, an OP for each, a PK for each
unfoldable pub automatic_records : List ℕ → List (List ℕ) → List ℕ
automatic_records n ps = module_record n ++ (base_record ++ (group Exports no_targets ps ++ (group Opens no_targets ps ++ group Package [] ps)))

-- what stands behind MO and RQ
unfoldable pub package_records : List (List ℕ) → List ℕ
package_records ps = group Exports no_targets ps ++ (group Opens no_targets ps ++ group Package [] ps)

-- the bytes that the records of these packages take: EX, OP and PK
unfoldable pub packages_size : List (List ℕ) → ℕ
packages_size [] = 0
packages_size (p ∷ ps) = 3 * length p + 19 + packages_size ps

-- ---- the packages of a table

-- the names of its first `count` entries
unfoldable pub names_in : List ℕ → List ℕ → ℕ → List (List ℕ)
names_in s t count = map (name_in s) (take count t)

-- a record with this mark for each name, with e zeros behind the name: an empty list, or nothing
unfoldable pub group_of : ℕ → ℕ → List (List ℕ) → List ℕ
group_of m e [] = []
group_of m e (n ∷ ns) = marked m n (take e no_targets) ++ group_of m e ns

-- there is room at `at` for these records of the table's names, which are short
pub record GroupRoom (o : List ℕ) (at m e : ℕ) (s t : List ℕ) (count : ℕ) : Type 0 where
  pub entries : count ≤ length t
  pub ends : e ≤ 2
  pub room : at + length (group_of m e (names_in s t count)) ≤ length o
  pub short : all_short (names_in s t count) ≡ true

-- the EX and the OP records of these names, all unqualified
unfoldable pub entry_records : List (List ℕ) → List ℕ
entry_records ps = group_of 0x4558 2 ps ++ group_of 0x4F50 2 ps

-- there is room at `at` for the three records of each of the table's names, which are short
pub record PackagesRoom (o : List ℕ) (at : ℕ) (s t : List ℕ) (count : ℕ) : Type 0 where
  pub entries : count ≤ length t
  pub room : at + packages_size (names_in s t count) ≤ length o
  pub short : all_short (names_in s t count) ≡ true
