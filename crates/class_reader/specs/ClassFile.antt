-- The class file (JVM Specification 4.1; document 01, "Class files"): its faults, its records, and the answer.
use Rattle.std.specs.Prelude.{ℕ, ◌+◌, ◌≡◌, List, [], ◌∷◌, ◌++◌, Bool, cond, ◌&&◌, length, ltb, leb, eqb, Result, Ok, Err}
use Rattle.records.specs.Bytes.{same_bytes, u16_at}
use Rattle.records.specs.Jar.{pick_written, fitted, output_after}
use Rattle.records.specs.declared.error.ModuleError.TheVariants.{TooLarge, DescriptorParseError}
use Rattle.records.specs.Jar.{Written}
use Rattle.class_reader.specs.Pool.{pool_end, pool_of, pool_count, has_name, name_at}
use Rattle.class_reader.specs.Entry.{Item, bytes_of, is_large}
use Rattle.class_reader.specs.Attribute.{nothing_seen, fault_unless, attribute_faults, seen_from, module_at, descriptor_items}
use Rattle.class_reader.specs.declared.pool.Fault.{Fault}
use Rattle.class_reader.specs.declared.attribute.Seen.{Seen}
use Rattle.std.specs.Prelude.{Err}

-- ---- before the pool: magic 0xCAFEBABE, any minor version, major version, the pool's count

unfoldable pub head_good : List ℕ → Bool
head_good f =
    leb 10 (length f)
    && ((eqb (u16_at f 0) 0xCAFE && eqb (u16_at f 2) 0xBABE) && (leb 53 (u16_at f 6) && ltb 0 (pool_count f)))

-- ---- between pool and attributes, from `at` on: access flags, this_class, super_class, the counts of interfaces, fields and
-- methods, and attributes_count

-- module-info
abbrev pub module_info : List ℕ
module_info = 109 ∷ 111 ∷ 100 ∷ 117 ∷ 108 ∷ 101 ∷ 45 ∷ 105 ∷ 110 ∷ 102 ∷ 111 ∷ []

-- this_class is module-info
unfoldable pub is_module_info : List ℕ → List ℕ → ℕ → Bool
is_module_info f t i = has_name 7 f t i && same_bytes (name_at f t i) module_info

unfoldable pub fields_good : List ℕ → List ℕ → ℕ → Bool
fields_good f t at =
    leb (at + 14) (length f)
    && (eqb (u16_at f at) 0x8000
    && (is_module_info f t (u16_at f (at + 2))
    && ((eqb (u16_at f (at + 4)) 0 && eqb (u16_at f (at + 6)) 0) && (eqb (u16_at f (at + 8)) 0 && eqb (u16_at f (at + 10)) 0))))

-- ---- the faults

-- those behind a pool that ends at `at`: at the pool's end, or in the attributes, which stand behind it
unfoldable pub faults_behind : List ℕ → List ℕ → ℕ → List ℕ
faults_behind f t at = cond (fields_good f t at) (attribute_faults f t (u16_at f (at + 12)) nothing_seen (at + 14)) (at ∷ [])

-- those from the pool on. Behind a constant at fault there is no place for another
unfoldable pub faults_from : List ℕ → List ℕ → Result ℕ Fault → List ℕ
faults_from f t (Err fault) = fault.at ∷ []
faults_from f t (Ok at) = faults_behind f t at

-- the offset of each fault of the file: 0 before the pool. What is not looked at, for want of a place, stands behind a fault that is
-- listed, so none of it could be lower
unfoldable pub faults : List ℕ → List ℕ
faults f = fault_unless (head_good f) 0 ++ faults_from f (pool_of f) (pool_end f)

-- the lowest of these offsets
unfoldable pub lowest : ℕ → List ℕ → ℕ
lowest at [] = at
lowest at (x ∷ xs) = lowest (cond (ltb x at) x at) xs

-- ---- the records

-- the attributes met behind a pool that ends at `at`
unfoldable pub seen_behind : List ℕ → List ℕ → ℕ → Seen
seen_behind f t at = seen_from f t (u16_at f (at + 12)) nothing_seen (at + 14)

unfoldable pub items_from : List ℕ → List ℕ → Result ℕ Fault → List Item
items_from f t (Err fault) = []
items_from f t (Ok at) = descriptor_items f t (seen_behind f t at)

-- the records of a file without fault
unfoldable pub items_of : List ℕ → List Item
items_of f = items_from f (pool_of f) (pool_end f)

-- the name of the module
unfoldable pub name_from : List ℕ → List ℕ → Result ℕ Fault → List ℕ
name_from f t (Err fault) = []
name_from f t (Ok at) = name_at f t (u16_at f (module_at (seen_behind f t at)))

unfoldable pub described_name : List ℕ → List ℕ
described_name f = name_from f (pool_of f) (pool_end f)

-- ---- the answer: length (2), the lowest fault (8), a body over 65,535 bytes (2), the output (4)

unfoldable pub sized : ℕ → List Item → Written
sized room is = pick_written (is_large is) (Err (TooLarge 0)) (fitted room (bytes_of is))

unfoldable pub then_faults : List ℕ → Written → Written
then_faults [] w = w
then_faults (at ∷ ats) w = Err (DescriptorParseError (lowest at ats))

unfoldable pub class_answer : List ℕ → ℕ → Written
class_answer f room =
    pick_written (ltb 65535 (length f)) (Err (TooLarge 0)) (then_faults (faults f) (sized room (items_of f)))

-- what the class reader answers, and what it leaves in the output: the records at its front and the bytes past them as they
-- were, or all as it was
pub record ClassRead (f before after : List ℕ) (r : Written) : Type 0 where
  pub answer : r ≡ class_answer f (length before)
  pub output : after ≡ output_after before r (bytes_of (items_of f))
