-- The entries of the attributes' tables (JVM Specification 4.7.25 to 4.7.27), and the records that they become.
use Rattle.std.specs.Prelude.{ℕ, zero, suc, ◌+◌, ◌*◌, ◌/◌, ◌%◌, List, [], ◌∷◌, ◌++◌, Bool, true, false, ◌&&◌, ◌||◌, not, length, get_or, ltb, leb}
use Rattle.records.specs.Bytes.{same_bytes, u16_at}
use Rattle.records.specs.Name.{all_unnamed}
use Rattle.records.specs.Output.{two_bytes, name_bytes, record_bytes}
use Rattle.records.specs.declared.record.Kind.{Kind}
use Rattle.class_reader.specs.Pool.{has_name, name_at, has_version, version_at}
use Rattle.class_reader.specs.declared.entry.Entry.{Entry}
use Rattle.class_reader.specs.declared.entry.Entry.TheVariants.{Module, Requires, Exports, Opens, Uses, Provides, Package, MainClass}

-- ---- n indices, two bytes each, from p on

-- each is a constant with this tag, with a good name
unfoldable pub names_good : ℕ → List ℕ → List ℕ → ℕ → ℕ → Bool
names_good k f t zero p = true
names_good k f t (suc n) p = has_name k f t (u16_at f p) && names_good k f t n (p + 2)

-- their names
unfoldable pub names_at : List ℕ → List ℕ → ℕ → ℕ → List (List ℕ)
names_at f t zero p = []
names_at f t (suc n) p = name_at f t (u16_at f p) ∷ names_at f t n (p + 2)

-- ---- one entry, at p. It starts with the index of its name

-- the tag of the constant that names it: Class, Module or Package
unfoldable pub name_tag : Entry → ℕ
name_tag Module = 19
name_tag Requires = 19
name_tag Exports = 20
name_tag Opens = 20
name_tag Uses = 7
name_tag Provides = 7
name_tag Package = 20
name_tag MainClass = 7

-- where it ends. Module and Requires: name, flags, version. Exports and Opens: name, flags, count, targets. Provides: name,
-- count, implementations. The others: name
unfoldable pub entry_end : Entry → List ℕ → ℕ → ℕ
entry_end Module f p = p + 6
entry_end Requires f p = p + 6
entry_end Exports f p = p + 6 + 2 * u16_at f (p + 4)
entry_end Opens f p = p + 6 + 2 * u16_at f (p + 4)
entry_end Uses f p = p + 2
entry_end Provides f p = p + 4 + 2 * u16_at f (p + 2)
entry_end Package f p = p + 2
entry_end MainClass f p = p + 2

-- what follows its name is good; and a requirement is not of ALL-UNNAMED
unfoldable pub rest_good : Entry → List ℕ → List ℕ → ℕ → Bool
rest_good Module f t p = has_version f t (u16_at f (p + 4))
rest_good Requires f t p = not (same_bytes (name_at f t (u16_at f p)) all_unnamed) && has_version f t (u16_at f (p + 4))
rest_good Exports f t p = names_good 19 f t (u16_at f (p + 4)) (p + 6)
rest_good Opens f t p = names_good 19 f t (u16_at f (p + 4)) (p + 6)
rest_good Uses f t p = true
rest_good Provides f t p = names_good 7 f t (u16_at f (p + 2)) (p + 4)
rest_good Package f t p = true
rest_good MainClass f t p = true

-- a good entry stands there, within the file
unfoldable pub is_entry : Entry → List ℕ → List ℕ → ℕ → Bool
is_entry e f t p = leb (entry_end e f p) (length f) && (has_name (name_tag e) f t (u16_at f p) && rest_good e f t p)

-- ---- the record that it becomes

unfoldable pub kind_of : Entry → Kind
kind_of Module = Kind.Module
kind_of Requires = Kind.Requires
kind_of Exports = Kind.Exports
kind_of Opens = Kind.Opens
kind_of Uses = Kind.Uses
kind_of Provides = Kind.Provides
kind_of Package = Kind.Package
kind_of MainClass = Kind.MainClass

-- of the high byte of flags, 0x8000 (mandated) and 0x1000 (synthetic)
unfoldable pub high_flags : ℕ → ℕ
high_flags x = x / 128 % 2 * 128 + x / 16 % 2 * 16

-- what stands before the name: of MO the flags with 0x0020 (open), and automatic 0; of RQ the flags with 0x0020 (transitive) and
-- 0x0040 (static)
unfoldable pub prefix_of : Entry → List ℕ → ℕ → List ℕ
prefix_of Module f p = high_flags (get_or f (p + 2) 0) ∷ (get_or f (p + 3) 0 / 32 % 2 * 32) ∷ 0 ∷ []
prefix_of Requires f p = high_flags (get_or f (p + 2) 0) ∷ (get_or f (p + 3) 0 / 32 % 4 * 32) ∷ []
prefix_of Exports f p = []
prefix_of Opens f p = []
prefix_of Uses f p = []
prefix_of Provides f p = []
prefix_of Package f p = []
prefix_of MainClass f p = []

-- names, each with its length byte
unfoldable pub names_bytes : List (List ℕ) → List ℕ
names_bytes [] = []
names_bytes (n ∷ ns) = name_bytes n ++ names_bytes ns

-- a list: its count, and the names of n indices from p on
unfoldable pub list_bytes : List ℕ → List ℕ → ℕ → ℕ → List ℕ
list_bytes f t n p = two_bytes n ++ names_bytes (names_at f t n p)

-- what stands behind the name: a version, a list, or nothing
unfoldable pub suffix_of : Entry → List ℕ → List ℕ → ℕ → List ℕ
suffix_of Module f t p = name_bytes (version_at f t (u16_at f (p + 4)))
suffix_of Requires f t p = name_bytes (version_at f t (u16_at f (p + 4)))
suffix_of Exports f t p = list_bytes f t (u16_at f (p + 4)) (p + 6)
suffix_of Opens f t p = list_bytes f t (u16_at f (p + 4)) (p + 6)
suffix_of Uses f t p = []
suffix_of Provides f t p = list_bytes f t (u16_at f (p + 2)) (p + 4)
suffix_of Package f t p = []
suffix_of MainClass f t p = []

-- a record to be written: its kind and its body
pub record Item : Type 0 where
  pub kind : Kind
  pub body : List ℕ

unfoldable pub entry_body : Entry → List ℕ → List ℕ → ℕ → List ℕ
entry_body e f t p = prefix_of e f p ++ (name_bytes (name_at f t (u16_at f p)) ++ suffix_of e f t p)

unfoldable pub entry_item : Entry → List ℕ → List ℕ → ℕ → Item
entry_item e f t p = record { kind = kind_of e; body = entry_body e f t p }

-- ---- records to be written

unfoldable pub bytes_of : List Item → List ℕ
bytes_of [] = []
bytes_of (i ∷ is) = record_bytes i.kind i.body ++ bytes_of is

-- the body of one of them is over 65,535 bytes
unfoldable pub is_large : List Item → Bool
is_large [] = false
is_large (i ∷ is) = ltb 65535 (length i.body) || is_large is

-- ---- n entries, from p on

unfoldable pub entries_good : Entry → List ℕ → List ℕ → ℕ → ℕ → Bool
entries_good e f t zero p = true
entries_good e f t (suc n) p = is_entry e f t p && entries_good e f t n (entry_end e f p)

unfoldable pub entries_end : Entry → List ℕ → ℕ → ℕ → ℕ
entries_end e f zero p = p
entries_end e f (suc n) p = entries_end e f n (entry_end e f p)

unfoldable pub entries_items : Entry → List ℕ → List ℕ → ℕ → ℕ → List Item
entries_items e f t zero p = []
entries_items e f t (suc n) p = entry_item e f t p ∷ entries_items e f t n (entry_end e f p)

-- ---- a table at p: a count, and that many entries

unfoldable pub table_good : Entry → List ℕ → List ℕ → ℕ → Bool
table_good e f t p = leb (p + 2) (length f) && entries_good e f t (u16_at f p) (p + 2)

unfoldable pub table_end : Entry → List ℕ → ℕ → ℕ
table_end e f p = entries_end e f (u16_at f p) (p + 2)

unfoldable pub table_items : Entry → List ℕ → List ℕ → ℕ → List Item
table_items e f t p = entries_items e f t (u16_at f p) (p + 2)

-- ---- one table for each of these entries, one behind the other

unfoldable pub tables_good : List ℕ → List ℕ → List Entry → ℕ → Bool
tables_good f t [] p = true
tables_good f t (e ∷ es) p = table_good e f t p && tables_good f t es (table_end e f p)

unfoldable pub tables_end : List ℕ → List Entry → ℕ → ℕ
tables_end f [] p = p
tables_end f (e ∷ es) p = tables_end f es (table_end e f p)

unfoldable pub tables_items : List ℕ → List ℕ → List Entry → ℕ → List Item
tables_items f t [] p = []
tables_items f t (e ∷ es) p = table_items e f t p ++ tables_items f t es (table_end e f p)

-- the tables of a Module attribute
unfoldable pub module_tables : List Entry
module_tables = Requires ∷ Exports ∷ Opens ∷ Uses ∷ Provides ∷ []
