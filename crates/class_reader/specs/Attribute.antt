-- The attributes of a class file (JVM Specification 4.7): where they stand, which are read, and what is at fault in them.
use Rattle.std.specs.Prelude.{ℕ, zero, suc, ◌+◌, ◌*◌, List, [], ◌∷◌, ◌++◌, map, Bool, true, false, cond, ◌&&◌, length, leb, eqb, Option, Some, None, is_some, is_none, unwrap_or}
use Rattle.records.specs.Bytes.{same_bytes, u16_at}
use Rattle.records.specs.Order.{ordered}
use Rattle.records.specs.Output.{name_bytes}
use Rattle.records.specs.declared.record.Kind.TheVariants as Kind
use Rattle.class_reader.specs.Pool.{is_tag, text_at}
use Rattle.class_reader.specs.Entry.{Item, names_at, is_entry, entry_item, table_good, table_end, tables_good, tables_end, tables_items, module_tables}
use Rattle.class_reader.specs.declared.entry.Entry.TheVariants as Entry
use Rattle.class_reader.specs.declared.attribute.Attribute.{Attribute}
use Rattle.class_reader.specs.declared.attribute.Attribute.TheVariants.{Module, ModulePackages, ModuleMainClass, Other}
use Rattle.class_reader.specs.declared.attribute.Seen.{Seen}

-- ---- one attribute, at `at`: an index of its name, a length of four bytes, that many bytes

unfoldable pub attribute_end : List ℕ → ℕ → ℕ
attribute_end f at = at + 6 + (u16_at f (at + 2) * 65536 + u16_at f (at + 4))

-- Module
abbrev pub module_text : List ℕ
module_text = 77 ∷ 111 ∷ 100 ∷ 117 ∷ 108 ∷ 101 ∷ []

-- ModulePackages
abbrev pub packages_text : List ℕ
packages_text = 77 ∷ 111 ∷ 100 ∷ 117 ∷ 108 ∷ 101 ∷ 80 ∷ 97 ∷ 99 ∷ 107 ∷ 97 ∷ 103 ∷ 101 ∷ 115 ∷ []

-- ModuleMainClass
abbrev pub main_class_text : List ℕ
main_class_text = 77 ∷ 111 ∷ 100 ∷ 117 ∷ 108 ∷ 101 ∷ 77 ∷ 97 ∷ 105 ∷ 110 ∷ 67 ∷ 108 ∷ 97 ∷ 115 ∷ 115 ∷ []

abbrev pub pick_attribute : Bool → Attribute → Attribute → Attribute
pick_attribute true a b = a
pick_attribute false a b = b

-- which attribute has this name
unfoldable pub attribute_named : List ℕ → Attribute
attribute_named s =
    pick_attribute (same_bytes s module_text) Module
    (pick_attribute (same_bytes s packages_text) ModulePackages
    (pick_attribute (same_bytes s main_class_text) ModuleMainClass
    Other))

unfoldable pub attribute_at : List ℕ → List ℕ → ℕ → Attribute
attribute_at f t at = attribute_named (text_at f t (u16_at f at))

-- its contents, from p up to `end`, are good and used up exactly; any other attribute is skipped
unfoldable pub contents_good : Attribute → List ℕ → List ℕ → ℕ → ℕ → Bool
contents_good Module f t p end =
    is_entry Entry.Module f t p && (tables_good f t module_tables (p + 6) && eqb (tables_end f module_tables (p + 6)) end)
contents_good ModulePackages f t p end = table_good Entry.Package f t p && eqb (table_end Entry.Package f p) end
contents_good ModuleMainClass f t p end = is_entry Entry.MainClass f t p && eqb (p + 2) end
contents_good Other f t p end = true

-- ---- the ones met: where each of the three stands. A second one is a fault

abbrev pub nothing_seen : Seen
nothing_seen = record { descriptor = None; packages = None; main = None }

unfoldable pub seen_at : Attribute → Seen → Option ℕ
seen_at Module s = s.descriptor
seen_at ModulePackages s = s.packages
seen_at ModuleMainClass s = s.main
seen_at Other s = None

-- the one at `at` is met
unfoldable pub see : Attribute → ℕ → Seen → Seen
see Module at s = record { descriptor = Some at; packages = s.packages; main = s.main }
see ModulePackages at s = record { descriptor = s.descriptor; packages = Some at; main = s.main }
see ModuleMainClass at s = record { descriptor = s.descriptor; packages = s.packages; main = Some at }
see Other at s = s

-- the attribute at `at` is good: its name is a Utf8, it is no second one of the three, its contents are good
unfoldable pub attribute_good : List ℕ → List ℕ → Seen → ℕ → Bool
attribute_good f t s at =
    is_tag 1 f t (u16_at f at)
    && (is_none (seen_at (attribute_at f t at) s) && contents_good (attribute_at f t at) f t (at + 6) (attribute_end f at))

-- ---- n attributes, from `at` on

-- a fault at `at`, where it is not good
unfoldable pub fault_unless : Bool → ℕ → List ℕ
fault_unless good at = cond good [] (at ∷ [])

-- behind the last attribute: the first byte left over, and the file's length where Module is missing
unfoldable pub end_faults : List ℕ → Seen → ℕ → List ℕ
end_faults f s at = fault_unless (eqb at (length f)) at ++ fault_unless (is_some s.descriptor) (length f)

-- the offset of each fault. Behind an attribute that is cut off there is no place for another
unfoldable pub attribute_faults : List ℕ → List ℕ → ℕ → Seen → ℕ → List ℕ
attribute_faults f t zero s at = end_faults f s at
attribute_faults f t (suc n) s at =
    cond (leb (attribute_end f at) (length f))
    (fault_unless (attribute_good f t s at) at ++ attribute_faults f t n (see (attribute_at f t at) at s) (attribute_end f at))
    (at ∷ [])

-- the ones of the three that are met
unfoldable pub seen_from : List ℕ → List ℕ → ℕ → Seen → ℕ → Seen
seen_from f t zero s at = s
seen_from f t (suc n) s at = seen_from f t n (see (attribute_at f t at) at s) (attribute_end f at)

-- ---- the records of the three

unfoldable pub module_items : List ℕ → List ℕ → ℕ → List Item
module_items f t p = entry_item Entry.Module f t p ∷ tables_items f t module_tables (p + 6)

-- the packages of a ModulePackages attribute
unfoldable pub package_names : List ℕ → List ℕ → Option ℕ → List (List ℕ)
package_names f t None = []
package_names f t (Some at) = names_at f t (u16_at f (at + 6)) (at + 8)

-- a PK record
unfoldable pub package_item : List ℕ → Item
package_item n = record { kind = Kind.Package; body = name_bytes n }

-- PK in byte order without repeats
unfoldable pub package_items : List ℕ → List ℕ → Option ℕ → List Item
package_items f t at = map package_item (ordered (package_names f t at))

unfoldable pub main_items : List ℕ → List ℕ → Option ℕ → List Item
main_items f t None = []
main_items f t (Some at) = entry_item Entry.MainClass f t (at + 6) ∷ []

-- where a Module attribute that was met has its contents
abbrev pub module_at : Seen → ℕ
module_at s = unwrap_or s.descriptor 0 + 6

-- the records of a descriptor: MO, RQ, EX, OP, US, PV in file order, PK, MC
unfoldable pub descriptor_items : List ℕ → List ℕ → Seen → List Item
descriptor_items f t s = module_items f t (module_at s) ++ (package_items f t s.packages ++ main_items f t s.main)
