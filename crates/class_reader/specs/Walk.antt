-- The attributes, read front to back up to the first fault (forms of the code).
use Rattle.std.specs.Prelude.{ℕ, zero, suc, ◌+◌, ◌≤◌, ◌≡◌, List, true, cond, ◌&&◌, length, leb, eqb, Option, Some, is_some, is_none, option_and_then, Result, Ok, Err}
use Rattle.records.specs.Bytes.{u16_at}
use Rattle.class_reader.specs.Pool.{is_tag}
use Rattle.class_reader.specs.Entry.{is_entry, table_good, tables_good, module_tables}
use Rattle.class_reader.specs.Attribute.{attribute_end, attribute_at, contents_good, seen_at, see, attribute_good, module_at}
use Rattle.class_reader.specs.Measure.{nothing_measured, measure_entries, measure_table, measure_module}
use Rattle.class_reader.specs.declared.entry.Entry.TheVariants as Entry
use Rattle.class_reader.specs.declared.measure.Measured.{Measured}
use Rattle.class_reader.specs.declared.pool.Fault.{Fault}
use Rattle.class_reader.specs.declared.attribute.Attribute.{Attribute}
use Rattle.class_reader.specs.declared.attribute.Attribute.TheVariants.{Module, ModulePackages, ModuleMainClass, Other}
use Rattle.class_reader.specs.declared.attribute.Seen.{Seen}
use Rattle.class_reader.specs.declared.attribute.Walked.{Walked}

-- what the contents of an attribute measure, from p up to `end`, if they are good; those of any other are skipped
unfoldable pub measure_contents : Attribute → List ℕ → List ℕ → ℕ → ℕ → Option Measured
measure_contents Module f t p end = measure_module f t p
measure_contents ModulePackages f t p end = measure_table Entry.Package f t (nothing_measured p)
measure_contents ModuleMainClass f t p end = measure_entries Entry.MainClass f t 1 (nothing_measured p)
measure_contents Other f t p end = Some (nothing_measured end)

-- the bytes that were measured
abbrev pub size_in : Option Measured → Option ℕ
size_in m = option_and_then (λ x. x.size) m

-- the bytes of the records of Module: `before`, or `size` if this one is Module
unfoldable pub keep : Attribute → Option ℕ → Option ℕ → Option ℕ
keep Module before size = size
keep ModulePackages before size = before
keep ModuleMainClass before size = before
keep Other before size = before

-- no byte read gives more than 130 bytes
unfoldable pub Light : Option ℕ → Type 0
Light size = (n : ℕ) → size ≡ Some n → n ≤ 8519550

-- this attribute is met
abbrev pub met : Attribute → List ℕ → List ℕ → Walked → ℕ → ℕ → Walked
met a f t w at end = record { seen = see a at w.seen; size = keep a w.size (size_in (measure_contents a f t (at + 6) end)) }

-- the attribute from `at` up to `end`, which is a
unfoldable pub walk_named : Attribute → List ℕ → List ℕ → Walked → ℕ → ℕ → Result Walked Fault
walk_named a f t w at end =
    cond (is_none (seen_at a w.seen) && contents_good a f t (at + 6) end) (Ok (met a f t w at end)) (Err (record { at = at }))

-- the attribute at `at`
unfoldable pub walk_one : List ℕ → List ℕ → Walked → ℕ → Result Walked Fault
walk_one f t w at =
    cond (leb (attribute_end f at) (length f) && is_tag 1 f t (u16_at f at))
    (walk_named (attribute_at f t at) f t w at (attribute_end f at))
    (Err (record { at = at }))

-- behind the last attribute
unfoldable pub walk_end : List ℕ → Walked → ℕ → Result Walked Fault
walk_end f w at = cond (eqb at (length f)) (cond (is_some w.seen.descriptor) (Ok w) (Err (record { at = length f }))) (Err (record { at = at }))

-- the bytes of the records of the Module attribute that was met
abbrev pub module_size : List ℕ → List ℕ → Seen → Option ℕ
module_size f t s = size_in (measure_module f t (module_at s))

-- n attributes from `at` on: those of the three that were met and what Module measures, or the first fault
unfoldable pub walk_from : List ℕ → List ℕ → ℕ → Seen → ℕ → Result Walked Fault
walk_from f t zero s at = walk_end f (record { seen = s; size = module_size f t s }) at
walk_from f t (suc n) s at =
    cond (leb (attribute_end f at) (length f) && attribute_good f t s at)
    (walk_from f t n (see (attribute_at f t at) at s) (attribute_end f at))
    (Err (record { at = at }))

-- each of the three stands where it is said to stand, and its contents are good
pub record Readable (f t : List ℕ) (s : Seen) : Type 0 where
  pub some : is_some s.descriptor ≡ true
  pub module_low : module_at s ≤ length f
  pub module_good : is_entry Entry.Module f t (module_at s) ≡ true
  pub tables_are_good : tables_good f t module_tables (module_at s + 6) ≡ true
  pub packages_low : (at : ℕ) → s.packages ≡ Some at → at ≤ length f
  pub packages_good : (at : ℕ) → s.packages ≡ Some at → table_good Entry.Package f t (at + 6) ≡ true
  pub main_low : (at : ℕ) → s.main ≡ Some at → at ≤ length f
  pub main_good : (at : ℕ) → s.main ≡ Some at → is_entry Entry.MainClass f t (at + 6) ≡ true
