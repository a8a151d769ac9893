-- The records of the tables and of the packages stand behind an MO and before an MC, with well-formed bodies.
use Prim.Native.Nat.{ℕ, zero, suc, ◌+◌, ◌<◌}
use mathlib.Core.Path.{◌≡◌, refl}
use mathlib.Core.List.{List, [], ◌∷◌, map, append-nil}
use mathlib.Core.Bool.{Bool, true, ◌&&◌}
use lib.ListN.{length, get_or}
use lib.Dec.{leb}
use Rattle.std.proofs.Common.{Option, Some}
use Rattle.records.specs.Bytes.{u16_at}
use Rattle.records.specs.Record.{is_body}
use Rattle.records.specs.Order.{ordered, all_names}
use Rattle.records.specs.Output.{name_bytes}
use Rattle.records.specs.declared.record.Kind.TheVariants as Kind
use Rattle.records.proofs.Logic.{and_left, and_right}
use Rattle.records.proofs.order.Ordered.{ordered-all}
use Rattle.records.proofs.set.Steps.{is_inner}
use Rattle.class_reader.specs.Pool.{is_name_text}
use Rattle.class_reader.specs.Entry.{entry_end, is_entry, kind_of, entry_item, entries_good, entries_items, table_good, table_end, table_items, tables_good, tables_items, module_tables}
use Rattle.class_reader.specs.Attribute.{package_names, package_item, package_items}
use Rattle.class_reader.specs.declared.entry.Entry.{Entry}
use Rattle.class_reader.specs.declared.entry.Entry.TheVariants.{Package}
use Rattle.class_reader.proofs.entry.Bodies.{alone-made, entry-body}
use Rattle.class_reader.proofs.class_file.Passes.{all_inner, inner-append}
use Rattle.class_reader.proofs.class_file.PackageTable.{package_names_lem}

-- ---- tables

unfoldable inner_kinds : List Entry → Bool
inner_kinds [] = true
inner_kinds (e ∷ es) = is_inner (kind_of e) && inner_kinds es

inner-kinds : inner_kinds module_tables ≡ true
unfolding inner_kinds module_tables is_inner kind_of
inner-kinds = refl

module _ (f t : List ℕ) (bytes : (i : ℕ) → get_or f i 0 < 256) where
  entries-inner : (e : Entry) → is_inner (kind_of e) ≡ true → (n p : ℕ) → entries_good e f t n p ≡ true → all_inner (entries_items e f t n p) ≡ true
  unfolding entries_good entries_items entry_item all_inner
  entries-inner e k zero p g = refl
  entries-inner e k (suc n) p g =
      let a : is_entry e f t p ≡ true = and_left (is_entry e f t p) (entries_good e f t n (entry_end e f p)) g in
      rw (k, entry-body e f t p a bytes) (entries-inner e k n (entry_end e f p) (and_right (is_entry e f t p) (entries_good e f t n (entry_end e f p)) g))

  table-inner : (e : Entry) → is_inner (kind_of e) ≡ true → (p : ℕ) → table_good e f t p ≡ true → all_inner (table_items e f t p) ≡ true
  unfolding table_good table_items
  table-inner e k p g =
      entries-inner e k (u16_at f p) (p + 2) (and_right (leb (p + 2) (length f)) (entries_good e f t (u16_at f p) (p + 2)) g)

  tables-inner : (es : List Entry) → inner_kinds es ≡ true → (p : ℕ) → tables_good f t es p ≡ true → all_inner (tables_items f t es p) ≡ true
  unfolding inner_kinds tables_good tables_items all_inner
  tables-inner [] k p g = refl
  tables-inner (e ∷ es) k p g =
      inner-append (table_items e f t p) (tables_items f t es (table_end e f p))
      (table-inner e (and_left (is_inner (kind_of e)) (inner_kinds es) k) p (and_left (table_good e f t p) (tables_good f t es (table_end e f p)) g))
      (tables-inner es (and_right (is_inner (kind_of e)) (inner_kinds es) k) (table_end e f p) (and_right (table_good e f t p) (tables_good f t es (table_end e f p)) g))

  pub module_inner : (p : ℕ) → tables_good f t module_tables p ≡ true → all_inner (tables_items f t module_tables p) ≡ true
  module_inner p g = tables-inner module_tables inner-kinds p g

-- ---- packages

names-inner : (ns : List (List ℕ)) → all_names is_name_text ns ≡ true → all_inner (map package_item ns) ≡ true
unfolding all_names all_inner package_item is_inner is_body
names-inner [] e = refl
names-inner (n ∷ ns) e =
    let m : is_body Kind.Package (name_bytes n) ≡ true = rw append-nil at (alone-made n (and_left (is_name_text n) (all_names is_name_text ns) e)) in
    rw m (names-inner ns (and_right (is_name_text n) (all_names is_name_text ns) e))

pub packages_inner : (f t : List ℕ) (at : Option ℕ) → ((p : ℕ) → at ≡ Some p → table_good Package f t (p + 6) ≡ true) → all_inner (package_items f t at) ≡ true
unfolding package_items
packages_inner f t at g = names-inner (ordered (package_names f t at)) (ordered-all is_name_text (package_names f t at) (package_names_lem f t at g))
