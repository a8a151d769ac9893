-- A Module attribute that is measured: its records, where it is good.
use Prim.Native.Nat.{ℕ, ◌+◌}
use mathlib.Core.Path.{◌≡◌, refl, sym, ap, ◌∙◌}
use mathlib.Core.List.{List, [], ◌∷◌, ◌++◌}
use mathlib.Core.Bool.{Bool, true, false, cond, ◌&&◌, ◌||◌, and-true}
use native.Mathlib.Omega.{arith}
use lib.ListN.{length}
use Rattle.std.proofs.Common.{Option, Some, None}
use Rattle.std.specs.Option.{option_and_then}
use Rattle.class_reader.specs.Entry.{Item, bytes_of, is_large, is_entry, entry_end, entry_item, entries_good, entries_end, entries_items, table_good, table_end, table_items, tables_good, tables_end, tables_items, module_tables}
use Rattle.class_reader.specs.Attribute.{module_items}
use Rattle.class_reader.specs.Measure.{nothing_measured, with_items, adding, measure_entries, measure_table, measure_tables, measure_module}
use Rattle.class_reader.specs.declared.entry.Entry.{Entry}
use Rattle.class_reader.specs.declared.entry.Entry.TheVariants.{Module}
use Rattle.class_reader.specs.declared.measure.Measured.{Measured}
use Rattle.class_reader.proofs.entry.Items.{bytes-long, large_append}

-- ---- adding

with-none : (size : Option ℕ) → with_items size [] ≡ size
unfolding bytes_of is_large
with-none None = refl
with-none (Some n) = let y : n + 0 ≡ n = omega arith in rw y

with-both : (size : Option ℕ) (a b : List Item) → with_items (with_items size a) b ≡ with_items size (a ++ b)
with-both None a b = refl
with-both (Some n) a b = rw (large_append a b, bytes-long a b) (go (is_large a))
  where
    e : n + length (bytes_of a) + length (bytes_of b) ≡ n + (length (bytes_of a) + length (bytes_of b))
    e = omega arith

    go : (l : Bool) → with_items (cond l None (Some (n + length (bytes_of a)))) b
        ≡ cond (l || is_large b) None (Some (n + (length (bytes_of a) + length (bytes_of b))))
    go true = refl
    go false = rw e

pub adding-none : (m : Measured) → adding m m.next [] ≡ m
unfolding adding
adding-none m = rw (with-none m.size)

pub adding-more : (m : Measured) (n k : ℕ) (a b : List Item) → adding (adding m n a) k b ≡ adding m k (a ++ b)
unfolding adding
adding-more m n k a b = rw (with-both m.size a b)

-- ---- tables

-- a table and those behind it
table-then : (f t : List ℕ) (es : List Entry) (b g : Bool) (m : Measured) (n k : ℕ) (is js : List Item)
    → measure_tables f t es (adding m n is) ≡ cond g (Some (adding (adding m n is) k js)) None
    → option_and_then (measure_tables f t es) (cond b (Some (adding m n is)) None) ≡ cond (b && g) (Some (adding m k (is ++ js))) None
table-then f t es true g m n k is js h = h ∙ ap (λ (x : Measured). cond g (Some x) None) (adding-more m n k is js)
table-then f t es false g m n k is js h = refl

pub measure-tables : (f t : List ℕ) (es : List Entry) (m : Measured)
    → measure_tables f t es m ≡ cond (tables_good f t es m.next) (Some (adding m (tables_end f es m.next) (tables_items f t es m.next))) None
unfolding measure_tables measure_table tables_good tables_end tables_items adding
measure-tables f t [] m = ap (λ (x : Measured). Some x) (sym (adding-none m))
measure-tables f t (e ∷ es) m =
    let n : ℕ = table_end e f m.next in
    let is : List Item = table_items e f t m.next in
    table-then f t es (table_good e f t m.next) (tables_good f t es n) m n (tables_end f es n) is (tables_items f t es n) (measure-tables f t es (adding m n is))

-- ---- the whole attribute

pub measure_module_lem : (f t : List ℕ) (p : ℕ) → measure_module f t p
    ≡ cond (is_entry Module f t p && tables_good f t module_tables (p + 6))
    (Some (adding (nothing_measured p) (tables_end f module_tables (p + 6)) (module_items f t p)))
    None
unfolding measure_module measure_entries entries_good entries_end entries_items entry_end module_items adding
measure_module_lem f t p =
    let is : List Item = entry_item Module f t p ∷ [] in
    rw (and-true (is_entry Module f t p))
    (table-then f t module_tables (is_entry Module f t p) (tables_good f t module_tables (p + 6)) (nothing_measured p) (p + 6) (tables_end f module_tables (p + 6)) is
    (tables_items f t module_tables (p + 6))
    (measure-tables f t module_tables (adding (nothing_measured p) (p + 6) is)))
