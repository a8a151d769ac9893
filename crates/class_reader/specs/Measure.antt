-- The length of what is to be written, summed up front to back (forms of the code).
use Rattle.std.specs.Prelude.{ℕ, ◌+◌, ◌*◌, ◌≤◌, ◌≡◌, List, [], ◌∷◌, cond, length, Option, Some, None, option_and_then}
use Rattle.class_reader.specs.Entry.{Item, bytes_of, is_large, entries_good, entries_end, entries_items, table_good, table_end, table_items, module_tables}
use Rattle.class_reader.specs.declared.entry.Entry.{Entry}
use Rattle.class_reader.specs.declared.entry.Entry.TheVariants.{Module}
use Rattle.class_reader.specs.declared.measure.Measured.{Measured}

-- nothing yet, with the file read up to here
abbrev pub nothing_measured : ℕ → Measured
nothing_measured next = record { next = next; size = Some 0 }

-- the bytes so far with those of these records: none where the body of one is too long
abbrev pub with_items : Option ℕ → List Item → Option ℕ
with_items None is = None
with_items (Some n) is = cond (is_large is) None (Some (n + length (bytes_of is)))

-- these records too, up to `next`
unfoldable pub adding : Measured → ℕ → List Item → Measured
adding m next is = record { next = next; size = with_items m.size is }

unfoldable pub measure_entries : Entry → List ℕ → List ℕ → ℕ → Measured → Option Measured
measure_entries e f t n m =
    cond (entries_good e f t n m.next) (Some (adding m (entries_end e f n m.next) (entries_items e f t n m.next))) None

unfoldable pub measure_table : Entry → List ℕ → List ℕ → Measured → Option Measured
measure_table e f t m = cond (table_good e f t m.next) (Some (adding m (table_end e f m.next) (table_items e f t m.next))) None

-- nothing is read behind a fault
unfoldable pub measure_tables : List ℕ → List ℕ → List Entry → Measured → Option Measured
measure_tables f t [] m = Some m
measure_tables f t (e ∷ es) m = option_and_then (measure_tables f t es) (measure_table e f t m)

-- the contents of a Module attribute, from p on
unfoldable pub measure_module : List ℕ → List ℕ → ℕ → Option Measured
measure_module f t p = option_and_then (measure_tables f t module_tables) (measure_entries Module f t 1 (nothing_measured p))

-- the place is in the file or at its end, and no byte read gives more than 130 bytes
pub record Small (f : List ℕ) (m : Measured) : Type 0 where
  pub low : m.next ≤ length f
  pub light : (n : ℕ) → m.size ≡ Some n → n ≤ 130 * m.next
