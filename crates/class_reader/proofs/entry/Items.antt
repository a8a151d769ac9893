-- Records to be written, one group behind another; and an end is never before its start.
use Prim.Native.Nat.{ℕ, zero, suc, ◌+◌, ◌≤◌}
use mathlib.Core.Path.{◌≡◌, refl, sym}
use mathlib.Core.List.{List, [], ◌∷◌, ◌++◌, append_assoc}
use mathlib.Core.Bool.{◌||◌, or_assoc}
use native.Mathlib.Omega.{arith}
use lib.ListN.{length, length-append}
use lib.Dec.{ltb}
use Rattle.records.specs.Bytes.{u16_at}
use Rattle.records.specs.Output.{record_bytes}
use Rattle.class_reader.specs.Entry.{Item, bytes_of, is_large, entry_end, entries_end, table_end}
use Rattle.class_reader.specs.declared.entry.Entry.{Entry}
use Rattle.class_reader.specs.declared.entry.Entry.TheVariants.{Module, Requires, Exports, Opens, Uses, Provides, Package, MainClass}

pub bytes-append : (a b : List Item) → bytes_of (a ++ b) ≡ bytes_of a ++ bytes_of b
unfolding bytes_of
bytes-append [] b = refl
bytes-append (i ∷ a) b =
    rw (bytes-append a b) (sym (append_assoc (record_bytes i.kind i.body) (bytes_of a) (bytes_of b)))

pub bytes-long : (a b : List Item) → length (bytes_of (a ++ b)) ≡ length (bytes_of a) + length (bytes_of b)
bytes-long a b = rw (bytes-append a b, length-append)

pub large_append : (a b : List Item) → is_large (a ++ b) ≡ (is_large a || is_large b)
unfolding is_large
large_append [] b = refl
large_append (i ∷ a) b = rw (large_append a b) (sym (or_assoc (ltb 65535 (length i.body)) (is_large a) (is_large b)))

pub end-behind : (e : Entry) (f : List ℕ) (p : ℕ) → p ≤ entry_end e f p
unfolding entry_end
end-behind Module f p = omega arith
end-behind Requires f p = omega arith
end-behind Exports f p = omega arith
end-behind Opens f p = omega arith
end-behind Uses f p = omega arith
end-behind Provides f p = omega arith
end-behind Package f p = omega arith
end-behind MainClass f p = omega arith

pub entries-behind : (e : Entry) (f : List ℕ) (n p : ℕ) → p ≤ entries_end e f n p
unfolding entries_end
entries-behind e f zero p = omega arith
entries-behind e f (suc n) p = omega (arith, end-behind e f p, entries-behind e f n (entry_end e f p))

pub table-behind : (e : Entry) (f : List ℕ) (p : ℕ) → p + 2 ≤ table_end e f p
unfolding table_end
table-behind e f p = entries-behind e f (u16_at f p) (p + 2)
