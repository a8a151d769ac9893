-- No byte of an entry that is read gives more than 130 bytes.
use Prim.Native.Nat.{ℕ, ◌+◌, ◌*◌, ◌≤◌}
use mathlib.Core.Path.{◌≡◌}
use mathlib.Core.List.{List}
use mathlib.Core.Bool.{true, not, ◌&&◌}
use native.Mathlib.Omega.{arith}
use lib.ListN.{length, length-append}
use lib.Dec.{leb}
use Rattle.records.specs.Bytes.{same_bytes, u16_at}
use Rattle.records.specs.Name.{all_unnamed}
use Rattle.records.specs.Output.{two_bytes, name_bytes}
use Rattle.records.proofs.Logic.{and_left, and_right}
use Rattle.class_reader.specs.Pool.{has_name, name_at, has_version, version_at}
use Rattle.class_reader.specs.Entry.{name_tag, entry_end, rest_good, is_entry, prefix_of, suffix_of, entry_body, names_good, list_bytes}
use Rattle.class_reader.specs.declared.entry.Entry.{Entry}
use Rattle.class_reader.specs.declared.entry.Entry.TheVariants.{Module, Requires, Exports, Opens, Uses, Provides, Package, MainClass}
use Rattle.class_reader.proofs.entry.Names.{name_short, version_short, names-short}

list-long : (k : ℕ) (f t : List ℕ) (n p : ℕ) → names_good k f t n p ≡ true → length (list_bytes f t n p) ≤ 2 + 256 * n
unfolding list_bytes two_bytes
list-long k f t n p h = omega (arith, names-short k f t n p h)

version-long : (f t : List ℕ) (i : ℕ) → has_version f t i ≡ true → length (name_bytes (version_at f t i)) ≤ 256
unfolding name_bytes
version-long f t i h = omega (arith, version_short f t i h)

-- what stands around the name
around : (e : Entry) (f t : List ℕ) (p : ℕ) → rest_good e f t p ≡ true
    → length (prefix_of e f p) + length (suffix_of e f t p) + 260 + 130 * p ≤ 130 * entry_end e f p
unfolding rest_good prefix_of suffix_of entry_end
around Module f t p h = omega (arith, version-long f t (u16_at f (p + 4)) h)
around Requires f t p h =
    omega (arith, version-long f t (u16_at f (p + 4)) (and_right (not (same_bytes (name_at f t (u16_at f p)) all_unnamed)) (has_version f t (u16_at f (p + 4))) h))
around Exports f t p h = omega (arith, list-long 19 f t (u16_at f (p + 4)) (p + 6) h)
around Opens f t p h = omega (arith, list-long 19 f t (u16_at f (p + 4)) (p + 6) h)
around Uses f t p h = omega arith
around Provides f t p h = omega (arith, list-long 7 f t (u16_at f (p + 2)) (p + 4) h)
around Package f t p h = omega arith
around MainClass f t p h = omega arith

pub body_long : (e : Entry) (f t : List ℕ) (p : ℕ)
    → length (entry_body e f t p) ≡ 1 + length (name_at f t (u16_at f p)) + (length (prefix_of e f p) + length (suffix_of e f t p))
unfolding entry_body name_bytes
body_long e f t p = simp length-append (omega arith)

pub entry_small : (e : Entry) (f t : List ℕ) (p : ℕ) → is_entry e f t p ≡ true
    → 4 + length (entry_body e f t p) + 130 * p ≤ 130 * entry_end e f p
unfolding is_entry
entry_small e f t p h =
    let both : (has_name (name_tag e) f t (u16_at f p) && rest_good e f t p) ≡ true =
    and_right (leb (entry_end e f p) (length f)) (has_name (name_tag e) f t (u16_at f p) && rest_good e f t p) h in
    let name : length (name_at f t (u16_at f p)) ≤ 255 =
    name_short (name_tag e) f t (u16_at f p) (and_left (has_name (name_tag e) f t (u16_at f p)) (rest_good e f t p) both) in
    let rest : length (prefix_of e f p) + length (suffix_of e f t p) + 260 + 130 * p ≤ 130 * entry_end e f p =
    around e f t p (and_right (has_name (name_tag e) f t (u16_at f p)) (rest_good e f t p) both) in
    omega (arith, body_long e f t p)
