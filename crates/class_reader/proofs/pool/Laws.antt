-- An entry of a table of names: where the name of a constant starts, times 65,536, and its length.
use Prim.Native.Nat.{ℕ, ◌+◌, ◌*◌, ◌/◌, ◌%◌, ◌<◌}
use mathlib.Core.Path.{◌≡◌}
use mathlib.Core.List.{List}
use native.Mathlib.Omega.{arith}
use lib.ListN.{get_or}
use Rattle.records.specs.Bytes.{u16_at}
use Rattle.records.specs.Order.{name_in}
use Rattle.class_reader.specs.Pool.{text_at, name_index, name_at}

pub entry_is : (f t : List ℕ) (i n at len : ℕ) → n ≡ name_index f t i → at ≡ get_or t n 0 → len ≡ u16_at f (at + 1) → len < 65536
    → name_in f ((at + 3) * 65536 + len) ≡ name_at f t i
unfolding name_at text_at name_in
entry_is f t i n at len en ea el l =
    let d : ((at + 3) * 65536 + len) / 65536 ≡ at + 3 = omega arith in
    let m : ((at + 3) * 65536 + len) % 65536 ≡ len = omega arith in
    rw (d, m, ← en, ← ea, ← el)
