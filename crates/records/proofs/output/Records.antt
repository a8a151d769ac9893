-- What is written of the records of an automatic module.
use Prim.Native.Nat.{ℕ, suc, ◌+◌, ◌/◌, ◌%◌, ◌≤◌}
use mathlib.Core.Path.{◌≡◌, refl}
use mathlib.Core.List.{List, [], ◌∷◌, ◌++◌, append_assoc}
use native.Mathlib.Omega.{arith}
use lib.ListN.{length, length-append}
use Rattle.records.specs.Output.{Put, two_bytes, name_bytes, record_bytes, marked, module_record, base_record}
use Rattle.records.specs.Record.{mark_for}

-- ---- one record

-- its first five bytes; len is the length of the body
abbrev pub front : ℕ → ℕ → ℕ → List ℕ
front m len n = (m / 256 % 256) ∷ (m % 256) ∷ (len / 256 % 256) ∷ (len % 256) ∷ n ∷ []

front-is : (m : ℕ) (n end : List ℕ) → marked m n end ≡ front m (1 + length n + length end) (length n) ++ (n ++ end)
unfolding marked two_bytes name_bytes
front-is m n end = let e : suc (length (n ++ end)) ≡ 1 + length n + length end = rw length-append (omega arith) in rw e

pub marked-long : (m : ℕ) (n end : List ℕ) → length (marked m n end) ≡ 5 + length n + length end
marked-long m n end = rw (front-is m n end, length-append n end) (omega arith)

pub record_room : (o n end : List ℕ) (m len at : ℕ) → at + (5 + length n + length end) ≤ length o → at + (length (front m len (length n)) + (length n + length end)) ≤ length o
record_room o n end m len at h = omega (arith, h)

pub record_put : (o n end out : List ℕ) (m at r : ℕ) → Put o at (front m (1 + length n + length end) (length n) ++ (n ++ end)) out r → Put o at (marked m n end) out r
record_put o n end out m at r p = rw (front-is m n end) p

-- ---- MO and RQ java.base

-- the first eight bytes of MO; len is the length of the body
abbrev pub module_front : ℕ → ℕ → List ℕ
module_front len n = 77 ∷ 79 ∷ (len / 256 % 256) ∷ (len % 256) ∷ 0 ∷ 0 ∷ 1 ∷ n ∷ []

-- what stands behind the name: no version, and then RQ, flags 0x8000, java.base, no version
abbrev pub base_bytes : List ℕ
base_bytes = 0 ∷ 82 ∷ 81 ∷ 0 ∷ 13 ∷ 128 ∷ 0 ∷ 9 ∷ 106 ∷ 97 ∷ 118 ∷ 97 ∷ 46 ∷ 98 ∷ 97 ∷ 115 ∷ 101 ∷ 0 ∷ []

base-is : (0 ∷ []) ++ base_record ≡ base_bytes
unfolding base_record record_bytes two_bytes name_bytes mark_for
base-is = refl

module_is : (n : List ℕ) → module_record n ≡ module_front (5 + length n) (length n) ++ (n ++ (0 ∷ []))
unfolding module_record record_bytes mark_for two_bytes name_bytes
module_is n =
    let e : suc (suc (suc (suc (length (n ++ (0 ∷ [])))))) ≡ 5 + length n = rw length-append (omega arith) in
    rw e

both_are : (n : List ℕ) → module_record n ++ base_record ≡ module_front (5 + length n) (length n) ++ (n ++ base_bytes)
both_are n = rw (module_is n, append_assoc n (0 ∷ []) base_record, base-is)

pub both_long : (n : List ℕ) → length (module_record n ++ base_record) ≡ 26 + length n
both_long n = rw (both_are n, length-append n base_bytes) (omega arith)

pub module_room : (o n : List ℕ) (len : ℕ) → 26 + length n ≤ length o → 0 + (length (module_front len (length n)) + (length n + length base_bytes)) ≤ length o
module_room o n len h = omega (arith, h)

pub module_put : (o n out : List ℕ) (r : ℕ) → Put o 0 (module_front (5 + length n) (length n) ++ (n ++ base_bytes)) out r → Put o 0 (module_record n ++ base_record) out r
module_put o n out r p = rw (both_are n) p

pub ruleset put_module_laws = (module_room, module_put)

pub ruleset put_record_laws = (record_room, record_put)
