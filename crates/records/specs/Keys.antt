-- Comparison of two names in byte order, by their first 16 bytes as numbers first.
use Rattle.std.specs.Prelude.{ℕ, zero, suc, ◌+◌, ◌-◌, ◌*◌, ◌%◌, ◌^◌, ◌<◌, ◌≡◌, List, Bool, true, false, length, get_or, drop, ltb}
use Rattle.records.specs.Bytes.{same_bytes, before_bytes}
use Rattle.std.specs.declared.cmp.Ordering.{Ordering}
use Rattle.std.specs.declared.cmp.Ordering.TheVariants.{Less, Equal, Greater}

abbrev pub pick_standing : Bool → Ordering → Ordering → Ordering
pick_standing true a b = a
pick_standing false a b = b

-- how the name m stands to the name n
unfoldable pub standing : List ℕ → List ℕ → Ordering
standing m n = pick_standing (before_bytes m n) Less (pick_standing (same_bytes m n) Equal Greater)

-- ---- bytes as a number

-- the first n bytes as a number, the high byte first, zeros behind the end
unfoldable pub key_to : ℕ → List ℕ → ℕ
key_to zero s = 0
key_to (suc n) s = key_to n s * 256 + get_or s n 0

-- k is the number of the eight bytes at `at`
pub record Key (s : List ℕ) (at k : ℕ) : Type 0 where
  pub is : k ≡ key_to 8 (drop at s)
  pub small : (i : ℕ) → i < 8 → get_or (drop at s) i 0 < 256

-- the next key of a name of n = 9 to 15 bytes, w being the number of its last eight bytes: the last n - 8 of them, and zeros
unfoldable pub ending_of : ℕ → ℕ → ℕ
ending_of w n = (w % 256 ^ (n - 8)) * 256 ^ (16 - n)

-- ---- the keys of a name

-- a and b are the keys of the name, and l is its length
pub record Keys (s : List ℕ) (a b l : ℕ) : Type 0 where
  pub first : Key s 0 a
  pub next : Key s 8 b
  pub long : l ≡ length s

-- how a name with the keys a, b stands to a name with the keys k, j, as far as these tell
unfoldable pub key_standing : ℕ → ℕ → ℕ → ℕ → Ordering
key_standing a b k j =
    pick_standing (ltb a k) Less (pick_standing (ltb k a) Greater (pick_standing (ltb b j) Less (pick_standing (ltb j b) Greater Equal)))

-- the first 16 bytes are the same; a byte that is not there is 0
pub record Alike (a b : List ℕ) : Type 0 where
  pub same : (i : ℕ) → i < 16 → get_or a i 0 ≡ get_or b i 0
