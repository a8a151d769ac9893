-- A number made from a name, for the filter of packages (a form of the code: any number that is made from the bytes alone would do).
use Rattle.std.specs.Prelude.{ℕ, zero, suc, ◌+◌, ◌-◌, ◌*◌, ◌/◌, ◌%◌, List, cond, length, get_or, take, ltb}

-- the four bytes at i as a number, the low byte first; a byte that is not there is 0
unfoldable pub word_at : List ℕ → ℕ → ℕ
word_at s i = get_or s i 0 + get_or s (i + 1) 0 * 256 + get_or s (i + 2) 0 * 65536 + get_or s (i + 3) 0 * 16777216

-- one number of four words
unfoldable pub mixed : ℕ → ℕ → ℕ → ℕ → ℕ
mixed a b c d = a * 1881427 + b * 1364441 + c * 1534951 + d * 1366551

-- one number of the 16 bytes at i
unfoldable pub chunk_at : List ℕ → ℕ → ℕ
chunk_at s i = mixed (word_at s i) (word_at s (i + 4)) (word_at s (i + 8)) (word_at s (i + 12))

-- of a name of fewer than 16 bytes
unfoldable pub short_hash : List ℕ → ℕ
short_hash s = cond (ltb (length s) 8) (mixed (word_at s 0) (word_at s 4) 0 0) (mixed (word_at s 0) (word_at s 4) (word_at s (length s - 8)) (word_at s (length s - 4))) + length s

-- the sum of the length, the last 16 bytes and the first k times 16
unfoldable pub sum_to : List ℕ → ℕ → ℕ
sum_to s zero = chunk_at s (length s - 16) + length s
sum_to s (suc k) = sum_to s k + chunk_at s (16 * k)

-- the sum of those sums up to k, so that the order of the bytes counts
unfoldable pub total_to : List ℕ → ℕ → ℕ
total_to s zero = sum_to s zero
total_to s (suc k) = total_to s k + sum_to s (suc k)

-- of a name of 16 bytes or more
unfoldable pub long_hash : List ℕ → ℕ
long_hash s = total_to s ((length s - 1) / 16)

-- of any name
unfoldable pub hash_in : List ℕ → ℕ
hash_in s = cond (ltb (length s) 16) (short_hash s) (long_hash s) % 4294967291

-- a number made from the first 255 bytes of a name
unfoldable pub hash_of : List ℕ → ℕ
hash_of name = hash_in (take 255 name)
