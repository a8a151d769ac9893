-- What is written, and the room for it (forms of the code).
use Rattle.std.specs.Prelude.{ℕ, ◌+◌, ◌-◌, ◌≤◌, ◌≡◌, List, ◌++◌, false, true, length}
use Rattle.records.specs.Order.{all_short}
use Rattle.records.specs.Output.{written, two_bytes}
use Rattle.class_reader.specs.Entry.{Item, names_at, names_bytes, bytes_of, is_large}

-- there is room at `at` for the names of n indices from p on, which are short
pub record NamesRoom (o : List ℕ) (at : ℕ) (f t : List ℕ) (n p : ℕ) : Type 0 where
  pub few : n ≤ 65535
  pub low : p ≤ 65547
  pub room : at + length (names_bytes (names_at f t n p)) ≤ length o
  pub short : all_short (names_at f t n p) ≡ true

-- there is room at `at` for these records, and no body is too long for its length bytes
pub record Room (o : List ℕ) (at : ℕ) (is : List Item) : Type 0 where
  pub room : at + length (bytes_of is) ≤ length o
  pub fits : is_large is ≡ false

-- a mark was written at `at`, and the length of the body behind it, which ends at `end`
pub record Marked (o : List ℕ) (at mark end : ℕ) (out : List ℕ) (r : ℕ) : Type 0 where
  pub place : r ≡ end
  pub bytes : out ≡ written o at (two_bytes mark ++ two_bytes (end - (at + 4)))

-- these records were written at `at`, up to r, and the file was read up to `next`
pub record PutItems (o : List ℕ) (at : ℕ) (is : List Item) (next : ℕ) (out : List ℕ) (r q : ℕ) : Type 0 where
  pub place : r ≡ at + length (bytes_of is)
  pub behind : q ≡ next
  pub bytes : out ≡ written o at (bytes_of is)
