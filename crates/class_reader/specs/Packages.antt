-- The packages of a file in byte order without repeats, as a table of entries (forms of the code).
use Rattle.std.specs.Prelude.{ℕ, ◌≤◌, ◌≡◌, List, true, length}
use Rattle.records.specs.Order.{ordered, all_short}
use Rattle.records.specs.Output.{names_in}

-- the first r entries tell these names in byte order without repeats
pub record NamesOrdered (f : List ℕ) (ns : List (List ℕ)) (before after : List ℕ) (r : ℕ) : Type 0 where
  pub names_are : names_in f after r ≡ ordered ns
  pub small : all_short (names_in f after r) ≡ true
  pub long : length after ≡ length before
  pub within : r ≤ length after
