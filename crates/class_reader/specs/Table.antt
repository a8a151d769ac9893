-- What the table of constants holds (forms of the code).
use Rattle.std.specs.Prelude.{ℕ, ◌-◌, ◌≤◌, ◌≡◌, List, ◌∷◌, false, length, take, Result, Ok}
use Rattle.class_reader.specs.Pool.{pool_from, offsets_from}
use Rattle.class_reader.specs.declared.pool.Fault.{Fault}

-- the pool was read up to r; where it has an end, the first `count` entries tell where its constants stand
pub record Filled (f : List ℕ) (count : ℕ) (before after : List ℕ) (r : Result ℕ Fault) : Type 0 where
  pub answer : r ≡ pool_from f (count - 1) false 10
  pub long : length after ≡ length before
  pub within : (at : ℕ) → r ≡ Ok at → count ≤ length after
  pub low : (at : ℕ) → r ≡ Ok at → at ≤ length f
  pub offsets : (at : ℕ) → r ≡ Ok at → take count after ≡ 0 ∷ offsets_from f (count - 1) false 10
