-- What a configuration says of a position whose module is hidden.
use Rattle.std.specs.Prelude.{◌≡◌, false, List, ℕ}
use Rattle.resolution.specs.Configuration.{member_bit, edge_bit, unnamed_bit}

-- every bit of position k is zero: it is no member, reads nothing, is read by none, and does not read ALL-UNNAMED
pub record AllZero (c : List ℕ) (k : ℕ) : Type 0 where
  pub member : member_bit c k ≡ false
  pub source : (j : ℕ) → edge_bit c k j ≡ false
  pub target : (j : ℕ) → edge_bit c j k ≡ false
  pub unnamed : unnamed_bit c k ≡ false
