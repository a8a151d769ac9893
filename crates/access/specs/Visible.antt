-- A set and another, v, that give the same with a request and lent words, told by names. `visible-same` shows it of a set and its visible blocks one
-- after the other (U2).
use Rattle.std.specs.Prelude.{◌≡◌, List, ℕ}
use Rattle.resolution.specs.Lists.{Name}
use Rattle.access.specs.Access.{is_member, reads_name, is_reflection, check_access}
use Rattle.access.specs.Demand3.{IsAccepted, configuration, Owns}
use Rattle.access.specs.declared.access.AccessKind.{AccessKind}

pub record SameByNames (s v q ws : List ℕ) : Type 0 where
  -- accepted both, or neither
  pub accepted : IsAccepted s q ws → IsAccepted v q ws
  pub accepted_back : IsAccepted v q ws → IsAccepted s q ws
  -- and if accepted: the same members, read edges and owners,
  pub members : IsAccepted s q ws → (n : Name) → is_member s (configuration s q ws) n ≡ is_member v (configuration v q ws) n
  pub reads : IsAccepted s q ws → (x y : Name) → reads_name s (configuration s q ws) x y ≡ reads_name v (configuration v q ws) x y
  pub owners : IsAccepted s q ws → (n p : Name) → Owns s q ws n p → Owns v q ws n p
  pub owners_back : IsAccepted s q ws → (n p : Name) → Owns v q ws n p → Owns s q ws n p
  -- and the same answer, of all four, to every question
  pub verdicts : IsAccepted s q ws → (kind : AccessKind) (asker target p : Name)
      → check_access (is_reflection kind) s q (configuration s q ws) asker target p ≡ check_access (is_reflection kind) v q (configuration v q ws) asker target p
