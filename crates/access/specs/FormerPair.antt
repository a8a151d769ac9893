-- "For each kind the verdicts are those of the former pair" (U8): of `check_access`, which promised `check_access false`, and of
-- `check_reflection_access`, which promised `check_access true`.
use Rattle.std.specs.Prelude.{◌≡◌, true, false, List, ℕ}
use Rattle.resolution.specs.Lists.{Name}
use Rattle.access.specs.Access.{is_reflection, check_access}
use Rattle.access.specs.declared.access.AccessKind.TheVariants.{Access, Reflection}

pub record FormerPair (s q : List ℕ) (c : List ℕ) (asker target p : Name) : Type 0 where
  pub access : check_access (is_reflection Access) s q c asker target p ≡ check_access false s q c asker target p
  pub reflection : check_access (is_reflection Reflection) s q c asker target p ≡ check_access true s q c asker target p
