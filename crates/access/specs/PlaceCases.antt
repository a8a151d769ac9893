-- Cases of places that hide one another (U2), of the definitions over bytes, a part of `RuleCases`, which has those of the check.
use Rattle.std.specs.Prelude.{◌≡◌, true, false, List, [], ◌∷◌, ◌++◌, ℕ, take, replicate}
use Rattle.records.specs.Name.{java_base, all_unnamed}
use Rattle.records.specs.Set.{blocks}
use Rattle.resolution.specs.Configuration.{member_words, row_words}
use Rattle.resolution.specs.Lists.{Name, Mem}
use Rattle.resolution.specs.Cases.{a, b, root_a}
use Rattle.resolution.specs.PackageOwner.{find_module_for_package}
use Rattle.access.specs.Access.{is_member, is_reflection, check_access}
use Rattle.access.specs.ReadGraph.{readers_of}
use Rattle.access.specs.Cases.{p, lent, resolved_to}
use Rattle.access.specs.Demand3.{IsAccepted}
use Rattle.access.specs.declared.access.AccessKind.TheVariants.{Access}
use Rattle.access.specs.declared.access.AccessCheckResult.TheVariants.{NotExported}
use Rattle.std.specs.Prelude.{Some, None, Ok}

-- the package q
unfoldable pub q : Name
q = 113 ∷ []

-- java.base; b (PK p); PL; b (PK q, EX q, PV s); a (RQ b, US s): the b at position 2 is hidden by the one at 1
unfoldable pub hidden_set : List ℕ
hidden_set = 77 ∷ 79 ∷ 0 ∷ 14 ∷ 0 ∷ 0 ∷ 0 ∷ 9 ∷ 106 ∷ 97 ∷ 118 ∷ 97 ∷ 46 ∷ 98 ∷ 97 ∷ 115 ∷ 101 ∷ 0 ∷ 77 ∷ 79 ∷ 0 ∷ 6 ∷ 0 ∷ 0 ∷ 0 ∷ 1 ∷ 98 ∷ 0 ∷ 80 ∷ 75 ∷ 0 ∷ 2 ∷ 1 ∷ 112 ∷ 80 ∷ 76 ∷ 0 ∷ 0 ∷ 77 ∷ 79 ∷ 0 ∷ 6 ∷ 0 ∷ 0 ∷ 0 ∷ 1 ∷ 98 ∷ 0 ∷ 80 ∷ 75 ∷ 0 ∷ 2 ∷ 1 ∷ 113 ∷ 69 ∷ 88 ∷ 0 ∷ 4 ∷ 1 ∷ 113 ∷ 0 ∷ 0 ∷ 80 ∷ 86 ∷ 0 ∷ 4 ∷ 1 ∷ 115 ∷ 0 ∷ 0 ∷ 77 ∷ 79 ∷ 0 ∷ 6 ∷ 0 ∷ 0 ∷ 0 ∷ 1 ∷ 97 ∷ 0 ∷ 82 ∷ 81 ∷ 0 ∷ 5 ∷ 0 ∷ 0 ∷ 1 ∷ 98 ∷ 0 ∷ 85 ∷ 83 ∷ 0 ∷ 2 ∷ 1 ∷ 115 ∷ []

-- RT a, AR b ALL-UNNAMED
unfoldable pub hidden_request : List ℕ
hidden_request = 82 ∷ 84 ∷ 0 ∷ 2 ∷ 1 ∷ 97 ∷ 65 ∷ 82 ∷ 0 ∷ 14 ∷ 1 ∷ 98 ∷ 11 ∷ 65 ∷ 76 ∷ 76 ∷ 45 ∷ 85 ∷ 78 ∷ 78 ∷ 65 ∷ 77 ∷ 69 ∷ 68 ∷ []

-- java.base; a (US s); b; PL; b (PV s)
unfoldable pub service_set : List ℕ
service_set = 77 ∷ 79 ∷ 0 ∷ 14 ∷ 0 ∷ 0 ∷ 0 ∷ 9 ∷ 106 ∷ 97 ∷ 118 ∷ 97 ∷ 46 ∷ 98 ∷ 97 ∷ 115 ∷ 101 ∷ 0 ∷ 77 ∷ 79 ∷ 0 ∷ 6 ∷ 0 ∷ 0 ∷ 0 ∷ 1 ∷ 97 ∷ 0 ∷ 85 ∷ 83 ∷ 0 ∷ 2 ∷ 1 ∷ 115 ∷ 77 ∷ 79 ∷ 0 ∷ 6 ∷ 0 ∷ 0 ∷ 0 ∷ 1 ∷ 98 ∷ 0 ∷ 80 ∷ 76 ∷ 0 ∷ 0 ∷ 77 ∷ 79 ∷ 0 ∷ 6 ∷ 0 ∷ 0 ∷ 0 ∷ 1 ∷ 98 ∷ 0 ∷ 80 ∷ 86 ∷ 0 ∷ 4 ∷ 1 ∷ 115 ∷ 0 ∷ 0 ∷ []

-- the same without the b in front
unfoldable pub bound_set : List ℕ
bound_set = 77 ∷ 79 ∷ 0 ∷ 14 ∷ 0 ∷ 0 ∷ 0 ∷ 9 ∷ 106 ∷ 97 ∷ 118 ∷ 97 ∷ 46 ∷ 98 ∷ 97 ∷ 115 ∷ 101 ∷ 0 ∷ 77 ∷ 79 ∷ 0 ∷ 6 ∷ 0 ∷ 0 ∷ 0 ∷ 1 ∷ 97 ∷ 0 ∷ 85 ∷ 83 ∷ 0 ∷ 2 ∷ 1 ∷ 115 ∷ 80 ∷ 76 ∷ 0 ∷ 0 ∷ 77 ∷ 79 ∷ 0 ∷ 6 ∷ 0 ∷ 0 ∷ 0 ∷ 1 ∷ 98 ∷ 0 ∷ 80 ∷ 86 ∷ 0 ∷ 4 ∷ 1 ∷ 115 ∷ 0 ∷ 0 ∷ []

-- java.base; a (RQ b); b (PK p); PL; a (PK p)
unfoldable pub shared_set : List ℕ
shared_set = 77 ∷ 79 ∷ 0 ∷ 14 ∷ 0 ∷ 0 ∷ 0 ∷ 9 ∷ 106 ∷ 97 ∷ 118 ∷ 97 ∷ 46 ∷ 98 ∷ 97 ∷ 115 ∷ 101 ∷ 0 ∷ 77 ∷ 79 ∷ 0 ∷ 6 ∷ 0 ∷ 0 ∷ 0 ∷ 1 ∷ 97 ∷ 0 ∷ 82 ∷ 81 ∷ 0 ∷ 5 ∷ 0 ∷ 0 ∷ 1 ∷ 98 ∷ 0 ∷ 77 ∷ 79 ∷ 0 ∷ 6 ∷ 0 ∷ 0 ∷ 0 ∷ 1 ∷ 98 ∷ 0 ∷ 80 ∷ 75 ∷ 0 ∷ 2 ∷ 1 ∷ 112 ∷ 80 ∷ 76 ∷ 0 ∷ 0 ∷ 77 ∷ 79 ∷ 0 ∷ 6 ∷ 0 ∷ 0 ∷ 0 ∷ 1 ∷ 97 ∷ 0 ∷ 80 ∷ 75 ∷ 0 ∷ 2 ∷ 1 ∷ 112 ∷ []

-- java.base; a (RQ b); b
unfoldable pub own_set : List ℕ
own_set = 77 ∷ 79 ∷ 0 ∷ 14 ∷ 0 ∷ 0 ∷ 0 ∷ 9 ∷ 106 ∷ 97 ∷ 118 ∷ 97 ∷ 46 ∷ 98 ∷ 97 ∷ 115 ∷ 101 ∷ 0 ∷ 77 ∷ 79 ∷ 0 ∷ 6 ∷ 0 ∷ 0 ∷ 0 ∷ 1 ∷ 97 ∷ 0 ∷ 82 ∷ 81 ∷ 0 ∷ 5 ∷ 0 ∷ 0 ∷ 1 ∷ 98 ∷ 0 ∷ 77 ∷ 79 ∷ 0 ∷ 6 ∷ 0 ∷ 0 ∷ 0 ∷ 1 ∷ 98 ∷ 0 ∷ []

-- a; PL; the set before
unfoldable pub front_set : List ℕ
front_set = 77 ∷ 79 ∷ 0 ∷ 6 ∷ 0 ∷ 0 ∷ 0 ∷ 1 ∷ 97 ∷ 0 ∷ 80 ∷ 76 ∷ 0 ∷ 0 ∷ 77 ∷ 79 ∷ 0 ∷ 14 ∷ 0 ∷ 0 ∷ 0 ∷ 9 ∷ 106 ∷ 97 ∷ 118 ∷ 97 ∷ 46 ∷ 98 ∷ 97 ∷ 115 ∷ 101 ∷ 0 ∷ 77 ∷ 79 ∷ 0 ∷ 6 ∷ 0 ∷ 0 ∷ 0 ∷ 1 ∷ 97 ∷ 0 ∷ 82 ∷ 81 ∷ 0 ∷ 5 ∷ 0 ∷ 0 ∷ 1 ∷ 98 ∷ 0 ∷ 77 ∷ 79 ∷ 0 ∷ 6 ∷ 0 ∷ 0 ∷ 0 ∷ 1 ∷ 98 ∷ 0 ∷ []

-- a configuration with bits at the hidden position 2 of hidden_set, and at no other: a member that reads java.base and ALL-UNNAMED
unfoldable pub hidden_alone : List ℕ
hidden_alone = (4 ∷ replicate 7 0) ++ replicate 18 0 ++ (1 ∷ replicate 7 0) ++ (1 ∷ replicate 4581 0)

pub record PlaceCases : Type 0 where
  -- a hidden module between two members: its bits are zero, in the members and in its nine words
  pub between : IsAccepted hidden_set hidden_request lent
  pub between_members : member_words (resolved_to hidden_set hidden_request) ≡ 11 ∷ 0 ∷ 0 ∷ 0 ∷ 0 ∷ 0 ∷ 0 ∷ 0 ∷ []
  pub between_rows : take 36 (row_words (resolved_to hidden_set hidden_request)) ≡ 0 ∷ 0 ∷ 0 ∷ 0 ∷ 0 ∷ 0 ∷ 0 ∷ 0 ∷ 0 ∷ 1 ∷ 0 ∷ 0 ∷ 0 ∷ 0 ∷ 0 ∷ 0 ∷ 0 ∷ 1 ∷ 0 ∷ 0 ∷ 0 ∷ 0 ∷ 0 ∷ 0 ∷ 0 ∷ 0 ∷ 0 ∷ 3 ∷ 0 ∷ 0 ∷ 0 ∷ 0 ∷ 0 ∷ 0 ∷ 0 ∷ 0 ∷ []
  -- its package has no owner, and its EX grants nothing
  pub seen_owner : find_module_for_package hidden_set (resolved_to hidden_set hidden_request) p ≡ (Ok (Some 1))
  pub hidden_owner : find_module_for_package hidden_set (resolved_to hidden_set hidden_request) q ≡ (Ok None)
  pub hidden_export : check_access (is_reflection Access) hidden_set hidden_request (resolved_to hidden_set hidden_request) a b q ≡ Ok NotExported
  -- over a configuration that has its bits, it is no owner and no reader (`Agree` has this for any configuration)
  pub alone_owner : find_module_for_package hidden_set hidden_alone q ≡ (Ok None)
  pub alone_readers : readers_of hidden_set hidden_alone java_base ≡ Ok (record { row = replicate 8 0; unnamed = false })
  pub alone_unnamed : readers_of hidden_set hidden_alone all_unnamed ≡ Ok (record { row = replicate 8 0; unnamed = false })
  -- its service is not provided, and is where nothing hides it
  pub service_hidden : member_words (resolved_to service_set root_a) ≡ 3 ∷ 0 ∷ 0 ∷ 0 ∷ 0 ∷ 0 ∷ 0 ∷ 0 ∷ []
  pub service_bound : member_words (resolved_to bound_set root_a) ≡ 7 ∷ 0 ∷ 0 ∷ 0 ∷ 0 ∷ 0 ∷ 0 ∷ 0 ∷ []
  -- its package does not count for 7
  pub package_hidden : IsAccepted shared_set root_a lent
  -- "each name seen in the first set gives the same module in the second" speaks of the modules that are seen: every block of
  -- own_set is a block of front_set, and b, resolved in the first, is lost in the second
  pub blocks_kept : (x : List ℕ) → Mem x (blocks own_set) → Mem x (blocks front_set)
  pub own : IsAccepted own_set root_a lent
  pub front : IsAccepted front_set root_a lent
  pub own_member : is_member own_set (resolved_to own_set root_a) b ≡ true
  pub front_lost : is_member front_set (resolved_to front_set root_a) b ≡ false
