-- Demand 3, whole, over bytes and over the words that `resolve` writes (U12). A pair of a set and a request is accepted where `resolve`
-- accepts it with the lent words, which are then enough; its configuration is what `resolve` leaves of them. All is told by names.
use Rattle.std.specs.Prelude.{◌≡◌, true, List, ℕ}
use Rattle.records.specs.Request.{Read, Grant, request_of, is_permitted}
use Rattle.records.specs.Set.{modules}
use Rattle.records.specs.Finder.{visible_blocks}
use Rattle.resolution.specs.Lists.{Name, Mem}
use Rattle.resolution.specs.Closed.{Smallest}
use Rattle.resolution.specs.Resolve.{resolve}
use Rattle.resolution.specs.PackageOwner.{find_module_for_package}
use Rattle.resolution.specs.Positions.{module_at}
use Rattle.access.specs.Access.{is_member, reads_name, is_reflection, check_access}
use Rattle.access.specs.declared.access.AccessKind.{AccessKind}
use Rattle.access.specs.declared.access.AccessCheckResult.TheVariants.{Allowed}
use Rattle.std.specs.Prelude.{Some, Ok}

-- "if accepted": ws are the words that the host lends
abbrev pub IsAccepted : List ℕ → List ℕ → List ℕ → Type 0
IsAccepted s q ws = (resolve s q ws).outcome ≡ Ok tt

-- "the configuration they resolve to": the words that `resolve` writes
abbrev pub configuration : List ℕ → List ℕ → List ℕ → List ℕ
configuration s q ws = (resolve s q ws).words

-- "the modules resolved", by name
abbrev pub Resolved : List ℕ → List ℕ → List ℕ → Name → Type 0
Resolved s q ws n = is_member s (configuration s q ws) n ≡ true

-- the package p is owned by the module n
abbrev pub Owns : List ℕ → List ℕ → List ℕ → Name → Name → Type 0
Owns s q ws n p = (i : ℕ) × (find_module_for_package s (configuration s q ws) p ≡ (Ok (Some i))) × ((module_at (modules s) i).name ≡ n)

-- "of any two accepted requests, each with its set"
pub record Grows (s₁ q₁ s₂ q₂ : List ℕ) : Type 0 where
  -- "each name seen in the first set gives the same module in the second", unaltered
  pub modules : (b : List ℕ) → Mem b (visible_blocks s₁) → Mem b (visible_blocks s₂)
  -- "the second has at least the first's roots"
  pub roots : (n : Name) → Mem n (request_of q₁).roots → Mem n (request_of q₂).roots
  -- "permitted names"
  pub permitted : (n : Name) → is_permitted (request_of q₁) n ≡ true → is_permitted (request_of q₂) n ≡ true
  -- "and overrides": AR, AE, AO
  pub add_reads : (a : Read) → Mem a (request_of q₁).add_reads → Mem a (request_of q₂).add_reads
  pub add_exports : (a : Grant) → Mem a (request_of q₁).add_exports → Mem a (request_of q₂).add_exports
  pub add_opens : (a : Grant) → Mem a (request_of q₁).add_opens → Mem a (request_of q₂).add_opens
  -- "A grown request may gain ST but not drop it" (U6)
  pub static : (request_of q₁).has_static ≡ true → (request_of q₂).has_static ≡ true

-- "the second has, told by names,"
pub record KeepsAll (s₁ q₁ ws₁ s₂ q₂ ws₂ : List ℕ) : Type 0 where
  -- "every resolved module,"
  pub members : (n : Name) → Resolved s₁ q₁ ws₁ n → Resolved s₂ q₂ ws₂ n
  -- "read edge" (to ALL-UNNAMED too)
  pub reads : (x y : Name) → reads_name s₁ (configuration s₁ q₁ ws₁) x y ≡ true → reads_name s₂ (configuration s₂ q₂ ws₂) x y ≡ true
  -- "and package owner of the first;"
  pub owners : (n p : Name) → Owns s₁ q₁ ws₁ n p → Owns s₂ q₂ ws₂ n p
  -- "and every question of any three byte strings, for access or for reflection, that is Allowed in the first is Allowed in the
  -- second"
  pub allowed : (kind : AccessKind) (asker target p : Name) → check_access (is_reflection kind) s₁ q₁ (configuration s₁ q₁ ws₁) asker target p ≡ Ok Allowed
      → check_access (is_reflection kind) s₂ q₂ (configuration s₂ q₂ ws₂) asker target p ≡ Ok Allowed

pub record Demand3 : Type 1 where
  -- "Whatever the set and the request, if accepted: the modules resolved are a set of observable modules that holds java.base,
  -- every permitted root and, with each member, its permitted, observable requirements and all permitted, observable providers of
  -- services it uses; and they lie inside every other such set." (`Closed` and `Smallest` of the crate `resolution`.) "The closure
  -- leaves static requirements out when ST is missing" (U6)
  pub smallest : (s q ws : List ℕ) → IsAccepted s q ws → Smallest (modules s) (request_of q) (Resolved s q ws)
  -- "And of any two accepted requests .."
  pub kept : (s₁ q₁ ws₁ s₂ q₂ ws₂ : List ℕ) → IsAccepted s₁ q₁ ws₁ → IsAccepted s₂ q₂ ws₂ → Grows s₁ q₁ s₂ q₂ → KeepsAll s₁ q₁ ws₁ s₂ q₂ ws₂
