-- The closed sets of demand 3, and what its two halves say of resolution, told by names.
use Rattle.std.specs.Prelude.{◌≡◌, true, List}
use Rattle.std.proofs.Math.Option.{some}
use Rattle.records.specs.Name.{java_base}
use Rattle.records.specs.Descriptor.{Requirement, Descriptor}
use Rattle.records.specs.Request.{Read, Grant, Request, is_permitted}
use Rattle.resolution.specs.Lists.{Name, Mem}
use Rattle.resolution.specs.Resolution.{find, leads}
use Rattle.resolution.specs.Reads as Reads
use Rattle.resolution.specs.Owner.{owner}

-- n is the name of one of these modules
abbrev pub Member : List Descriptor → Name → Type 0
Member ms n = (m : Descriptor) × Mem m ms × (m.name ≡ n)

-- a set of names "that holds java.base, every permitted root and, with each member, its permitted, observable requirements and
-- all permitted, observable providers of services it uses". "The closure leaves static requirements out when ST is missing" (U6)
pub record Closed (s : List Descriptor) (rq : Request) (C : Name → Type 0) : Type 0 where
  pub base : C java_base
  pub root : (n : Name) → Mem n rq.roots → is_permitted rq n ≡ true → C n
  pub requirement : (n : Name) (m : Descriptor) (r : Requirement) (k : Descriptor) → C n → find n s ≡ some m → Mem r m.requires
      → leads rq r ≡ true → is_permitted rq r.name ≡ true → find r.name s ≡ some k → C r.name
  pub provider : (n : Name) (m : Descriptor) (v : Name) (q : Name) (k : Descriptor) → C n → find n s ≡ some m → Mem v m.uses
      → is_permitted rq q ≡ true → find q s ≡ some k → Mem v k.provides → C q

-- "a set of observable modules" that is closed; "and they lie inside every other such set"
pub record Smallest (s : List Descriptor) (rq : Request) (R : Name → Type 0) : Type 1 where
  pub observable : (n : Name) → R n → (m : Descriptor) × (find n s ≡ some m)
  pub closed : Closed s rq R
  pub smallest : (C : Name → Type 0) → Closed s rq C → (n : Name) → R n → C n

-- what holds of the modules resolved: the first half of demand 3; each is the module of its name in the set; no two own a package
pub record Accepted (s : List Descriptor) (rq : Request) (R : List Descriptor) : Type 1 where
  pub members : Smallest s rq (Member R)
  pub sound : (m : Descriptor) → Mem m R → find m.name s ≡ some m
  pub apart : (m k : Descriptor) (p : Name) → Mem m R → Mem k R → Mem p m.packages → Mem p k.packages → m ≡ k

-- "each module observable in the first is so in the second, unaltered, and the second has at least the first's roots, permitted
-- names and overrides"
pub record Wider (s₁ : List Descriptor) (rq₁ : Request) (s₂ : List Descriptor) (rq₂ : Request) : Type 0 where
  pub modules : (n : Name) (m : Descriptor) → find n s₁ ≡ some m → find n s₂ ≡ some m
  pub roots : (n : Name) → Mem n rq₁.roots → Mem n rq₂.roots
  pub permits : (n : Name) → is_permitted rq₁ n ≡ true → is_permitted rq₂ n ≡ true
  pub add_reads : (a : Read) → Mem a rq₁.add_reads → Mem a rq₂.add_reads
  pub add_exports : (a : Grant) → Mem a rq₁.add_exports → Mem a rq₂.add_exports
  pub add_opens : (a : Grant) → Mem a rq₁.add_opens → Mem a rq₂.add_opens
  -- "A grown request may gain ST but not drop it" (U6)
  pub static : rq₁.has_static ≡ true → rq₂.has_static ≡ true

-- "the second has, told by names, every resolved module, read edge and package owner of the first"; and each resolved module of
-- the first is in the second the same module
pub record Kept (rq₁ : Request) (R₁ : List Descriptor) (rq₂ : Request) (R₂ : List Descriptor) : Type 0 where
  pub members : (n : Name) → Member R₁ n → Member R₂ n
  pub found : (n : Name) (m : Descriptor) → find n R₁ ≡ some m → find n R₂ ≡ some m
  pub reads : (x y : Name) → Reads.reads R₁ rq₁ x y ≡ true → Reads.reads R₂ rq₂ x y ≡ true
  pub owners : (p n : Name) → owner R₁ p ≡ some n → owner R₂ p ≡ some n
