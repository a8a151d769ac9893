-- The read edges by positions, as code finds them. Everywhere below, l are the names of the set's modules in order, and ws the
-- positions of the members.
use Rattle.std.specs.Prelude.{◌≡◌, Bool, true, false, not, ◌&&◌, ◌||◌, List, map, ℕ, ◌≤◌, ◌<◌, eqb, take}
use Rattle.std.proofs.Math.Option.{some}
use Rattle.records.specs.Bytes.{same_bytes}
use Rattle.records.specs.Name.{java_base, all_unnamed}
use Rattle.records.specs.Descriptor.{Requirement, Descriptor, descriptor_of}
use Rattle.records.specs.Request.{Read, request_of}
use Rattle.records.specs.Set.{name_at, block_at, modules}
use Rattle.records.specs.Finder.{find_name, pick_found, is_at}
use Rattle.records.specs.Finder.{Found}
use Rattle.resolution.specs.Lists.{Name, Mem, any}
use Rattle.resolution.specs.Resolution.{find}
use Rattle.resolution.specs.Row.{holds}
use Rattle.resolution.specs.Graph.{edge, ninth, unnamed_edge, ReachedFrom}
use Rattle.resolution.specs.Resolve.{member_at, edge_at, unnamed_at}
use Rattle.std.specs.Prelude.{Some, None}

-- the names of the first n modules of the table t of the set s
abbrev pub table_names : List ℕ → List ℕ → ℕ → List Name
table_names s t n = map (name_at s) (take n t)

-- what is found, if it is a member
unfoldable pub member_of : List ℕ → Found → Found
member_of ws (Some i) = pick_found (holds ws i) (Some i) None
member_of ws None = None

-- the name is that of the member at j
unfoldable pub is_named : List Name → List ℕ → Name → ℕ → Bool
unfolding is_at member_of
is_named l ws n j = is_at (member_of ws (find_name l n 0)) j

-- the requirement is of the member at j, and is transitive if only such count
unfoldable pub is_required : List Name → List ℕ → Bool → Requirement → ℕ → Bool
unfolding is_named
is_required l ws only r j = (not only || r.transitive) && is_named l ws r.name j

-- one of these requirements is
unfoldable pub required_at : List Name → List ℕ → Bool → List Requirement → ℕ → Bool
unfolding any is_required
required_at l ws only rs j = any (λ r. is_required l ws only r j) rs

-- "own requirements and java.base (not for itself)"
unfoldable pub direct_at : List Name → List ℕ → Descriptor → ℕ → Bool
unfolding required_at is_named
direct_at l ws m j = required_at l ws false m.requires j || (not (same_bytes m.name java_base) && is_named l ws java_base j)

-- the edge to java.base, which stands at `base`, alone
unfoldable pub base_of : Descriptor → Found → ℕ → Bool
unfolding is_at
base_of m base j = not (same_bytes m.name java_base) && is_at base j

-- the members that m requires transitively, where m is itself a member
unfoldable pub transitive_at : List Name → List ℕ → Bool → Descriptor → ℕ → Bool
unfolding required_at
transitive_at l ws member m j = member && required_at l ws true m.requires j

-- the members that m reads directly, where m is itself a member
unfoldable pub direct_from : List Name → List ℕ → Bool → Descriptor → ℕ → Bool
unfolding direct_at
direct_from l ws member m j = member && direct_at l ws m j

-- a member other than the one at p
unfoldable pub others_at : List ℕ → ℕ → ℕ → Bool
others_at ws p j = holds ws j && not (eqb j p)

-- what the member m at p reads without AR: what the graph g reaches from what it reads directly; all others if it is automatic
pub record MemberReads (l : List Name) (ws : List ℕ) (g : List ℕ) (m : Descriptor) (p : ℕ) (out : ℕ → Bool) : Type 0 where
  pub direct : List ℕ
  pub reached : List ℕ
  pub direct_is : (j : ℕ) → holds direct j ≡ direct_at l ws m j
  pub reached_is : ReachedFrom g direct reached
  pub all : (j : ℕ) → out j ≡ holds reached j || (m.is_automatic && others_at ws p j)

-- what the module at p reads without AR: nothing, where it is no member
pub record ModuleReads (l : List Name) (ws : List ℕ) (g : List ℕ) (m : Descriptor) (p : ℕ) (out : ℕ → Bool) : Type 0 where
  pub member : holds ws p ≡ true → MemberReads l ws g m p out
  pub other : holds ws p ≡ false → (j : ℕ) → out j ≡ false

-- what is found stands below 512
unfoldable pub Below : Found → Type 0
Below (Some i) = i < 512
Below None = Unit {0}

-- the edges from p to the positions that pass
unfoldable pub edges_of : ℕ → (ℕ → Bool) → ℕ → ℕ → Bool
edges_of p pass i j = eqb i p && pass j

-- an AR leads from i to j; from k to ALL-UNNAMED
unfoldable pub edge_from : Found → Found → ℕ → ℕ → Bool
unfolding is_at
edge_from source target i j = is_at source i && is_at target j

unfoldable pub unnamed_from : Found → Name → ℕ → Bool
unfolding is_at
unnamed_from source target k = is_at source k && same_bytes target all_unnamed

-- an AR leads from the member at i to the member at j
unfoldable pub read_at : List Name → List ℕ → List Read → ℕ → ℕ → Bool
unfolding any is_named
read_at l ws ads i j = any (λ a. is_named l ws a.source i && is_named l ws a.target j) ads

-- an AR leads from the member at k to ALL-UNNAMED
unfoldable pub unnamed_in : List Name → List ℕ → List Read → ℕ → Bool
unfolding any is_named
unnamed_in l ws ads k = any (λ a. is_named l ws a.source k && same_bytes a.target all_unnamed) ads

-- ---- what each function leaves

-- `after` is `before` with the positions that pass more
pub record WithMore (before : List ℕ) (more : ℕ → Bool) (after : List ℕ) : Type 0 where
  pub each : (j : ℕ) → holds after j ≡ holds before j || more j

-- ws holds the positions that pass, and no other
pub record Holding (ws : List ℕ) (pass : ℕ → Bool) : Type 0 where
  pub each : (j : ℕ) → holds ws j ≡ pass j

-- `after` is `before` with the edges that pass more
pub record WithEdges (before : List ℕ) (more : ℕ → ℕ → Bool) (after : List ℕ) : Type 0 where
  pub each : (i j : ℕ) → edge after i j ≡ edge before i j || more i j
  pub ninths : (k : ℕ) → ninth after k ≡ ninth before k

-- `after` is `before` with the edges to ALL-UNNAMED that pass more. A ninth word is 0 or 1, where it was
pub record WithUnnamed (before : List ℕ) (more : ℕ → Bool) (after : List ℕ) : Type 0 where
  pub each : (k : ℕ) → unnamed_edge after k ≡ unnamed_edge before k || more k
  pub small : (k : ℕ) → ninth before k ≤ 1 → ninth after k ≤ 1
  pub edges : (i j : ℕ) → edge after i j ≡ edge before i j

-- `after` is `before` where row i has the positions of ws and no other
pub record RowSet (before : List ℕ) (i : ℕ) (ws : List ℕ) (after : List ℕ) : Type 0 where
  pub here : (j : ℕ) → edge after i j ≡ holds ws j
  pub others : (a b : ℕ) → (a ≡ i → ⊥) → edge after a b ≡ edge before a b
  pub ninths : (k : ℕ) → ninth after k ≡ ninth before k

-- g has the transitive requirements between members
pub record TransitiveGraph (s t : List ℕ) (n : ℕ) (ws g : List ℕ) : Type 0 where
  pub each : (i j : ℕ) → edge g i j ≡ transitive_at (table_names s t n) ws (holds ws i) (descriptor_of (block_at s t i)) j

-- each row is what that module reads directly, and no ninth word is set
pub record DirectRows (s t : List ℕ) (n : ℕ) (ws rows : List ℕ) : Type 0 where
  pub each : (i j : ℕ) → edge rows i j ≡ direct_from (table_names s t n) ws (holds ws i) (descriptor_of (block_at s t i)) j
  pub ninths : (k : ℕ) → ninth rows k ≡ 0

-- each row is what that module reads without AR, and no ninth word is set
pub record ReadRows (s t : List ℕ) (n : ℕ) (ws g rows : List ℕ) : Type 0 where
  pub each : (i : ℕ) → ModuleReads (table_names s t n) ws g (descriptor_of (block_at s t i)) i (λ j. edge rows i j)
  pub ninths : (k : ℕ) → ninth rows k ≡ 0

-- one AR: `after` is `before` with its edge more, also where it leads to ALL-UNNAMED
pub record ReadAdded (l : List Name) (ws : List ℕ) (a : Read) (before after : List ℕ) : Type 0 where
  pub edges : (i j : ℕ) → edge after i j ≡ edge before i j || (is_named l ws a.source i && is_named l ws a.target j)
  pub named : (k : ℕ) → unnamed_edge after k ≡ unnamed_edge before k || (is_named l ws a.source k && same_bytes a.target all_unnamed)
  pub small : (k : ℕ) → ninth before k ≤ 1 → ninth after k ≤ 1

-- `after` is `before` with the edges of AR more
pub record ReadsAdded (l : List Name) (ws : List ℕ) (ads : List Read) (before after : List ℕ) : Type 0 where
  pub edges : (i j : ℕ) → edge after i j ≡ edge before i j || read_at l ws ads i j
  pub named : (k : ℕ) → unnamed_edge after k ≡ unnamed_edge before k || unnamed_in l ws ads k
  pub small : (k : ℕ) → ninth before k ≤ 1 → ninth after k ≤ 1

-- ws holds the positions of the modules ms of the set s
pub record Members (s : List Descriptor) (ws : List ℕ) (ms : List Descriptor) : Type 0 where
  pub each : (k : ℕ) → holds ws k ≡ member_at s ms k
  pub sound : (m : Descriptor) → Mem m ms → find m.name s ≡ some m

-- the rows have the read edges of the modules resolved, which ws holds, and no other bit
pub record ReadEdges (s q ws rows : List ℕ) : Type 0 where
  pub edges : (ms : List Descriptor) → Members (modules s) ws ms → (i j : ℕ) → edge rows i j ≡ edge_at (modules s) (request_of q) ms i j
  pub named : (ms : List Descriptor) → Members (modules s) ws ms → (k : ℕ) → unnamed_edge rows k ≡ unnamed_at (modules s) (request_of q) ms k
  pub small : (k : ℕ) → ninth rows k ≤ 1
