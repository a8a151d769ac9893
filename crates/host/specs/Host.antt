-- The replies of the host's functions: what each answer of the library is told as.
use Rattle.std.specs.Prelude.{ℕ, ◌≡◌, List, [], ◌∷◌, cond}
use Rattle.records.specs.Jar.{Written}
use Rattle.records.specs.Set.{CountAnswer}
use Rattle.resolution.specs.Configuration.{member_words}
use Rattle.resolution.specs.Resolve.{ResolveResult}
use Rattle.resolution.specs.Row.{size}
use Rattle.resolution.specs.PackageOwner.{Owner}
use Rattle.resolution.specs.Resolve.{Outcome}
use Rattle.access.specs.Access.{AccessAnswer}
use Rattle.access.specs.declared.access.AccessCheckResult.{AccessCheckResult}
use Rattle.access.specs.declared.access.AccessCheckResult.TheVariants.{Allowed, NotReadable, NotExported, NotOpened}
use Rattle.access.specs.CanRead.{ReadAnswer}
use Rattle.access.specs.ReadGraph.{GraphOutcome}
use Rattle.host.specs.Reply.{Reply, answered, refused, Told}
use Rattle.std.specs.Prelude.{Some, None, Ok, Err}

-- ---- check: the number of modules

unfoldable pub set_reply : CountAnswer → Reply
set_reply (Ok n) = answered (n ∷ [])
set_reply (Err e) = refused e

-- ---- resolve: the number of resolved modules, which is the number of ones in the member words

unfoldable pub outcome_reply : List ℕ → Outcome → Reply
outcome_reply ws (Ok tt) = answered (size (member_words ws) ∷ [])
outcome_reply ws (Err e) = refused e

-- what is told of a result, and the lent words then
pub record Resolved (result : ResolveResult) (after particulars : List ℕ) (r : ℕ) : Type 0 where
  pub reply : Told (outcome_reply result.words result.outcome) particulars r
  pub words : after ≡ result.words

-- ---- questions

unfoldable pub verdict_number : AccessCheckResult → ℕ
verdict_number Allowed = 0
verdict_number NotReadable = 1
verdict_number NotExported = 2
verdict_number NotOpened = 3

unfoldable pub access_reply : AccessAnswer → Reply
access_reply (Ok v) = answered (verdict_number v ∷ [])
access_reply (Err e) = refused e

-- 1 for yes, 0 for no
unfoldable pub read_reply : ReadAnswer → Reply
read_reply (Ok b) = answered (cond b 1 0 ∷ [])
read_reply (Err e) = refused e

-- 1 and the owner's position, or 0
unfoldable pub owner_reply : Owner → Reply
owner_reply (Ok (Some i)) = answered (1 ∷ i ∷ [])
owner_reply (Ok None) = answered (0 ∷ [])
owner_reply (Err e) = refused e

-- ---- rows of the graph: whether ALL-UNNAMED is among them

unfoldable pub graph_reply : GraphOutcome → Reply
graph_reply (Ok g) = answered (cond g.unnamed 1 0 ∷ [])
graph_reply (Err e) = refused e

-- the lent row then: the answer's, or as it was
unfoldable pub row_after : List ℕ → GraphOutcome → List ℕ
row_after before (Ok g) = g.row
row_after before (Err e) = before

-- what is told of an answer g
pub record RowTold (g : GraphOutcome) (before after particulars : List ℕ) (r : ℕ) : Type 0 where
  pub reply : Told (graph_reply g) particulars r
  pub row : after ≡ row_after before g

-- ---- readers: the bytes written

unfoldable pub written_reply : Written → Reply
written_reply (Ok n) = answered (n ∷ [])
written_reply (Err e) = refused e
