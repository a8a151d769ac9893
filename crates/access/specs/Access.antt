-- Verdicts (document 01, "Access"), over any words c of a configuration and any three byte strings. Everywhere below `reflection`
-- says which of the two questions is asked; `is_reflection` says it of a kind (U8).
use Rattle.std.specs.Prelude.{ℕ, Bool, true, false, ◌&&◌, ◌||◌, cond, List}
use Rattle.std.proofs.Math.Option.{Option, none, some}
use Rattle.records.specs.Bytes.{same_bytes}
use Rattle.records.specs.Name.{java_base, all_unnamed, mem_name}
use Rattle.records.specs.Descriptor.{Descriptor, Entry, reaches}
use Rattle.records.specs.Request.{Request, Grant, request_of, has_grant, check_inputs}
use Rattle.records.specs.Set.{modules, count_of}
use Rattle.records.specs.Finder.{find_module}
use Rattle.records.specs.Finder.{Found}
use Rattle.records.specs.Set.{CountAnswer}
use Rattle.resolution.specs.Lists.{Name}
use Rattle.resolution.specs.Observed.{has_member, has_edge, has_unnamed_edge}
use Rattle.resolution.specs.Configuration.{with_words}
use Rattle.resolution.specs.Resolution.{find}
use Rattle.access.specs.declared.access.AccessKind.{AccessKind}
use Rattle.access.specs.declared.access.AccessKind.TheVariants.{Access, Reflection}
use Rattle.access.specs.declared.access.AccessCheckResult.{AccessCheckResult}
use Rattle.access.specs.declared.access.AccessCheckResult.TheVariants.{Allowed, NotReadable, NotExported, NotOpened}
use Rattle.std.specs.Prelude.{Some, None, Result, Ok, Err}
use Rattle.records.specs.declared.error.ModuleError.{ModuleError}

-- the verdict, or why the set, the request or the words are refused
abbrev pub AccessAnswer : Type 0
AccessAnswer = Result AccessCheckResult ModuleError

-- ---- what a configuration says of names, by the three tests of the crate `resolution` (`Observed`)

-- what is found passes the test
unfoldable pub passes : (ℕ → Bool) → Found → Bool
passes p (Some i) = p i
passes p None = false

-- the module of this name is a member
unfoldable pub is_member : List ℕ → List ℕ → Name → Bool
unfolding passes has_member
is_member s c n = passes (has_member (modules s) c) (find_module s n)

-- an edge leads from the module at i to y, which may be ALL-UNNAMED
unfoldable pub edge_to : List ℕ → List ℕ → Name → ℕ → Bool
unfolding passes has_edge has_unnamed_edge
edge_to s c y i = passes (has_edge (modules s) c i) (find_module s y) || (same_bytes y all_unnamed && has_unnamed_edge (modules s) c i)

-- the module at i reads y: "an edge counts if its source is a member"
unfoldable pub is_reader : List ℕ → List ℕ → Name → ℕ → Bool
unfolding has_member edge_to
is_reader s c y i = has_member (modules s) c i && edge_to s c y i

-- x reads y
unfoldable pub reads_name : List ℕ → List ℕ → Name → Name → Bool
unfolding passes is_reader
reads_name s c x y = passes (is_reader s c y) (find_module s x)

-- the module of this name, where it is resolved
unfoldable pub resolved_module : List ℕ → List ℕ → Name → Option Descriptor
unfolding is_member find
resolved_module s c n = cond (is_member s c n) (find n (modules s)) none

-- ---- the kind of a question: "an enum of two" (U8)

abbrev pub is_reflection : AccessKind → Bool
is_reflection Access = false
is_reflection Reflection = true

-- ---- what a module grants

-- the entries and the overrides that a question looks at: EX and AE, or OP and AO
unfoldable pub entries_of : Bool → Descriptor → List Entry
entries_of false m = m.exports
entries_of true m = m.opens

unfoldable pub grants_of : Bool → Request → List Grant
grants_of false rq = rq.add_exports
grants_of true rq = rq.add_opens

unfoldable pub denied : Bool → AccessCheckResult
denied false = NotExported
denied true = NotOpened

abbrev pub pick_result : Bool → AccessCheckResult → AccessCheckResult → AccessCheckResult
pick_result true a b = a
pick_result false a b = b

-- "automatic (for reflection also open) decides by its PK; otherwise the first EX (OP) of the package decides alone"
unfoldable pub grants : Bool → Descriptor → Name → Name → Bool
unfolding entries_of
grants reflection m p asker = cond (m.is_automatic || (reflection && m.is_open)) (mem_name p m.packages) (reaches (entries_of reflection m) p asker)

-- the target, where it is resolved
unfoldable pub granted : Bool → Option Descriptor → Name → Name → Bool
unfolding grants
granted reflection none p asker = false
granted reflection (some m) p asker = grants reflection m p asker

-- ---- a named asker

-- "needs a read edge or target java.base, else NotReadable; then an AE (AO) of that package with the target as source and the
-- asker as target allows; then a resolved target"
unfoldable pub named_verdict : Bool → List ℕ → Request → List ℕ → Name → Name → Name → AccessCheckResult
unfolding reads_name grants_of granted resolved_module denied
named_verdict reflection s rq c asker target p =
    pick_result (reads_name s c asker target || same_bytes target java_base)
    (pick_result (has_grant (grants_of reflection rq) target p asker || granted reflection (resolved_module s c target) p asker) Allowed (denied reflection))
    NotReadable

-- ---- asker ALL-UNNAMED

-- "an automatic target decides by PK and no override helps; else an override for ALL-UNNAMED allows, or the package's first entry
-- if unqualified or naming ALL-UNNAMED. For reflection an open module's PK stands in place of its entries."
unfoldable pub unnamed_granted : Bool → Request → Name → Name → Option Descriptor → Bool
unfolding grants grants_of
unnamed_granted reflection rq target p none = false
unnamed_granted reflection rq target p (some m) =
    cond m.is_automatic (mem_name p m.packages) (has_grant (grants_of reflection rq) target p all_unnamed || grants reflection m p all_unnamed)

-- "Asker ALL-UNNAMED reads all; an unresolved target is denied"
unfoldable pub unnamed_verdict : Bool → List ℕ → Request → List ℕ → Name → Name → AccessCheckResult
unfolding unnamed_granted resolved_module denied
unnamed_verdict reflection s rq c target p = pick_result (unnamed_granted reflection rq target p (resolved_module s c target)) Allowed (denied reflection)

-- ---- the verdict

-- "Asker equal to target: Allowed, known or not."
unfoldable pub verdict : Bool → List ℕ → Request → List ℕ → Name → Name → Name → AccessCheckResult
unfolding named_verdict unnamed_verdict
verdict reflection s rq c asker target p =
    pick_result (same_bytes asker target) Allowed
    (pick_result (same_bytes asker all_unnamed) (unnamed_verdict reflection s rq c target p) (named_verdict reflection s rq c asker target p))

unfoldable pub answered : Bool → List ℕ → List ℕ → List ℕ → Name → Name → Name → CountAnswer → AccessAnswer
unfolding verdict
answered reflection s q c asker target p (Err e) = Err e
answered reflection s q c asker target p (Ok n) = Ok (verdict reflection s (request_of q) c asker target p)

-- "Questions take the set and request too and end only with 1 to 3"; "a shorter slice is an output too short, number 4 with 4,616,
-- tested after the records .. in questions too" (U12)
unfoldable pub check_access : Bool → List ℕ → List ℕ → List ℕ → Name → Name → Name → AccessAnswer
unfolding answered with_words
check_access reflection s q c asker target p = answered reflection s q c asker target p (with_words c (count_of (check_inputs s q)))
