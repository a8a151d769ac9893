-- The read edges of the modules resolved (document 01, "Reads").
use Rattle.std.specs.Prelude.{Bool, false, not, ◌&&◌, ◌||◌, cond}
use Rattle.std.proofs.Math.Option.{Option, none, some}
use mathlib.Core.List.{List, [], ◌∷◌, ◌++◌, map, flat_map}
use Rattle.records.specs.Bytes.{same_bytes}
use Rattle.records.specs.Name.{java_base, all_unnamed, mem_name}
use Rattle.records.specs.Descriptor.{Requirement, Descriptor}
use Rattle.records.specs.Request.{Request, has_read}
use Rattle.resolution.specs.Lists.{Name, keep}
use Rattle.resolution.specs.Reach.{closure}
use Rattle.resolution.specs.Resolution.{find, has_module}

-- "own requirements and java.base (not for itself)"
unfoldable pub direct_reads : Descriptor → List Name
direct_reads m = cond (same_bytes m.name java_base) [] (java_base ∷ []) ++ map (λ (r : Requirement). r.name) m.requires

-- the names of its transitive requirements
unfoldable pub transitive_names : Option Descriptor → List Name
unfolding keep
transitive_names none = []
transitive_names (some m) = map (λ (r : Requirement). r.name) (keep (λ (r : Requirement). r.transitive) m.requires)

-- those of the module of that name, if it is resolved
unfoldable pub transitive_of : List Descriptor → Name → List Name
unfolding transitive_names find
transitive_of ms n = transitive_names (find n ms)

-- every name that one of these modules requires
unfoldable pub required_names : List Descriptor → List Name
unfolding flat_map
required_names ms = flat_map (λ m. map (λ (r : Requirement). r.name) m.requires) ms

-- "then whatever one or more transitive requirements reach from these"
unfoldable pub implied_reads : List Descriptor → Descriptor → List Name
unfolding closure transitive_of required_names direct_reads flat_map
implied_reads ms m = closure (transitive_of ms) (required_names ms) (flat_map (transitive_of ms) (direct_reads m))

-- the module that is the source, where it is resolved. "then AR; an automatic module reads all others. Edges to unresolved names
-- go, ALL-UNNAMED stays."
unfoldable pub reads_from : List Descriptor → Request → Name → Name → Option Descriptor → Bool
unfolding implied_reads direct_reads has_read has_module mem_name
reads_from ms rq x y none = false
reads_from ms rq x y (some m) =
    (has_module ms y || same_bytes y all_unnamed)
    && (mem_name y (direct_reads m)
    || (mem_name y (implied_reads ms m)
    || (has_read rq.add_reads x y
    || (m.is_automatic && (has_module ms y && not (same_bytes x y))))))

-- of the modules resolved, x reads y
unfoldable pub reads : List Descriptor → Request → Name → Name → Bool
unfolding reads_from find
reads ms rq x y = reads_from ms rq x y (find x ms)
