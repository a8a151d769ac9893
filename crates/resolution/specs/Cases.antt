-- The sets and requests of document 01's cases 1 to 5 and 10 ("Cases to prove"), as bytes and decoded, and the parts of an answer
-- that they tell.
use Rattle.std.specs.Prelude.{ℕ, Bool, true, false}
use Rattle.std.proofs.Math.Option.{Option}
use mathlib.Core.List.{List, [], ◌∷◌, map, flat_map}
use Rattle.records.specs.Name.{java_base, all_unnamed}
use Rattle.records.specs.Descriptor.{Requirement, Descriptor}
use Rattle.records.specs.Request.{Request}
use Rattle.records.specs.Order.{ordered}
use Rattle.resolution.specs.Lists.{Name, keep}
use Rattle.resolution.specs.Loop.{Result, failed, done}
use Rattle.resolution.specs.Owner.{owner}
use Rattle.resolution.specs.Resolution.{names, State, Refusal}
use Rattle.resolution.specs.Reads.{reads}

-- ---- the answer, in byte order, as the listing tells it

-- the names of the modules resolved
unfoldable pub members_of : Result State Refusal → List Name
members_of (failed r) = []
members_of (done st) = ordered (names st.resolved)

-- each module resolved with the names that it reads
unfoldable pub reads_of : Request → Result State Refusal → List (Name × List Name)
reads_of rq (failed r) = []
reads_of rq (done st) =
    map (λ (n : Name). (n, keep (reads st.resolved rq n) (ordered (all_unnamed ∷ names st.resolved)))) (ordered (names st.resolved))

-- each package of a module resolved, with its owner
unfoldable pub owners_of : Result State Refusal → List (Name × Option Name)
owners_of (failed r) = []
owners_of (done st) = map (λ (p : Name). (p, owner st.resolved p)) (ordered (flat_map (λ (m : Descriptor). m.packages) st.resolved))

-- ---- modules and requests

-- name, requirements, uses, provides, packages
unfoldable pub module_of : Name → List Requirement → List Name → List Name → List Name → Descriptor
module_of n rs us pv pk = record {
  name = n;
  is_open = false;
  is_automatic = false;
  requires = rs;
  exports = [];
  opens = [];
  uses = us;
  provides = pv;
  packages = pk;
  main_class = [];
}

-- not static; transitive or not
unfoldable pub requirement : Name → Bool → Requirement
requirement n t = record { name = n; transitive = t; static = false }

-- roots, and the names in LM; no ST
unfoldable pub request : List Name → Option (List Name) → Request
request r l = record { roots = r; limit = l; add_reads = []; add_exports = []; add_opens = []; has_static = false }

-- "a", "b", "c"
unfoldable pub a : Name
a = 97 ∷ []

unfoldable pub b : Name
b = 98 ∷ []

unfoldable pub c : Name
c = 99 ∷ []

-- "java/lang"
unfoldable pub java_lang : Name
java_lang = 106 ∷ 97 ∷ 118 ∷ 97 ∷ 47 ∷ 108 ∷ 97 ∷ 110 ∷ 103 ∷ []

unfoldable pub base_module : Descriptor
unfolding module_of java_lang
base_module = module_of java_base [] [] [] (java_lang ∷ [])

-- a and b require each other transitively
unfoldable pub cycle : List Descriptor
unfolding base_module module_of requirement a b
cycle = base_module ∷ module_of a (requirement b true ∷ []) [] [] [] ∷ module_of b (requirement a true ∷ []) [] [] [] ∷ []

-- ---- the listing's set

-- "page.core", "page.foot", "page.frames"
unfoldable pub page_core : Name
page_core = 112 ∷ 97 ∷ 103 ∷ 101 ∷ 46 ∷ 99 ∷ 111 ∷ 114 ∷ 101 ∷ []

unfoldable pub page_foot : Name
page_foot = 112 ∷ 97 ∷ 103 ∷ 101 ∷ 46 ∷ 102 ∷ 111 ∷ 111 ∷ 116 ∷ []

unfoldable pub page_frames : Name
page_frames = 112 ∷ 97 ∷ 103 ∷ 101 ∷ 46 ∷ 102 ∷ 114 ∷ 97 ∷ 109 ∷ 101 ∷ 115 ∷ []

-- the service "page/Reader"; the packages "page/foot", "page/frame"
unfoldable pub reader : Name
reader = 112 ∷ 97 ∷ 103 ∷ 101 ∷ 47 ∷ 82 ∷ 101 ∷ 97 ∷ 100 ∷ 101 ∷ 114 ∷ []

unfoldable pub foot_package : Name
foot_package = 112 ∷ 97 ∷ 103 ∷ 101 ∷ 47 ∷ 102 ∷ 111 ∷ 111 ∷ 116 ∷ []

unfoldable pub frame_package : Name
frame_package = 112 ∷ 97 ∷ 103 ∷ 101 ∷ 47 ∷ 102 ∷ 114 ∷ 97 ∷ 109 ∷ 101 ∷ []

unfoldable pub pages : List Descriptor
unfolding base_module module_of requirement page_core page_foot page_frames reader foot_package frame_package
pages =
    base_module
    ∷ module_of page_core (requirement page_frames true ∷ []) (reader ∷ []) [] []
    ∷ module_of page_foot (requirement page_frames false ∷ []) [] (reader ∷ []) (foot_package ∷ [])
    ∷ module_of page_frames [] [] [] (frame_package ∷ [])
    ∷ []

-- ---- the same as bytes

-- java.base (PK java/lang)
unfoldable pub base_set : List ℕ
base_set = 77 ∷ 79 ∷ 0 ∷ 14 ∷ 0 ∷ 0 ∷ 0 ∷ 9 ∷ 106 ∷ 97 ∷ 118 ∷ 97 ∷ 46 ∷ 98 ∷ 97 ∷ 115 ∷ 101 ∷ 0 ∷ 80 ∷ 75 ∷ 0 ∷ 10 ∷ 9 ∷ 106 ∷ 97 ∷ 118 ∷ 97 ∷ 47 ∷ 108 ∷ 97 ∷ 110 ∷ 103 ∷ []

-- the listing's set: java.base (PK java/lang); page.core (RQ transitive page.frames, US page/Reader); page.foot (RQ page.frames,
-- PV page/Reader, PK page/foot); page.frames (PK page/frame)
unfoldable pub listing_set : List ℕ
listing_set = 77 ∷ 79 ∷ 0 ∷ 14 ∷ 0 ∷ 0 ∷ 0 ∷ 9 ∷ 106 ∷ 97 ∷ 118 ∷ 97 ∷ 46 ∷ 98 ∷ 97 ∷ 115 ∷ 101 ∷ 0 ∷ 80 ∷ 75 ∷ 0 ∷ 10 ∷ 9 ∷ 106 ∷ 97 ∷ 118 ∷ 97 ∷ 47 ∷ 108 ∷ 97 ∷ 110 ∷ 103 ∷ 77 ∷ 79 ∷ 0 ∷ 14 ∷ 0 ∷ 0 ∷ 0 ∷ 9 ∷ 112 ∷ 97 ∷ 103 ∷ 101 ∷ 46 ∷ 99 ∷ 111 ∷ 114 ∷ 101 ∷ 0 ∷ 82 ∷ 81 ∷ 0 ∷ 15 ∷ 0 ∷ 32 ∷ 11 ∷ 112 ∷ 97 ∷ 103 ∷ 101 ∷ 46 ∷ 102 ∷ 114 ∷ 97 ∷ 109 ∷ 101 ∷ 115 ∷ 0 ∷ 85 ∷ 83 ∷ 0 ∷ 12 ∷ 11 ∷ 112 ∷ 97 ∷ 103 ∷ 101 ∷ 47 ∷ 82 ∷ 101 ∷ 97 ∷ 100 ∷ 101 ∷ 114 ∷ 77 ∷ 79 ∷ 0 ∷ 14 ∷ 0 ∷ 0 ∷ 0 ∷ 9 ∷ 112 ∷ 97 ∷ 103 ∷ 101 ∷ 46 ∷ 102 ∷ 111 ∷ 111 ∷ 116 ∷ 0 ∷ 82 ∷ 81 ∷ 0 ∷ 15 ∷ 0 ∷ 0 ∷ 11 ∷ 112 ∷ 97 ∷ 103 ∷ 101 ∷ 46 ∷ 102 ∷ 114 ∷ 97 ∷ 109 ∷ 101 ∷ 115 ∷ 0 ∷ 80 ∷ 86 ∷ 0 ∷ 29 ∷ 11 ∷ 112 ∷ 97 ∷ 103 ∷ 101 ∷ 47 ∷ 82 ∷ 101 ∷ 97 ∷ 100 ∷ 101 ∷ 114 ∷ 0 ∷ 1 ∷ 14 ∷ 112 ∷ 97 ∷ 103 ∷ 101 ∷ 47 ∷ 102 ∷ 111 ∷ 111 ∷ 116 ∷ 47 ∷ 73 ∷ 109 ∷ 112 ∷ 108 ∷ 80 ∷ 75 ∷ 0 ∷ 10 ∷ 9 ∷ 112 ∷ 97 ∷ 103 ∷ 101 ∷ 47 ∷ 102 ∷ 111 ∷ 111 ∷ 116 ∷ 77 ∷ 79 ∷ 0 ∷ 16 ∷ 0 ∷ 0 ∷ 0 ∷ 11 ∷ 112 ∷ 97 ∷ 103 ∷ 101 ∷ 46 ∷ 102 ∷ 114 ∷ 97 ∷ 109 ∷ 101 ∷ 115 ∷ 0 ∷ 80 ∷ 75 ∷ 0 ∷ 11 ∷ 10 ∷ 112 ∷ 97 ∷ 103 ∷ 101 ∷ 47 ∷ 102 ∷ 114 ∷ 97 ∷ 109 ∷ 101 ∷ []

unfoldable pub cycle_set : List ℕ
cycle_set = 77 ∷ 79 ∷ 0 ∷ 14 ∷ 0 ∷ 0 ∷ 0 ∷ 9 ∷ 106 ∷ 97 ∷ 118 ∷ 97 ∷ 46 ∷ 98 ∷ 97 ∷ 115 ∷ 101 ∷ 0 ∷ 80 ∷ 75 ∷ 0 ∷ 10 ∷ 9 ∷ 106 ∷ 97 ∷ 118 ∷ 97 ∷ 47 ∷ 108 ∷ 97 ∷ 110 ∷ 103 ∷ 77 ∷ 79 ∷ 0 ∷ 6 ∷ 0 ∷ 0 ∷ 0 ∷ 1 ∷ 97 ∷ 0 ∷ 82 ∷ 81 ∷ 0 ∷ 5 ∷ 0 ∷ 32 ∷ 1 ∷ 98 ∷ 0 ∷ 77 ∷ 79 ∷ 0 ∷ 6 ∷ 0 ∷ 0 ∷ 0 ∷ 1 ∷ 98 ∷ 0 ∷ 82 ∷ 81 ∷ 0 ∷ 5 ∷ 0 ∷ 32 ∷ 1 ∷ 97 ∷ 0 ∷ []

-- RT page.core
unfoldable pub listing_request : List ℕ
listing_request = 82 ∷ 84 ∷ 0 ∷ 10 ∷ 9 ∷ 112 ∷ 97 ∷ 103 ∷ 101 ∷ 46 ∷ 99 ∷ 111 ∷ 114 ∷ 101 ∷ []

-- RT a
unfoldable pub root_a : List ℕ
root_a = 82 ∷ 84 ∷ 0 ∷ 2 ∷ 1 ∷ 97 ∷ []

-- RT a, and LM without names
unfoldable pub root_a_nothing_permitted : List ℕ
root_a_nothing_permitted = 82 ∷ 84 ∷ 0 ∷ 2 ∷ 1 ∷ 97 ∷ 76 ∷ 77 ∷ 0 ∷ 2 ∷ 0 ∷ 0 ∷ []
