-- `resolve` in the shape of code: the modules resolved, the modules that wait, and the first permitted name that is absent, which
-- ends the queue when it comes up. There is no set of met names: a module is met if it is resolved or waits; an absent name
-- matters only in a round, and there it was met if it is a root, or a requirement that is not static of a module resolved before
-- the rounds. proofs/Short shows that this is `resolve`, refusals included.
use Rattle.std.specs.Prelude.{ℕ, suc, Bool, true, false, not, ◌&&◌, ◌||◌, cond, List, [], ◌∷◌, ◌++◌, map, length}
use Rattle.std.proofs.Math.Option.{Option, none, some}
use Rattle.records.specs.Bytes.{same_bytes}
use Rattle.records.specs.Name.{java_base, mem_name}
use Rattle.records.specs.Descriptor.{Requirement, Descriptor}
use Rattle.records.specs.Request.{Request, is_permitted}
use Rattle.resolution.specs.Lists.{Name, any}
use Rattle.resolution.specs.Loop.{Step, stop, fail, go, Result, failed, done, loop}
use Rattle.resolution.specs.Owner.{owner_in, shared, least}
use Rattle.resolution.specs.Resolution.{find, has_module, index_of, QueuedBy, base, root, required, provider, Refusal, module_not_found, java_base_not_found, split_package, ran_out, Item, State, leads, Choice, pass, add, refuse, choose, name_or_empty, as_requirement, providers, queue_fuel}

-- those that wait, and what ends the queue
pub record Line : Type 0 where
  pub todo : List Descriptor
  pub halt : Option Item

pub record Short : Type 0 where
  pub resolved : List Descriptor
  pub line : Line

unfoldable pub empty : Line
empty = record { todo = []; halt = none }

-- a name comes to the end of the line: after a halt, or not permitted, it changes nothing; an absent one is a halt
unfoldable pub pushed : Option Item → List Descriptor → Bool → Option Descriptor → Item → Line
pushed (some h) todo b o e = record { todo = todo; halt = some h }
pushed none todo false o e = record { todo = todo; halt = none }
pushed none todo true none e = record { todo = todo; halt = some e }
pushed none todo true (some m) e = record { todo = todo ++ (m ∷ []); halt = none }

unfoldable pub push : Line → Bool → Option Descriptor → Item → Line
unfolding pushed
push l b o e = pushed l.halt l.todo b o e

-- the queue of names seen as a line: a name that is not permitted is left out, an absent one ends it
unfoldable pub put : Bool → Option Descriptor → Item → Line → Line
put false o e l = l
put true none e l = record { todo = []; halt = some e }
put true (some m) e l = record { todo = m ∷ l.todo; halt = l.halt }

unfoldable pub line_of : List Descriptor → Request → List Item → Line
unfolding put
line_of s rq [] = empty
line_of s rq (e ∷ q) = put (is_permitted rq e.name) (find e.name s) e (line_of s rq q)

-- the state of `resolve` in the short form
abbrev pub short_of : List Descriptor → Request → State → Short
short_of s rq st = record { resolved = st.resolved; line = line_of s rq st.queue }

-- the name at fault and its record; or the line
pub data Lined : Type 0 where
  fault : Name → QueuedBy → Lined
  lined : Line → Lined

-- met: resolved, waiting, or (in a round) an absent name met before the rounds
unfoldable pub is_met : Bool → (Name → Bool) → List Descriptor → List Descriptor → Line → Name → Bool
is_met in_round old s ms l n = has_module ms n || (has_module l.todo n || (in_round && (not (has_module s n) && old n)))

unfoldable pub short_next : Request → List Descriptor → Choice → Name → QueuedBy → Line → (Line → Lined) → Lined
unfolding push
short_next rq s pass n p l k = k l
short_next rq s add n p l k = k (push l (is_permitted rq n) (find n s) (record { name = n; by = p }))
short_next rq s refuse n p l k = fault n p

-- the requirements in order, from number j on
unfoldable pub short_enqueue : Bool → (Name → Bool) → List Descriptor → Request → (ℕ → QueuedBy) → List Descriptor → List Requirement → ℕ → Line → Lined
unfolding short_next is_met choose leads
short_enqueue in_round old s rq by_of ms [] j l = lined l
short_enqueue in_round old s rq by_of ms (r ∷ rs) j l =
    short_next rq s (choose (leads rq r) in_round (is_met in_round old s ms l r.name) (has_module s r.name) r.static) r.name (by_of j) l
    (λ l₂. short_enqueue in_round old s rq by_of ms rs (suc j) l₂)

unfoldable pub short_handled : List Descriptor → Lined → Step Short Refusal
short_handled ms (fault n p) = fail (module_not_found n p)
short_handled ms (lined l) = go (record { resolved = ms; line = l })

-- m is the next module; the test of its packages gave the first that has another owner, or none
unfoldable pub short_tested : Bool → (Name → Bool) → List Descriptor → Request → List Descriptor → Descriptor → Line → Option Name → Step Short Refusal
unfolding short_handled short_enqueue
short_tested in_round old s rq ms m l (some p) = fail (split_package p (name_or_empty (owner_in ms p)) m.name)
short_tested in_round old s rq ms m l none =
    short_handled (ms ++ (m ∷ [])) (short_enqueue in_round old s rq (required (index_of m.name s)) (ms ++ (m ∷ [])) m.requires 0 l)

-- the modules that wait come first; then the halt refuses
unfoldable pub short_taken : Bool → (Name → Bool) → List Descriptor → Request → List Descriptor → List Descriptor → Option Item → Step Short Refusal
unfolding short_tested
short_taken in_round old s rq ms [] none = stop
short_taken in_round old s rq ms [] (some e) = fail (cond (same_bytes e.name java_base) java_base_not_found (module_not_found e.name e.by))
short_taken in_round old s rq ms (m ∷ q) h = short_tested in_round old s rq ms m (record { todo = q; halt = h }) (least (shared ms m))

unfoldable pub short_turn : Bool → (Name → Bool) → List Descriptor → Request → Short → Step Short Refusal
unfolding short_taken
short_turn in_round old s rq st = short_taken in_round old s rq st.resolved st.line.todo st.line.halt

unfoldable pub short_run : Bool → (Name → Bool) → List Descriptor → Request → Short → Result Short Refusal
unfolding short_turn loop queue_fuel
short_run in_round old s rq st = loop (short_turn in_round old s rq) ran_out (queue_fuel s rq) st

-- the absent names met before the rounds, where ms are the modules resolved before them
unfoldable pub met_before : Request → List Descriptor → Name → Bool
met_before rq ms n = mem_name n rq.roots || any (λ m. any (λ r. not r.static && same_bytes r.name n) m.requires) ms

unfoldable pub never : Name → Bool
never n = false

unfoldable pub short_ran : Result Short Refusal → Step Short Refusal
short_ran (failed a) = fail a
short_ran (done t) = go t

unfoldable pub short_round_from : (Name → Bool) → List Descriptor → Request → List Descriptor → List Descriptor → Option Item → Step Short Refusal
unfolding short_ran short_run
short_round_from old s rq ms [] h = stop
short_round_from old s rq ms (m ∷ q) h = short_ran (short_run true old s rq (record { resolved = ms; line = record { todo = m ∷ q; halt = h } }))

unfoldable pub short_round_on : (Name → Bool) → List Descriptor → Request → List Descriptor → Lined → Step Short Refusal
unfolding short_round_from
short_round_on old s rq ms (fault n p) = fail (module_not_found n p)
short_round_on old s rq ms (lined l) = short_round_from old s rq ms l.todo l.halt

unfoldable pub short_round : (Name → Bool) → List Descriptor → Request → Short → Step Short Refusal
unfolding short_round_on short_enqueue providers empty never
short_round old s rq st =
    short_round_on old s rq st.resolved (short_enqueue false never s rq provider st.resolved (providers s rq st.resolved) 0 empty)

unfoldable pub short_rounds : List Descriptor → Request → Result Short Refusal → Result Short Refusal
unfolding loop short_round met_before
short_rounds s rq (failed a) = failed a
short_rounds s rq (done st) = loop (short_round (met_before rq st.resolved) s rq) ran_out (suc (length s)) st

-- java.base in front unless it is a root
unfoldable pub short_base : Request → List Descriptor → Bool → Line
unfolding push empty
short_base rq s true = empty
short_base rq s false = push empty true (find java_base s) (record { name = java_base; by = base })

unfoldable pub short_started : List Descriptor → Request → Lined → Result Short Refusal
unfolding short_rounds short_run
short_started s rq (fault n p) = failed (module_not_found n p)
short_started s rq (lined l) = short_rounds s rq (short_run false never s rq (record { resolved = []; line = l }))

unfoldable pub short_resolve : List Descriptor → Request → Result Short Refusal
unfolding short_started short_enqueue as_requirement short_base
short_resolve s rq =
    short_started s rq (short_enqueue false never s rq root [] (map as_requirement rq.roots) 0 (short_base rq s (mem_name java_base rq.roots)))
