-- Resolution over bytes: a set and a request as byte strings, and the words that a host lends, give an outcome, with document 01's
-- number and particulars on a refusal, and the words of a configuration.
use Rattle.std.specs.Prelude.{ℕ, ◌+◌, Bool, ◌&&◌, List, [], ◌∷◌, ◌++◌, length, get_or, drop}
use Rattle.records.specs.Name.{all_unnamed}
use Rattle.records.specs.Record.{records, nth_in, first_in}
use Rattle.records.specs.Descriptor.{Descriptor}
use Rattle.records.specs.Request.{Request, request_of, check_inputs}
use Rattle.records.specs.Set.{block_at, modules, check_set, count_of, starts_in}
use Rattle.records.specs.declared.error.Input.TheVariants as Input
use Rattle.records.specs.declared.error.ModuleError.{ModuleError}
use Rattle.records.specs.declared.error.ModuleError.TheVariants.{TooLarge, ModuleNotFound, JavaBaseNotFound, SplitPackage}
use Rattle.records.specs.Record.{Next}
use Rattle.records.specs.declared.record.Kind.TheVariants as Kind
use Rattle.records.specs.Set.{CountAnswer}
use Rattle.resolution.specs.Lists.{Name}
use Rattle.resolution.specs.Loop.{Result, failed, done}
use Rattle.resolution.specs.Resolution.{has_module, index_of, QueuedBy, base, root, required, provider, Refusal, module_not_found, java_base_not_found, split_package, ran_out, State}
use Rattle.resolution.specs.Resolution as Resolution
use Rattle.resolution.specs.Reads.{reads}
use Rattle.resolution.specs.Positions.{module_at, is_visible}
use Rattle.resolution.specs.Configuration.{word_count, with_words, words_of}
use Rattle.std.specs.Prelude.{Some, None, Ok, Err, Result as Answer}

-- accepted, or why the set and the request are refused
abbrev pub Outcome : Type 0
Outcome = Answer (Unit {0}) ModuleError

-- ---- refusals 5 to 7 with their particulars

-- where the body of a record starts
unfoldable pub body_start : Next → ℕ
body_start (Some span) = span.start
body_start None = 0

-- where module p starts in the set
unfoldable pub start_in : List ℕ → ℕ → ℕ
start_in s p = get_or (starts_in (check_set s)) p 0

-- its records, by the table
unfoldable pub records_at : List ℕ → ℕ → List (List ℕ)
records_at s p = records (block_at s (starts_in (check_set s)) p)

-- 5: "The name of refusal 5 is handed back as a part of the request or of the set". An RT has the name behind a length byte, an
-- RQ behind two bytes of flags and a length byte. The last two do not occur: an absent java.base is 6, and a provider is a
-- module of the set; `absent-name-is` shows that the bytes told are the absent name.
unfoldable pub absent_of : List ℕ → List ℕ → ℕ → QueuedBy → ModuleError
absent_of s q n (root i) = ModuleNotFound Input.Request (body_start (nth_in Kind.Root i 0 (records q)) + 1) n
absent_of s q n (required p j) = ModuleNotFound Input.Set (body_start (nth_in Kind.Requires j (start_in s p) (records_at s p)) + 3) n
absent_of s q n base = JavaBaseNotFound
absent_of s q n (provider i) = JavaBaseNotFound

-- 7: where the package stands in the second module's first PK of it, and the positions of the owner and of the second module
unfoldable pub split_of : List ℕ → Name → ℕ → ℕ → ModuleError
split_of s n owner second =
    SplitPackage (body_start (first_in Kind.Package (n ∷ []) (start_in s second) (records_at s second)) + 1) (length n) owner second

-- `ran_out` does not occur: `never-out`
unfoldable pub error_of : List ℕ → List ℕ → Refusal → ModuleError
error_of s q (module_not_found n p) = absent_of s q (length n) p
error_of s q java_base_not_found = JavaBaseNotFound
error_of s q (split_package n owner second) = split_of s n (index_of owner (modules s)) (index_of second (modules s))
error_of s q ran_out = TooLarge 0

-- ---- the configuration of the modules resolved

-- of the modules of a set s, where ms are resolved: module k is resolved; module i reads module j; module k reads ALL-UNNAMED. A
-- module that is hidden is none
unfoldable pub member_at : List Descriptor → List Descriptor → ℕ → Bool
unfolding has_module is_visible
member_at s ms k = is_visible s k && has_module ms (module_at s k).name

unfoldable pub edge_at : List Descriptor → Request → List Descriptor → ℕ → ℕ → Bool
unfolding reads is_visible
edge_at s rq ms i j = is_visible s i && (is_visible s j && reads ms rq (module_at s i).name (module_at s j).name)

unfoldable pub unnamed_at : List Descriptor → Request → List Descriptor → ℕ → Bool
unfolding reads is_visible
unnamed_at s rq ms k = is_visible s k && reads ms rq (module_at s k).name all_unnamed

-- its 4,616 words
unfoldable pub configuration_of : List Descriptor → Request → List Descriptor → List ℕ
unfolding words_of member_at edge_at unnamed_at
configuration_of s rq ms = words_of (member_at s ms) (edge_at s rq ms) (unnamed_at s rq ms)

-- ---- the whole

-- the outcome, and the lent words then
pub record ResolveResult : Type 0 where
  pub outcome : Outcome
  pub words : List ℕ

-- "a refusal changes none"
unfoldable pub refused : ModuleError → List ℕ → ResolveResult
refused e ws = record { outcome = Err e; words = ws }

-- "words beyond stay unchanged"
unfoldable pub told : List ℕ → List ℕ → List ℕ → Result State Refusal → ResolveResult
unfolding refused error_of configuration_of
told s q ws (failed r) = refused (error_of s q r) ws
told s q ws (done st) = record { outcome = (Ok tt); words = configuration_of (modules s) (request_of q) st.resolved ++ drop word_count ws }

unfoldable pub answered : List ℕ → List ℕ → List ℕ → CountAnswer → ResolveResult
unfolding refused told
answered s q ws (Err e) = refused e ws
answered s q ws (Ok n) = told s q ws (Resolution.resolve (modules s) (request_of q))

-- the set and the request as bytes, and the lent words: refusals 1 to 3 first, then 4, "before resolution", then 5 to 7 as met
unfoldable pub resolve : List ℕ → List ℕ → List ℕ → ResolveResult
unfolding answered with_words
resolve s q ws = answered s q ws (with_words ws (count_of (check_inputs s q)))
