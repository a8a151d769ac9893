-- Whether a module can read another, over any configuration and any two names.
use Rattle.std.specs.Prelude.{ℕ, ◌||◌, Bool, List}
use Rattle.records.specs.Bytes.{same_bytes}
use Rattle.records.specs.Name.{java_base}
use Rattle.records.specs.Set.{check_set, count_of}
use Rattle.records.specs.Set.{CountAnswer}
use Rattle.resolution.specs.Configuration.{with_words}
use Rattle.resolution.specs.Lists.{Name}
use Rattle.access.specs.Access.{reads_name}
use Rattle.std.specs.Prelude.{Result, Ok, Err}
use Rattle.records.specs.declared.error.ModuleError.{ModuleError}

-- whether one module can read another, or why the set or the words are refused
abbrev pub ReadAnswer : Type 0
ReadAnswer = Result Bool ModuleError

unfoldable pub read_answered : List ℕ → List ℕ → Name → Name → CountAnswer → ReadAnswer
unfolding reads_name
read_answered s c x y (Err e) = Err e
read_answered s c x y (Ok n) = Ok (same_bytes x y || (same_bytes y java_base || reads_name s c x y))

-- a module of the name x can read one of the name y: refusals 1 to 3 of the set first, then 4 for fewer than 4,616 words (U12); then
-- equal names, target java.base or a read edge
unfoldable pub can_read : List ℕ → List ℕ → Name → Name → ReadAnswer
unfolding read_answered with_words
can_read s c x y = read_answered s c x y (with_words c (count_of (check_set s)))
