-- The name of an automatic module, by document 01's "Automatic names", step by step.
use Rattle.std.specs.Prelude.{ℕ, ◌-◌, List, [], ◌∷◌, ◌++◌, Bool, true, false, cond, ◌&&◌, ◌||◌, length, get_or, take, drop, replicate, ltb, leb, eqb, Result, Ok, Err}
use Rattle.records.specs.Bytes.{same_bytes}
use Rattle.records.specs.Name.{is_empty}
use Rattle.records.specs.declared.automatic.Text.{Text}
use Rattle.records.specs.declared.error.ModuleError.{ModuleError}
use Rattle.records.specs.declared.error.ModuleError.TheVariants.{TooLarge, InvalidAutomaticModuleName, InvalidModuleName}

-- ---- bytes

-- an ASCII digit
unfoldable pub is_digit : ℕ → Bool
is_digit x = leb 48 x && leb x 57

-- an ASCII letter
unfoldable pub is_letter : ℕ → Bool
is_letter x = (leb 65 x && leb x 90) || (leb 97 x && leb x 122)

-- an ASCII letter or digit
unfoldable pub is_alphanumeric : ℕ → Bool
is_alphanumeric x = is_letter x || is_digit x

-- ---- the derivation

-- the byte is in the string
unfoldable pub has_byte : ℕ → List ℕ → Bool
has_byte c [] = false
has_byte c (x ∷ xs) = eqb x c || has_byte c xs

-- what follows the last c, all of the string where there is none
unfoldable pub after_last : ℕ → List ℕ → List ℕ
after_last c [] = []
after_last c (x ∷ xs) = cond (has_byte c xs) (after_last c xs) (cond (eqb x c) xs (x ∷ xs))

-- what follows the last separator, which is '/'
unfoldable pub file_name : List ℕ → List ℕ
file_name s = after_last 47 s

-- ".jar"
abbrev pub dot_jar : List ℕ
dot_jar = 46 ∷ 106 ∷ 97 ∷ 114 ∷ []

-- without one final ".jar"
unfoldable pub without_jar : List ℕ → List ℕ
without_jar s = cond (same_bytes (drop (length s - 4) s) dot_jar) (take (length s - 4) s) s

-- a hyphen followed by a digit stands at the front
unfoldable pub starts_version : List ℕ → Bool
starts_version s = eqb (get_or s 0 0) 45 && is_digit (get_or s 1 0)

-- a hyphen followed by a digit stands somewhere
unfoldable pub has_version : List ℕ → Bool
has_version [] = false
has_version (x ∷ xs) = starts_version (x ∷ xs) || has_version xs

-- cut at the last hyphen followed by a digit
unfoldable pub without_version : List ℕ → List ℕ
without_version [] = []
without_version (x ∷ xs) = cond (has_version xs) (x ∷ without_version xs) (cond (starts_version (x ∷ xs)) [] (x ∷ xs))

-- each run of bytes other than letters and digits becomes one dot; `run` says that the byte before belongs to such a run
unfoldable pub dotted_from : Bool → List ℕ → List ℕ
dotted_from run [] = []
dotted_from run (x ∷ xs) = cond (is_alphanumeric x) (x ∷ dotted_from false xs) (cond run (dotted_from true xs) (46 ∷ dotted_from true xs))

unfoldable pub dotted : List ℕ → List ℕ
dotted s = dotted_from false s

-- without dots at the front
unfoldable pub trim_front : List ℕ → List ℕ
trim_front [] = []
trim_front (x ∷ xs) = cond (eqb x 46) (trim_front xs) (x ∷ xs)

-- without dots at the end
unfoldable pub trim_end : List ℕ → List ℕ
trim_end [] = []
trim_end (x ∷ xs) = cond (eqb x 46 && is_empty (trim_end xs)) [] (x ∷ trim_end xs)

-- without dots at both ends
unfoldable pub trimmed : List ℕ → List ℕ
trimmed s = trim_end (trim_front s)

-- the derived name, empty where nothing is left
unfoldable pub derived_name : List ℕ → List ℕ
derived_name jar = trimmed (dotted (without_version (without_jar (file_name jar))))

-- ---- module names

-- an ASCII letter, `_` or `$`
unfoldable pub is_start : ℕ → Bool
is_start x = is_letter x || (eqb x 95 || eqb x 36)

-- each is one of those or a digit
unfoldable pub is_rest : List ℕ → Bool
is_rest [] = true
is_rest (x ∷ xs) = (is_start x || is_digit x) && is_rest xs

-- one part of a module name: a start, then those or digits
unfoldable pub is_part : List ℕ → Bool
is_part [] = false
is_part (x ∷ xs) = is_start x && is_rest xs

-- x in front of the first of these
unfoldable pub in_front : ℕ → List (List ℕ) → List (List ℕ)
in_front x [] = (x ∷ []) ∷ []
in_front x (p ∷ ps) = (x ∷ p) ∷ ps

-- the dot-separated parts of a string
unfoldable pub parts_of : List ℕ → List (List ℕ)
parts_of [] = [] ∷ []
parts_of (x ∷ xs) = cond (eqb x 46) ([] ∷ parts_of xs) (in_front x (parts_of xs))

unfoldable pub all_parts : List (List ℕ) → Bool
all_parts [] = true
all_parts (p ∷ ps) = is_part p && all_parts ps

-- dot-separated parts, 255 bytes in all at most
unfoldable pub is_module_name : List ℕ → Bool
is_module_name s = leb (length s) 255 && all_parts (parts_of s)

-- ---- the name of the module

-- whether a name is valid, or why it is refused
abbrev pub Named : Type 0
Named = Result (Unit {0}) ModuleError

abbrev pub pick_named : Bool → Named → Named → Named
pick_named true a b = a
pick_named false a b = b

-- a name that is derived or given: one that breaks the rule is 10
unfoldable pub validated : List ℕ → Named
validated n = pick_named (is_module_name n) (Ok tt) (Err InvalidModuleName)

-- whether a jar name gives a module name: nothing left is 9
unfoldable pub derived : List ℕ → Named
derived jar =
    pick_named (is_empty (without_jar (file_name jar)) || is_empty (derived_name jar)) (Err InvalidAutomaticModuleName) (validated (derived_name jar))

-- a name as a text of 255 bytes: zeros follow it
unfoldable pub text_of : List ℕ → Text
text_of n = record { bytes = n ++ replicate (255 - length n) 0; len = length n }

-- the name as a text, or why there is none
abbrev pub Derived : Type 0
Derived = Result Text ModuleError

unfoldable pub then_text : Named → Text → Derived
then_text (Ok u) t = Ok t
then_text (Err e) t = Err e

abbrev pub pick_derived : Bool → Derived → Derived → Derived
pick_derived true a b = a
pick_derived false a b = b

-- the answer for a jar name: the name as a text, or the refusal; a jar name of over 255 bytes is 2
unfoldable pub derived_text : List ℕ → Derived
derived_text jar = pick_derived (ltb 255 (length jar)) (Err (TooLarge 0)) (then_text (derived jar) (text_of (derived_name jar)))
