-- What a host is told: a number, and four words of particulars.
use Rattle.std.specs.Prelude.{ℕ, ◌≡◌, List, [], ◌∷◌, ◌++◌, take}
use Rattle.records.specs.Error.{number_of, particulars_of}
use Rattle.records.specs.declared.error.ModuleError.{ModuleError}

-- number 0 is an answer, any other that of a refusal
pub record Reply : Type 0 where
  pub number : ℕ
  pub words : List ℕ

-- four words: these, and zeros
unfoldable pub four : List ℕ → List ℕ
four l = take 4 (l ++ (0 ∷ 0 ∷ 0 ∷ 0 ∷ []))

-- an answer with these words
unfoldable pub answered : List ℕ → Reply
answered l = record { number = 0; words = four l }

-- document 01's number and particulars of a refusal
unfoldable pub refused : ModuleError → Reply
refused e = record { number = number_of e; words = four (particulars_of e) }

-- r and the words at exit are the reply
pub record Told (reply : Reply) (after : List ℕ) (r : ℕ) : Type 0 where
  pub number : r ≡ reply.number
  pub words : after ≡ reply.words
