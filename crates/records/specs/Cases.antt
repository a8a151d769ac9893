-- The jar names of document 01's cases 6 to 8.
use Rattle.std.specs.Prelude.{ℕ, List, [], ◌∷◌}

-- "foot-notes-2.4.jar"
abbrev pub foot_notes_jar : List ℕ
foot_notes_jar = 102 ∷ 111 ∷ 111 ∷ 116 ∷ 45 ∷ 110 ∷ 111 ∷ 116 ∷ 101 ∷ 115 ∷ 45 ∷ 50 ∷ 46 ∷ 52 ∷ 46 ∷ 106 ∷ 97 ∷ 114 ∷ []

-- "foot.notes"
abbrev pub foot_notes : List ℕ
foot_notes = 102 ∷ 111 ∷ 111 ∷ 116 ∷ 46 ∷ 110 ∷ 111 ∷ 116 ∷ 101 ∷ 115 ∷ []

-- "a-1-2.jar"
abbrev pub versions_jar : List ℕ
versions_jar = 97 ∷ 45 ∷ 49 ∷ 45 ∷ 50 ∷ 46 ∷ 106 ∷ 97 ∷ 114 ∷ []

-- ".jar"
abbrev pub only_jar : List ℕ
only_jar = 46 ∷ 106 ∷ 97 ∷ 114 ∷ []
