-- The words of a configuration (U12): "words of 64 bits in a slice lent by the host, eight for the members, then for each module eight
-- for its edges and one whose lowest bit is ALL-UNNAMED, all other bits and rows of non-members zero: 4,616 words in all, modules in set
-- order, lowest bit first". Where which word lies is said here, and within the rows in Graph.
use Rattle.std.specs.Prelude.{ℕ, zero, suc, ◌/◌, ◌%◌, ◌^◌, Bool, true, false, cond, List, [], ◌∷◌, ◌++◌, ltb, length, get_or, take, drop, set}
use Rattle.std.specs.Int.Bits.{bit_or}
use Rattle.records.specs.declared.error.ModuleError.TheVariants.{OutputTooShort}
use Rattle.records.specs.Set.{CountAnswer}
use Rattle.resolution.specs.Row.{holds, one, words}
use Rattle.resolution.specs.Graph.{rows_length, edge, unnamed_edge}
use Rattle.std.specs.Prelude.{Ok, Err}

-- "4,616 words in all"
abbrev pub word_count : ℕ
word_count = 4616

abbrev pub pick_answer : Bool → CountAnswer → CountAnswer → CountAnswer
pick_answer true a b = a
pick_answer false a b = b

-- "A shorter slice is an output too short, number 4 with 4,616, tested after the records": what the check of the inputs says, and then
-- the number of words
unfoldable pub with_words : List ℕ → CountAnswer → CountAnswer
with_words ws (Err e) = Err e
with_words ws (Ok n) = pick_answer (ltb (length ws) word_count) (Err (OutputTooShort word_count)) (Ok n)

-- ---- the words read: the first 4,616 alone, and of each ninth word of a row the lowest bit alone

-- "eight for the members"
unfoldable pub member_words : List ℕ → List ℕ
member_words ws = take 8 ws

-- "then for each module eight for its edges and one": 512 rows of nine
unfoldable pub row_words : List ℕ → List ℕ
row_words ws = take rows_length (drop 8 ws)

-- position i is among the members
unfoldable pub member_bit : List ℕ → ℕ → Bool
unfolding member_words holds
member_bit ws i = holds (member_words ws) i

-- an edge leads from position i to position j
unfoldable pub edge_bit : List ℕ → ℕ → ℕ → Bool
unfolding row_words edge
edge_bit ws i j = edge (row_words ws) i j

-- an edge leads from position i to ALL-UNNAMED
unfoldable pub unnamed_bit : List ℕ → ℕ → Bool
unfolding row_words unnamed_edge
unnamed_bit ws i = unnamed_edge (row_words ws) i

-- one row with position j more. From 512 on there is none, and nothing changes
unfoldable pub with_read : List ℕ → ℕ → List ℕ
with_read row j = cond (ltb j 512) (set row (j / 64) (bit_or (get_or row (j / 64) 0) (2 ^ (j % 64)))) row

-- ---- the words written, by the three tests: p of the members, e of the edges, u of those to ALL-UNNAMED

-- the rows of n positions from i on
unfoldable pub rows_from : (ℕ → ℕ → Bool) → (ℕ → Bool) → ℕ → ℕ → List ℕ
unfolding words one
rows_from e u i zero = []
rows_from e u i (suc n) = words (e i) 8 ++ (one (u i) ∷ rows_from e u (suc i) n)

-- all of them, which are 4,616 words
unfoldable pub words_of : (ℕ → Bool) → (ℕ → ℕ → Bool) → (ℕ → Bool) → List ℕ
unfolding words rows_from
words_of p e u = words p 8 ++ rows_from e u 0 512
