-- The words of a configuration: they say what they were made of, and words that say it, with all other bits 0, are they.
use mathlib.Core.Path.{◌≡◌, refl, sym, ap, ap₂, ◌∙◌}
use mathlib.Core.Bool.{Bool, true, false}
use mathlib.Core.List.{List, [], ◌∷◌, ◌++◌, append_assoc}
use Prim.Native.Nat.{ℕ, zero, suc, ◌+◌, ◌*◌, ◌/◌, ◌%◌, ◌^◌, ◌≤◌, ◌<◌}
use native.Mathlib.Omega.{arith}
use native.Mathlib.Nat.{add-zero}
use lib.Dec.{ltb}
use lib.ListN.{length, get_or, take, drop, length-append, length-drop, get_or-append}
use lib.Seq.{split_at, length-take-le, get_or-take, get_or-drop, get_or-append-add, take_at, drop_at, drop-drop}
use borrow.Author.Tests.{ltb-true, ltb-false, lt-ltb, le-ltb}
use borrow.Rule.Slice.PartMut.{put_mid}
use Rattle.records.specs.Output.{written}
use Rattle.records.specs.declared.error.ModuleError.{ModuleError}
use Rattle.records.specs.declared.error.ModuleError.TheVariants.{OutputTooShort}
use Rattle.records.specs.Set.{CountAnswer}
use Rattle.records.proofs.Logic.{by, clash}
use Rattle.resolution.specs.Row.{bit, holds, one, words}
use Rattle.resolution.specs.Graph.{edge, ninth, unnamed_edge}
use Rattle.resolution.specs.Configuration.{word_count, with_words, member_words, row_words, member_bit, edge_bit, unnamed_bit, rows_from, words_of}
use Rattle.resolution.proofs.WordBits.{holds-words, words-length}
use Rattle.resolution.proofs.Words.{words_are}
use Rattle.resolution.proofs.configuration.Laws.{take_past, member-none, edge_none, unnamed-none}
use Rattle.resolution.proofs.graph.Edges.{edge-is, edge-past}
use Rattle.resolution.proofs.row.Bits.{bit-low, bit-zero}
use Rattle.std.specs.Prelude.{Ok, Err}

module _ (e : ℕ → ℕ → Bool) (u : ℕ → Bool) where
  -- ---- the rows made of tests

  rows-length : (i n : ℕ) → length (rows_from e u i n) ≡ n * 9
  unfolding rows_from
  rows-length i zero = refl
  rows-length i (suc n) =
      length-append (words (e i) 8) (one (u i) ∷ rows_from e u (suc i) n) ∙ omega (arith, words-length (e i) 8, rows-length (suc i) n)

  -- what follows the first row
  behind : (i n k : ℕ) → get_or (rows_from e u i (suc n)) (9 + k) 0 ≡ get_or (rows_from e u (suc i) n) k 0
  unfolding rows_from
  behind i n k =
      let q : 9 + k ≡ length (words (e i) 8) + suc k = omega (arith, words-length (e i) 8) in
      ap (λ (x : ℕ). get_or (words (e i) 8 ++ (one (u i) ∷ rows_from e u (suc i) n)) x 0) q ∙ get_or-append-add (words (e i) 8) (one (u i) ∷ rows_from e u (suc i) n) (suc k) 0

  row_word : (a i n q : ℕ) → a < n → q < 8 → get_or (rows_from e u i n) (a * 9 + q) 0 ≡ get_or (words (e (i + a)) 8) q 0
  row_word zero i zero q l m = absurd (omega arith)
  row_word (suc a) i zero q l m = absurd (omega arith)
  row_word zero i (suc n) q l m = unfold rows_from in
      (let z : 0 * 9 + q ≡ q = omega arith in
      ap (λ (x : ℕ). get_or (words (e i) 8 ++ (one (u i) ∷ rows_from e u (suc i) n)) x 0) z
      ∙ get_or-append (words (e i) 8) (one (u i) ∷ rows_from e u (suc i) n) 0 q (omega (arith, words-length (e i) 8))
      ∙ ap (λ (x : ℕ). get_or (words (e x) 8) q 0) (sym (add-zero i)))
  row_word (suc a) i (suc n) q l m =
      let z : suc a * 9 + q ≡ 9 + (a * 9 + q) = omega arith in
      let y : suc i + a ≡ i + suc a = omega arith in
      ap (λ (x : ℕ). get_or (rows_from e u i (suc n)) x 0) z ∙ behind i n (a * 9 + q) ∙ row_word a (suc i) n q (omega arith) m ∙ ap (λ (x : ℕ). get_or (words (e x) 8) q 0) y

  row-ninth : (a i n : ℕ) → a < n → get_or (rows_from e u i n) (a * 9 + 8) 0 ≡ one (u (i + a))
  row-ninth zero i zero l = absurd (omega arith)
  row-ninth (suc a) i zero l = absurd (omega arith)
  row-ninth zero i (suc n) l = unfold rows_from in
      (ap (λ (x : ℕ). get_or (words (e i) 8 ++ (one (u i) ∷ rows_from e u (suc i) n)) (x + 0) 0) (sym (words-length (e i) 8))
      ∙ get_or-append-add (words (e i) 8) (one (u i) ∷ rows_from e u (suc i) n) 0 0 ∙ ap (λ (x : ℕ). one (u x)) (sym (add-zero i)))
  row-ninth (suc a) i (suc n) l =
      let z : suc a * 9 + 8 ≡ 9 + (a * 9 + 8) = omega arith in
      let y : suc i + a ≡ i + suc a = omega arith in
      ap (λ (x : ℕ). get_or (rows_from e u i (suc n)) x 0) z ∙ behind i n (a * 9 + 8) ∙ row-ninth a (suc i) n (omega arith) ∙ ap (λ (x : ℕ). one (u x)) y

  -- ---- rows that say the same are these

  next-at : (i a : ℕ) → i + suc a ≡ suc i + a
  next-at i a = omega arith

  first_below : (g : List ℕ) → ((k : ℕ) → get_or g k 0 < 2 ^ 64) → (k : ℕ) → get_or (take 8 g) k 0 < 2 ^ 64
  first_below g f k = by (ltb k 8)
      (λ q. omega (arith, get_or-take 8 g k 0 (ltb-true k 8 q), f k))
      (λ q. omega (arith, take_past 8 g k (ltb-false k 8 q)))

  first-row : (i : ℕ) (g : List ℕ) → 8 ≤ length g → ((k : ℕ) → get_or g k 0 < 2 ^ 64) → ((j : ℕ) → j < 512 → edge g 0 j ≡ e i j) → take 8 g ≡ words (e i) 8
  unfolding holds
  first-row i g m f h = words_are (e i) (take 8 g) 8 (length-take-le 8 g m) (first_below g f)
      (λ k l. let z : k / 64 ≡ 0 * 9 + k / 64 = omega arith in
      ap (λ (x : ℕ). bit x (k % 64)) (get_or-take 8 g (k / 64) 0 (omega arith) ∙ ap (λ (x : ℕ). get_or g x 0) z) ∙ sym (edge-is g 0 k (omega arith)) ∙ h k (omega arith))

  first-ninth : (i : ℕ) (g : List ℕ) → ninth g 0 ≡ one (u i) → get_or g 8 0 ≡ one (u i)
  unfolding ninth
  first-ninth i g h = h

  next_edge : (g : List ℕ) (a j : ℕ) → j < 512 → edge (drop 9 g) a j ≡ edge g (suc a) j
  next_edge g a j b =
      let z : 9 + (a * 9 + j / 64) ≡ suc a * 9 + j / 64 = omega arith in
      edge-is (drop 9 g) a j b ∙ ap (λ (x : ℕ). bit x (j % 64)) (get_or-drop 9 g (a * 9 + j / 64) 0 ∙ ap (λ (x : ℕ). get_or g x 0) z) ∙ sym (edge-is g (suc a) j b)

  next-ninth : (g : List ℕ) (a : ℕ) → ninth (drop 9 g) a ≡ ninth g (suc a)
  unfolding ninth
  next-ninth g a = let z : 9 + (a * 9 + 8) ≡ suc a * 9 + 8 = omega arith in get_or-drop 9 g (a * 9 + 8) 0 ∙ ap (λ (x : ℕ). get_or g x 0) z

  pub rows_are : (n i : ℕ) (g : List ℕ) → length g ≡ n * 9 → ((k : ℕ) → get_or g k 0 < 2 ^ 64)
      → ((a j : ℕ) → a < n → j < 512 → edge g a j ≡ e (i + a) j) → ((a : ℕ) → a < n → ninth g a ≡ one (u (i + a))) → g ≡ rows_from e u i n
  unfolding rows_from
  rows_are zero i [] m f h w = refl
  rows_are zero i (x ∷ g) m f h w = absurd (omega arith)
  rows_are (suc n) i g m f h w =
      split_at g 8 0 (omega (arith, m))
      ∙ ap₂ (λ (a b : List ℕ). a ++ b) (first-row i g (omega (arith, m)) f (λ j l. h 0 j (omega arith) l ∙ ap (λ (x : ℕ). e x j) (add-zero i)))
      (ap₂ (λ (x : ℕ) (l : List ℕ). x ∷ l) (first-ninth i g (w 0 (omega arith) ∙ ap (λ (x : ℕ). one (u x)) (add-zero i)))
      (rows_are n (suc i) (drop 9 g) (omega (arith, length-drop 9 g, m)) (λ k. omega (arith, get_or-drop 9 g k 0, f (9 + k)))
      (λ a j l b. next_edge g a j b ∙ h (suc a) j (omega arith) b ∙ ap (λ (x : ℕ). e x j) (next-at i a))
      (λ a l. next-ninth g a ∙ w (suc a) (omega arith) ∙ ap (λ (x : ℕ). one (u x)) (next-at i a))))

-- ---- the number of words, after the check of the inputs

pub with-refused : (ws : List ℕ) (a : CountAnswer) (e : ModuleError) → a ≡ Err e → with_words ws a ≡ Err e
unfolding with_words
with-refused ws a e h = ap (with_words ws) h

pub with-few : (ws : List ℕ) (a : CountAnswer) (n : ℕ) → a ≡ Ok n → length ws < 4616 → with_words ws a ≡ Err (OutputTooShort 4616)
unfolding with_words
with-few ws a n h l = ap (with_words ws) h ∙ rw (lt-ltb (length ws) 4616 l)

pub with_enough : (ws : List ℕ) (a : CountAnswer) (n : ℕ) → a ≡ Ok n → 4616 ≤ length ws → with_words ws a ≡ Ok n
unfolding with_words
with_enough ws a n h l = ap (with_words ws) h ∙ rw (le-ltb (length ws) 4616 l)

-- what was taken with the words was taken without, and they are enough
pub with-taken : (ws : List ℕ) (a : CountAnswer) (n : ℕ) → with_words ws a ≡ Ok n → (a ≡ Ok n) × (word_count ≤ length ws)
unfolding with_words
with-taken ws (Err e) n h = clash (cc)
with-taken ws (Ok m) n h = by (ltb (length ws) word_count)
    (λ q. let z : Err (OutputTooShort word_count) ≡ Ok n = sym (rw q) ∙ h in clash (cc))
    (λ q. (sym (rw q) ∙ h, ltb-false (length ws) word_count q))

-- a word that is 0 or 1 is that of its lowest bit
pub one_bit : (w : ℕ) → w ≤ 1 → w ≡ one (bit w 0)
unfolding one
one_bit zero l = ap one (sym (bit-zero 0))
one_bit (suc zero) l = ap one (sym (bit-low 1))
one_bit (suc (suc w)) l = absurd (omega arith)

bit-one : (b : Bool) → bit (one b) 0 ≡ b
unfolding one
bit-one true = bit-low 1
bit-one false = bit-zero 0

-- ---- the whole

module _ (p : ℕ → Bool) (e : ℕ → ℕ → Bool) (u : ℕ → Bool) where
  pub words-of-length : length (words_of p e u) ≡ 4616
  unfolding words_of
  words-of-length = length-append (words p 8) (rows_from e u 0 512) ∙ omega (arith, words-length p 8, rows-length e u 0 512)

  module _ (rest : List ℕ) where
    abbrev ws : List ℕ
    ws = words_of p e u ++ rest

    parts : ws ≡ words p 8 ++ (rows_from e u 0 512 ++ rest)
    unfolding words_of
    parts = append_assoc (words p 8) (rows_from e u 0 512) rest

    pub members_are : member_words ws ≡ words p 8
    unfolding member_words
    members_are = ap (take 8) parts ∙ take_at (words p 8) (rows_from e u 0 512 ++ rest) 8 (words-length p 8)

    rows_of : row_words ws ≡ rows_from e u 0 512
    unfolding row_words
    rows_of =
        ap (λ (l : List ℕ). take 4608 (drop 8 l)) parts ∙ ap (take 4608) (drop_at (words p 8) (rows_from e u 0 512 ++ rest) 8 (words-length p 8))
        ∙ take_at (rows_from e u 0 512) rest 4608 (rows-length e u 0 512)

    pub member_of_lem : (i : ℕ) → i < 512 → member_bit ws i ≡ p i
    unfolding member_bit
    member_of_lem i l = ap (λ (x : List ℕ). holds x i) members_are ∙ holds-words p 8 i (omega arith)

    pub edge_of : (i j : ℕ) → i < 512 → j < 512 → edge_bit ws i j ≡ e i j
    unfolding edge_bit
    edge_of i j l m =
        ap (λ (x : List ℕ). edge x i j) rows_of ∙ edge-is (rows_from e u 0 512) i j m
        ∙ ap (λ (x : ℕ). bit x (j % 64)) (row_word e u i 0 512 (j / 64) l (omega arith)) ∙ as_held ∙ holds-words (e i) 8 j (omega arith)
      where
        as_held : bit (get_or (words (e (0 + i)) 8) (j / 64) 0) (j % 64) ≡ holds (words (e i) 8) j
        as_held = unfold holds in (let z : 0 + i ≡ i = omega arith in ap (λ (x : ℕ). bit (get_or (words (e x) 8) (j / 64) 0) (j % 64)) z)

    pub unnamed-of : (i : ℕ) → i < 512 → unnamed_bit ws i ≡ u i
    unfolding unnamed_bit unnamed_edge ninth
    unnamed-of i l =
        let z : 0 + i ≡ i = omega arith in
        ap (λ (x : List ℕ). bit (get_or x (i * 9 + 8) 0) 0) rows_of ∙ ap (λ (x : ℕ). bit x 0) (row-ninth e u i 0 512 l) ∙ bit-one (u (0 + i)) ∙ ap u z

    -- what does not pass is not there, also past the positions
    pub member-not : (i : ℕ) → p i ≡ false → member_bit ws i ≡ false
    member-not i f = by (ltb i 512) (λ h. member_of_lem i (ltb-true i 512 h) ∙ f) (λ h. member-none ws i (ltb-false i 512 h))

    pub edge-not : (i j : ℕ) → e i j ≡ false → edge_bit ws i j ≡ false
    edge-not i j f = by (ltb i 512)
        (λ h. by (ltb j 512)
        (λ k. edge_of i j (ltb-true i 512 h) (ltb-true j 512 k) ∙ f)
        (λ k. unfold edge_bit in edge-past (row_words ws) i j (ltb-false j 512 k)))
        (λ h. edge_none ws i j (ltb-false i 512 h))

    pub unnamed-not : (i : ℕ) → u i ≡ false → unnamed_bit ws i ≡ false
    unnamed-not i f = by (ltb i 512) (λ h. unnamed-of i (ltb-true i 512 h) ∙ f) (λ h. unnamed-none ws i (ltb-false i 512 h))

  -- members written to the front, then rows behind them, and nothing beyond
  pub words-written : (before members rows : List ℕ) → 4616 ≤ length before → length members ≡ 8 → members ≡ words p 8 → rows ≡ rows_from e u 0 512
      → put_mid 8 4608 (written before 0 members) rows ≡ words_of p e u ++ drop 4616 before
  unfolding written words_of
  words-written before members rows h m em er =
      let z : 0 + length members + 4608 ≡ 4616 = omega (arith, m) in
      ap₂ (λ (a b : List ℕ). a ++ (rows ++ b)) (take_at members (drop (0 + length members) before) 8 m)
      (ap (drop 4608) (drop_at members (drop (0 + length members) before) 8 m) ∙ drop-drop 4608 (0 + length members) before ∙ ap (λ (k : ℕ). drop k before) z)
      ∙ ap₂ (λ (a b : List ℕ). a ++ (b ++ drop 4616 before)) em er ∙ sym (append_assoc (words p 8) (rows_from e u 0 512) (drop 4616 before))
