-- The words of a configuration: the three tests of their bits, and one row with a position more.
use mathlib.Core.Path.{◌≡◌, sym, ap, ◌∙◌}
use mathlib.Core.Bool.{Bool, true, false, ◌&&◌, ◌||◌, and-false, cond}
use mathlib.Core.List.{List}
use Prim.Native.Nat.{ℕ, ◌+◌, ◌*◌, ◌/◌, ◌%◌, ◌^◌, ◌≤◌, ◌<◌}
use native.Mathlib.Omega.{arith}
use lib.Bits.{bit_or}
use lib.Dec.{eqb, ltb}
use lib.ListN.{length, get_or, take, drop, set, length-set, length-take, get_or-eq_default}
use lib.Seq.{get_or-take, get_or-drop, set_out}
use borrow.Author.Tests.{ltb-true, ltb-false, lt-ltb, le-ltb}
use Rattle.records.proofs.Logic.{by}
use Rattle.resolution.specs.Row.{bit, holds, size, Empty, Added}
use Rattle.resolution.specs.Readability.{Holding}
use Rattle.resolution.specs.Graph.{edge, ninth, unnamed_edge}
use Rattle.resolution.specs.Configuration.{member_words, row_words, member_bit, edge_bit, unnamed_bit, with_read}
use Rattle.resolution.proofs.row.Bits.{bit-zero, bit-or, bit-pow}
use Rattle.resolution.proofs.row.Counts.{count_same}
use Rattle.resolution.proofs.row.Laws.{holds-out, holds-added}
use Rattle.resolution.proofs.graph.Edges.{edge-is, edge-past}

-- past the first n elements there is none
pub take_past : (n : ℕ) (l : List ℕ) (i : ℕ) → n ≤ i → get_or (take n l) i 0 ≡ 0
take_past n l i h = get_or-eq_default (take n l) 0 {n = i} (omega (arith, length-take n l))

-- ---- the members

member-word : (ws : List ℕ) (k : ℕ) → k < 8 → get_or (member_words ws) k 0 ≡ get_or ws k 0
unfolding member_words
member-word ws k l = get_or-take 8 ws k 0 l

pub member-none : (ws : List ℕ) (i : ℕ) → 512 ≤ i → member_bit ws i ≡ false
unfolding member_bit member_words holds
member-none ws i l = ap (λ (w : ℕ). bit w (i % 64)) (take_past 8 ws (i / 64) (omega arith)) ∙ bit-zero (i % 64)

pub contains_in : (ws : List ℕ) (i w : ℕ) (r : Bool) → i < 512 → w ≡ get_or ws (i / 64) 0 → r ≡ bit w (i % 64) → r ≡ member_bit ws i
unfolding member_bit holds
contains_in ws i w r l ew er = er ∙ ap (λ (x : ℕ). bit x (i % 64)) (ew ∙ sym (member-word ws (i / 64) (omega arith)))

pub contains-out : (ws : List ℕ) (i : ℕ) → 512 ≤ i → ltb i 512 ≡ member_bit ws i
contains-out ws i l = le-ltb i 512 l ∙ sym (member-none ws i l)

pub ruleset contains-laws = (contains_in, contains-out)

-- ---- the rows

pub row_word : (ws : List ℕ) (k : ℕ) → k < 4608 → get_or (row_words ws) k 0 ≡ get_or ws (8 + k) 0
unfolding row_words
row_word ws k l = get_or-take 4608 (drop 8 ws) k 0 l ∙ get_or-drop 8 ws k 0

row-none : (ws : List ℕ) (k : ℕ) → 4608 ≤ k → get_or (row_words ws) k 0 ≡ 0
unfolding row_words
row-none ws k l = take_past 4608 (drop 8 ws) k l

pub edge_none : (ws : List ℕ) (i j : ℕ) → 512 ≤ i → edge_bit ws i j ≡ false
unfolding edge_bit edge
edge_none ws i j l = ap (λ (w : ℕ). ltb j 512 && bit w (j % 64)) (row-none ws (i * 9 + j / 64) (omega arith)) ∙ ap (λ (t : Bool). ltb j 512 && t) (bit-zero (j % 64)) ∙ and-false (ltb j 512)

pub unnamed-none : (ws : List ℕ) (i : ℕ) → 512 ≤ i → unnamed_bit ws i ≡ false
unfolding unnamed_bit unnamed_edge ninth
unnamed-none ws i l = ap (λ (w : ℕ). bit w 0) (row-none ws (i * 9 + 8) (omega arith)) ∙ bit-zero 0

pub reads_in : (ws : List ℕ) (i j w : ℕ) (r : Bool) → i < 512 → j < 512 → w ≡ get_or ws (8 + (i * 9 + j / 64)) 0 → r ≡ bit w (j % 64) → r ≡ edge_bit ws i j
unfolding edge_bit
reads_in ws i j w r l m ew er =
    er ∙ ap (λ (x : ℕ). bit x (j % 64)) (ew ∙ sym (row_word ws (i * 9 + j / 64) (omega arith))) ∙ sym (edge-is (row_words ws) i j m)

pub reads-source : (ws : List ℕ) (i j : ℕ) (r : Bool) → r ≡ ltb i 512 → 512 ≤ i → r ≡ edge_bit ws i j
reads-source ws i j r e l = e ∙ le-ltb i 512 l ∙ sym (edge_none ws i j l)

pub reads-target : (ws : List ℕ) (i j : ℕ) → 512 ≤ j → false ≡ edge_bit ws i j
unfolding edge_bit
reads-target ws i j l = sym (edge-past (row_words ws) i j l)

pub reads-past : (ws : List ℕ) (i j : ℕ) (r : Bool) → r ≡ ltb j 512 → 512 ≤ j → r ≡ edge_bit ws i j
reads-past ws i j r e l = e ∙ le-ltb j 512 l ∙ reads-target ws i j l

pub ruleset reads-laws = (reads_in, reads-source, reads-past)

pub unnamed_in : (ws : List ℕ) (i w : ℕ) (r : Bool) → i < 512 → w ≡ get_or ws (8 + (i * 9 + 8)) 0 → r ≡ bit w 0 → r ≡ unnamed_bit ws i
unfolding unnamed_bit unnamed_edge ninth
unnamed_in ws i w r l ew er = er ∙ ap (λ (x : ℕ). bit x 0) (ew ∙ sym (row_word ws (i * 9 + 8) (omega arith)))

pub unnamed-out : (ws : List ℕ) (i : ℕ) → 512 ≤ i → ltb i 512 ≡ unnamed_bit ws i
unnamed-out ws i l = le-ltb i 512 l ∙ sym (unnamed-none ws i l)

pub ruleset unnamed-laws = (unnamed_in, unnamed-out)

-- the eight words of the edges of row i
pub row-of_in : (ws row : List ℕ) (i : ℕ) → length row ≡ 8 → i < 512 → ((k : ℕ) → k < 8 → get_or row k 0 ≡ get_or ws (8 + i * 9 + k) 0) → Holding row (edge_bit ws i)
unfolding holds edge_bit
row-of_in ws row i n l e = record {
  each = λ j. by (ltb j 512)
      (λ q. let m : j < 512 = ltb-true j 512 q in
      let z : 8 + i * 9 + j / 64 ≡ 8 + (i * 9 + j / 64) = omega arith in
      ap (λ (x : ℕ). bit x (j % 64)) (e (j / 64) (omega arith) ∙ ap (λ (k : ℕ). get_or ws k 0) z ∙ sym (row_word ws (i * 9 + j / 64) (omega arith)))
      ∙ sym (edge-is (row_words ws) i j m))
      (λ q. let m : 512 ≤ j = ltb-false j 512 q in holds-out row j n m ∙ sym (edge-past (row_words ws) i j m));
}

pub row-of-out : (ws : List ℕ) (i : ℕ) (row : List ℕ) → 512 ≤ i → Empty row → Holding row (edge_bit ws i)
row-of-out ws i row l e = record { each = λ j. e.none j ∙ sym (edge_none ws i j l) }

pub ruleset row-of-laws = (row-of_in, row-of-out)

-- ---- how many members

pub members-is : (ws row : List ℕ) → length row ≡ 8 → ((k : ℕ) → k < 8 → get_or row k 0 ≡ get_or ws (0 + k) 0) → Holding row (member_bit ws)
unfolding member_bit holds
members-is ws row n e = record {
  each = λ k. by (ltb k 512)
      (λ q. let l : k < 512 = ltb-true k 512 q in
      let z : 0 + k / 64 ≡ k / 64 = omega arith in
      ap (λ (w : ℕ). bit w (k % 64)) (e (k / 64) (omega arith) ∙ ap (λ (i : ℕ). get_or ws i 0) z ∙ sym (member-word ws (k / 64) (omega arith))))
      (λ q. let l : 512 ≤ k = ltb-false k 512 q in holds-out row k n l ∙ sym (unfold member_bit in member-none ws k l));
}

pub len_is : (ws row : List ℕ) (r : ℕ) → Holding row (member_bit ws) → r ≡ size row → r ≡ size (member_words ws)
unfolding size member_bit
len_is ws row r h e = e ∙ count_same (holds row) (holds (member_words ws)) 512 (λ k l. h.each k)

-- ---- one row with a position more

module _ (row : List ℕ) (j : ℕ) where
  pub with_read_lem : (v : ℕ) → j < 512 → v ≡ bit_or (get_or row (j / 64) 0) (2 ^ (j % 64)) → set row (j / 64) v ≡ with_read row j
  unfolding with_read
  with_read_lem v l e = rw (lt-ltb j 512 l, e)

  pub with-short : length row ≤ j / 64 → j < 512 → row ≡ with_read row j
  unfolding with_read
  with-short m l = rw (lt-ltb j 512 l) (sym (set_out row (j / 64) (bit_or (get_or row (j / 64) 0) (2 ^ (j % 64))) m))

  pub with-past : 512 ≤ j → row ≡ with_read row j
  unfolding with_read
  with-past l = rw (le-ltb j 512 l)

-- on a row of eight words it is the row with that position more
read-bits : (w p b : ℕ) → bit (bit_or w (2 ^ p)) b ≡ bit w b || eqb b p
read-bits w p b = bit-or w (2 ^ p) b ∙ ap (λ (z : Bool). bit w b || z) (bit-pow p b)

pub read-added : (ws : List ℕ) (j : ℕ) (after : List ℕ) → length ws ≡ 8 → after ≡ with_read ws j → Added ws j after
unfolding with_read
read-added ws j after n e = record {
  below = λ l k. ap (λ (x : List ℕ). holds x k) (e ∙ rw (lt-ltb j 512 l))
      ∙ holds-added ws j (bit_or (get_or ws (j / 64) 0) (2 ^ (j % 64))) (omega (arith, n, l)) (read-bits (get_or ws (j / 64) 0) (j % 64)) k;
  above = λ l. e ∙ rw (le-ltb j 512 l);
}

pub read-long : (ws : List ℕ) (j : ℕ) (after : List ℕ) → length ws ≡ 8 → after ≡ with_read ws j → length after ≡ 8
unfolding with_read
read-long ws j after n e = ap length e ∙ go (ltb j 512)
  where
    go : (b : Bool) → length (cond b (set ws (j / 64) (bit_or (get_or ws (j / 64) 0) (2 ^ (j % 64)))) ws) ≡ 8
    go true = length-set ws (j / 64) (bit_or (get_or ws (j / 64) 0) (2 ^ (j % 64))) ∙ n
    go false = n

pub ruleset add-read-laws = (with_read_lem, with-short, with-past)
