-- Rows where they lie: the eight words of one are written and read.
use mathlib.Core.Path.{◌≡◌, sym, ap, ◌∙◌, subst}
use mathlib.Core.List.{List, ◌++◌}
use Prim.Native.Nat.{ℕ, ◌+◌, ◌*◌, ◌-◌, ◌/◌, ◌%◌, ◌≤◌, ◌<◌}
use native.Mathlib.Omega.{arith}
use native.Mathlib.Nat.{eq-or-lt_of_le}
use mathlib.Core.Logic.{⊎_elim}
use lib.Dec.{eqb, ltb}
use lib.ListN.{length, get_or, take, drop, get_or-append}
use lib.Seq.{length-take-le, get_or-append-add, get_or-take, get_or-drop}
use borrow.Author.Tests.{eqb-true, eqb-false, ltb-true, ltb-false}
use Rattle.records.specs.Output.{written}
use Rattle.records.proofs.Logic.{by}
use Rattle.resolution.specs.Row.{bit, holds}
use Rattle.resolution.specs.Graph.{edge, ninth}
use Rattle.resolution.specs.Readability.{RowSet}
use Rattle.resolution.proofs.row.Laws.{holds-out}
use Rattle.resolution.proofs.graph.Edges.{edge-is, edge-past}

-- ---- words written among others

module _ (o : List ℕ) (at : ℕ) (s : List ℕ) (room : at + length s ≤ length o) where
  front : length (take at o) ≡ at
  front = length-take-le at o (omega arith)

  written_in : (k : ℕ) → k < length s → get_or (written o at s) (at + k) 0 ≡ get_or s k 0
  unfolding written
  written_in k l =
      ap (λ (n : ℕ). get_or (take at o ++ (s ++ drop (at + length s) o)) (n + k) 0) (sym front)
      ∙ get_or-append-add (take at o) (s ++ drop (at + length s) o) k 0 ∙ get_or-append s (drop (at + length s) o) 0 k l

  written_below : (k : ℕ) → k < at → get_or (written o at s) k 0 ≡ get_or o k 0
  unfolding written
  written_below k l = get_or-append (take at o) (s ++ drop (at + length s) o) 0 k (omega (arith, front)) ∙ get_or-take at o k 0 l

  written-above : (k : ℕ) → get_or (written o at s) (at + (length s + k)) 0 ≡ get_or o (at + length s + k) 0
  unfolding written
  written-above k =
      ap (λ (n : ℕ). get_or (take at o ++ (s ++ drop (at + length s) o)) (n + (length s + k)) 0) (sym front)
      ∙ get_or-append-add (take at o) (s ++ drop (at + length s) o) (length s + k) 0 ∙ get_or-append-add s (drop (at + length s) o) k 0 ∙ get_or-drop (at + length s) o k 0

  -- a word outside stays
  written-other : (k : ℕ) → (at ≤ k → k < at + length s → ⊥) → get_or (written o at s) k 0 ≡ get_or o k 0
  written-other k out = by (ltb k at)
      (λ h. written_below k (ltb-true k at h))
      (λ h. past (ltb-false k at h))
    where
      past : at ≤ k → get_or (written o at s) k 0 ≡ get_or o k 0
      past l = by (ltb k (at + length s))
          (λ h. absurd (out l (ltb-true k (at + length s) h)))
          (λ h. let m : at + length s ≤ k = ltb-false k (at + length s) h in
          let e : k ≡ at + (length s + (k - (at + length s))) = omega arith in
          let f : k ≡ at + length s + (k - (at + length s)) = omega arith in
          ap (λ (n : ℕ). get_or (written o at s) n 0) e ∙ written-above (k - (at + length s)) ∙ ap (λ (n : ℕ). get_or o n 0) (sym f))

-- ---- the rows of a graph

module _ (g : List ℕ) (i : ℕ) (ws : List ℕ) (n : length g ≡ 4608) (m : length ws ≡ 8) (l : i < 512) where
  room : i * 9 + length ws ≤ length g
  room = omega (arith, n, m)

  -- row i holds what ws holds
  here : (j : ℕ) → edge (written g (i * 9) ws) i j ≡ holds ws j
  unfolding holds
  here j = by (ltb j 512)
      (λ h. let b : j < 512 = ltb-true j 512 h in
      edge-is (written g (i * 9) ws) i j b ∙ ap (λ (w : ℕ). bit w (j % 64)) (written_in g (i * 9) ws room (j / 64) (omega (arith, m))))
      (λ h. let b : 512 ≤ j = ltb-false j 512 h in edge-past (written g (i * 9) ws) i j b ∙ sym (holds-out ws j m b))

  -- no other row changes
  others : (a b : ℕ) → (a ≡ i → ⊥) → edge (written g (i * 9) ws) a b ≡ edge g a b
  others a b ne = by (ltb b 512)
      (λ h. let k : b < 512 = ltb-true b 512 h in
      edge-is (written g (i * 9) ws) a b k
      ∙ ap (λ (w : ℕ). bit w (b % 64)) (written-other g (i * 9) ws room (a * 9 + b / 64) (λ x y. ne (omega (arith, m))))
      ∙ sym (edge-is g a b k))
      (λ h. let k : 512 ≤ b = ltb-false b 512 h in edge-past (written g (i * 9) ws) a b k ∙ sym (edge-past g a b k))

  same-ninth : (k : ℕ) → ninth (written g (i * 9) ws) k ≡ ninth g k
  unfolding ninth
  same-ninth k = written-other g (i * 9) ws room (k * 9 + 8) (λ x y. omega (arith, m))

  pub set-row-is : (after : List ℕ) → after ≡ written g (i * 9) ws → RowSet g i ws after
  set-row-is after e = subst (RowSet g i ws) (sym e) (record { here = here; others = others; ninths = same-ninth })

pub set-row-room : (g : List ℕ) (i : ℕ) → length g ≡ 4608 → i < 512 → i * 9 + 8 ≤ length g
set-row-room g i n l = omega (arith, n)

pub ruleset set-row-laws = (set-row-is, set-row-room)

pub below_next : (k i : ℕ) → i < k + 1 → {X : Type 0} → (i ≡ k → X) → ((i ≡ k → ⊥) → i < k → X) → X
below_next k i h f g = by (eqb i k) (λ q. f (eqb-true i k q)) (λ q. let ne : i ≡ k → ⊥ = eqb-false i k q in
    ⊎_elim (λ (e : i ≡ k). f e) (λ l. g ne l) (eq-or-lt_of_le (omega arith)))
