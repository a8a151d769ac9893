-- The edges of a graph: none leads past 511, one is added by a bit of a word, and those to what a row does not hold.
use mathlib.Core.Path.{◌≡◌, refl, sym, ap, ap₂, ◌∙◌}
use mathlib.Core.Bool.{Bool, true, false, not, ◌||◌, ◌&&◌, and-false, or-false}
use mathlib.Core.List.{List}
use Prim.Native.Nat.{ℕ, ◌+◌, ◌-◌, ◌*◌, ◌/◌, ◌%◌, ◌^◌, ◌≤◌, ◌<◌}
use native.Mathlib.Omega.{arith}
use lib.Dec.{eqb, ltb}
use lib.ListN.{length, get_or, set, replicate, get_or-eq_default}
use lib.Seq.{get_or-set_same, get_or-set_other}
use borrow.Author.Tests.{eq-eqb, ne_eqb, eqb-true, eqb-false, ltb-true, ltb-false, lt-ltb, le-ltb}
use mir.Syntax.{w64}
use mir.Val.{Fits}
use lib.Bits.{bit_and, bit_or}
use Rattle.records.proofs.Logic.{true≠false, by, neither_left, neither_right}
use Rattle.resolution.specs.Row.{bit, holds}
use Rattle.resolution.specs.Graph.{edge, ninth, Successors, lacks, Lacking, AnyLacking}
use Rattle.resolution.proofs.row.Bits.{bit-zero, bit-and, bit_not, bit-or}
use Rattle.resolution.proofs.row.Laws.{eqb-parts, holds-out, zero-at}

-- the edge's bit
pub edge-is : (g : List ℕ) (i j : ℕ) → j < 512 → edge g i j ≡ bit (get_or g (i * 9 + j / 64) 0) (j % 64)
unfolding edge
edge-is g i j h = ap (λ (t : Bool). t && bit (get_or g (i * 9 + j / 64) 0) (j % 64)) (lt-ltb j 512 h)

pub edge-past : (g : List ℕ) (i j : ℕ) → 512 ≤ j → edge g i j ≡ false
unfolding edge
edge-past g i j h = ap (λ (t : Bool). t && bit (get_or g (i * 9 + j / 64) 0) (j % 64)) (le-ltb j 512 h)

pub edge-below : (g : List ℕ) (i j : ℕ) → edge g i j ≡ true → j < 512
edge-below g i j e = go (ltb j 512) refl
  where
    go : (t : Bool) → ltb j 512 ≡ t → j < 512
    go true h = ltb-true j 512 h
    go false h =
        let p : edge g i j ≡ false = edge-past g i j (ltb-false j 512 h) in
        let z : ◌≡◌ {A = ℕ} 0 1 = cc in absurd (omega arith)

-- an edge is added, where a word v that has bit j % 64 more is stored in the place of its word
pub edge-added : (g : List ℕ) (i j v : ℕ) → j < 512 → i * 9 + j / 64 < length g
    → ((b : ℕ) → bit v b ≡ bit (get_or g (i * 9 + j / 64) 0) b || eqb b (j % 64))
    → (a b : ℕ) → edge (set g (i * 9 + j / 64) v) a b ≡ edge g a b || (eqb a i && eqb b j)
edge-added g i j v hj l h a b = outer (ltb b 512) refl
  where
    inner : b < 512 → (t : Bool) → eqb (a * 9 + b / 64) (i * 9 + j / 64) ≡ t
        → bit (get_or (set g (i * 9 + j / 64) v) (a * 9 + b / 64) 0) (b % 64) ≡ bit (get_or g (a * 9 + b / 64) 0) (b % 64) || (eqb a i && eqb b j)
    inner hb true e =
        let q : a * 9 + b / 64 ≡ i * 9 + j / 64 = eqb-true (a * 9 + b / 64) (i * 9 + j / 64) e in
        let qa : a ≡ i = omega arith in
        let qb : b / 64 ≡ j / 64 = omega arith in
        ap (λ (x : ℕ). bit x (b % 64)) (ap (λ (n : ℕ). get_or (set g (i * 9 + j / 64) v) n 0) q ∙ get_or-set_same g (i * 9 + j / 64) v 0 l)
        ∙ h (b % 64)
        ∙ ap₂ (λ (n : ℕ) (t : Bool). bit (get_or g n 0) (b % 64) || t) (sym q)
        (eqb-parts b j qb ∙ ap (λ (t : Bool). t && eqb b j) (sym (eq-eqb a i qa)))
    inner hb false e =
        ap (λ (x : ℕ). bit x (b % 64)) (get_or-set_other g (i * 9 + j / 64) (a * 9 + b / 64) v 0 (eqb-false (a * 9 + b / 64) (i * 9 + j / 64) e))
        ∙ sym (or-false (bit (get_or g (a * 9 + b / 64) 0) (b % 64)))
        ∙ ap (λ (t : Bool). bit (get_or g (a * 9 + b / 64) 0) (b % 64) || t) (sym (other (eqb a i) refl (eqb b j) refl))
      where
        other : (s : Bool) → eqb a i ≡ s → (t : Bool) → eqb b j ≡ t → (s && t) ≡ false
        other false p t q = refl
        other true p false q = refl
        other true p true q =
            absurd (eqb-false (a * 9 + b / 64) (i * 9 + j / 64) e
            (ap₂ (λ (x y : ℕ). x * 9 + y / 64) (eqb-true a i p) (eqb-true b j q)))

    outer : (t : Bool) → ltb b 512 ≡ t → edge (set g (i * 9 + j / 64) v) a b ≡ edge g a b || (eqb a i && eqb b j)
    outer true p =
        let hb : b < 512 = ltb-true b 512 p in
        edge-is (set g (i * 9 + j / 64) v) a b hb ∙ inner hb (eqb (a * 9 + b / 64) (i * 9 + j / 64)) refl
        ∙ ap (λ (t : Bool). t || (eqb a i && eqb b j)) (sym (edge-is g a b hb))
    outer false p =
        let hb : 512 ≤ b = ltb-false b 512 p in
        edge-past (set g (i * 9 + j / 64) v) a b hb
        ∙ ap₂ (λ (s t : Bool). s || t) (sym (edge-past g a b hb)) (sym (ap (λ (t : Bool). eqb a i && t) (ne_eqb b j (λ q. omega arith)) ∙ and-false (eqb a i)))

-- nor does a ninth word change
pub edge-ninth : (g : List ℕ) (i j v k : ℕ) → j < 512 → ninth (set g (i * 9 + j / 64) v) k ≡ ninth g k
unfolding ninth
edge-ninth g i j v k l = get_or-set_other g (i * 9 + j / 64) (k * 9 + 8) v 0 (λ e. omega arith)

-- no row from 512 on
pub edge-out : (g : List ℕ) (i j : ℕ) → length g ≡ 4608 → 512 ≤ i → edge g i j ≡ false
unfolding edge
edge-out g i j e h =
    ap (λ (w : ℕ). ltb j 512 && bit w (j % 64)) (get_or-eq_default g 0 {n = i * 9 + j / 64} (omega arith))
    ∙ ap (λ (t : Bool). ltb j 512 && t) (bit-zero (j % 64)) ∙ and-false (ltb j 512)

-- no edge in words that are all 0
pub edge-zeros : (n i j : ℕ) → edge (replicate n 0) i j ≡ false
unfolding edge
edge-zeros n i j =
    ap (λ (w : ℕ). ltb j 512 && bit w (j % 64)) (zero-at n (i * 9 + j / 64))
    ∙ ap (λ (t : Bool). ltb j 512 && t) (bit-zero (j % 64)) ∙ and-false (ltb j 512)

-- the eight words of the edges of row i
pub row-edges : (g : List ℕ) (i : ℕ) (ws : List ℕ) → length ws ≡ 8 → ((k : ℕ) → k < 8 → get_or ws k 0 ≡ get_or g (i * 9 + k) 0) → Successors g i ws
unfolding holds
row-edges g i ws n e = record {
  each = λ j. by (ltb j 512)
      (λ h. let l : j < 512 = ltb-true j 512 h in
      ap (λ (w : ℕ). bit w (j % 64)) (e (j / 64) (omega arith)) ∙ sym (edge-is g i j l))
      (λ h. let l : 512 ≤ j = ltb-false j 512 h in holds-out ws j n l ∙ sym (edge-past g i j l));
}

-- ---- the edges to what a row does not hold

-- one word: the edges that a word of the row does not hold
abbrev pub lack_word : ℕ → ℕ → ℕ
lack_word w x = bit_and w ((2 ^ 64 - 1) - x)

lack-bit : (w x b : ℕ) → Fits w64 x → b < 64 → bit (lack_word w x) b ≡ bit w b && not (bit x b)
lack-bit w x b f l = bit-and w ((2 ^ 64 - 1) - x) b ∙ ap (λ (t : Bool). bit w b && t) (bit_not 64 x b f.fits l)

pub lacking_is : (g : List ℕ) (i : ℕ) (out row ws : List ℕ) → ((k : ℕ) → Fits w64 (get_or out k 0)) → length ws ≡ 8 → Successors g i row
    → ((k : ℕ) → k < 8 → get_or ws k 0 ≡ lack_word (get_or row k 0) (get_or out k 0)) → Lacking g i out ws
unfolding lacks holds
lacking_is g i out row ws f n s e = record {
  each = λ j. by (ltb j 512)
      (λ h. let l : j < 512 = ltb-true j 512 h in
      ap (λ (w : ℕ). bit w (j % 64)) (e (j / 64) (omega arith))
      ∙ lack-bit (get_or row (j / 64) 0) (get_or out (j / 64) 0) (j % 64) (f (j / 64)) (omega arith)
      ∙ ap (λ (t : Bool). t && not (bit (get_or out (j / 64) 0) (j % 64))) (s.each j))
      (λ h. let l : 512 ≤ j = ltb-false j 512 h in
      holds-out ws j n l ∙ ap (λ (t : Bool). t && not (bit (get_or out (j / 64) 0) (j % 64))) (sym (edge-past g i j l)));
}

-- ---- whether there are any: all words in one

-- a bit that no word before k has is not in `all`
pub record LackAt (g : List ℕ) (i : ℕ) (out : List ℕ) (all k : ℕ) : Type 0 where
  pub none : (q b : ℕ) → q < k → bit all b ≡ false → bit (lack_word (get_or g (i * 9 + q) 0) (get_or out q 0)) b ≡ false

pub lack-start : (g : List ℕ) (i : ℕ) (out : List ℕ) → LackAt g i out 0 0
lack-start g i out = record { none = λ q b l. absurd (omega arith) }

module _ (g : List ℕ) (i : ℕ) (out : List ℕ) (all k : ℕ) (h : LackAt g i out all k) where
  pub lack-next : LackAt g i out (bit_or all (lack_word (get_or g (i * 9 + k) 0) (get_or out k 0))) (k + 1)
  lack-next = record { none = λ q b l z. by (eqb q k) (λ y. here q b (eqb-true q k y) z) (λ y. h.none q b (before q l (eqb-false q k y)) (neither_left _ _ (both b z))) }
    where
      both : (b : ℕ) → bit (bit_or all (lack_word (get_or g (i * 9 + k) 0) (get_or out k 0))) b ≡ false → (bit all b || bit (lack_word (get_or g (i * 9 + k) 0) (get_or out k 0)) b) ≡ false
      both b z = sym (bit-or all (lack_word (get_or g (i * 9 + k) 0) (get_or out k 0)) b) ∙ z

      here : (q b : ℕ) → q ≡ k → bit (bit_or all (lack_word (get_or g (i * 9 + k) 0) (get_or out k 0))) b ≡ false → bit (lack_word (get_or g (i * 9 + q) 0) (get_or out q 0)) b ≡ false
      here q b e z = rw e (neither_right (bit all b) _ (both b z))

      before : (q : ℕ) → q < k + 1 → (q ≡ k → ⊥) → q < k
      before q l n = omega arith

  pub lack-done : ((j : ℕ) → Fits w64 (get_or out j 0)) → 8 ≤ k → AnyLacking g i out (not (eqb all 0))
  unfolding lacks holds
  lack-done f m = record {
    none = λ e j. by (ltb j 512)
        (λ y. let l : j < 512 = ltb-true j 512 y in
        ap (λ (t : Bool). t && not (bit (get_or out (j / 64) 0) (j % 64))) (edge-is g i j l)
        ∙ sym (lack-bit (get_or g (i * 9 + j / 64) 0) (get_or out (j / 64) 0) (j % 64) (f (j / 64)) (omega arith))
        ∙ h.none (j / 64) (j % 64) (omega arith) (ap (λ (w : ℕ). bit w (j % 64)) (none-zero all e) ∙ bit-zero (j % 64)))
        (λ y. let l : 512 ≤ j = ltb-false j 512 y in ap (λ (t : Bool). t && not (bit (get_or out (j / 64) 0) (j % 64))) (edge-past g i j l));
  }
    where
      none-zero : (w : ℕ) → not (eqb w 0) ≡ false → w ≡ 0
      none-zero w e = by (eqb w 0) (λ y. eqb-true w 0 y) (λ y. true≠false (ap not y) e)

pub any-past : (g : List ℕ) (i : ℕ) (out : List ℕ) → length g ≡ 4608 → 512 ≤ i → AnyLacking g i out false
unfolding lacks
any-past g i out e l = record { none = λ _ j. ap (λ (t : Bool). t && not (holds out j)) (edge-out g i j e l) }

pub ruleset any_lacking_laws = (lack-start, lack-next, lack-done, any-past)
