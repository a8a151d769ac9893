-- The positions that a row holds, after a change of a word, of every word, and their count.
use mathlib.Core.Path.{◌≡◌, refl, sym, ap, ap₂, ◌∙◌}
use mathlib.Core.Bool.{Bool, true, false, ◌&&◌, ◌||◌, or-false}
use mathlib.Core.List.{List}
use Prim.Native.Nat.{ℕ, zero, suc, ◌+◌, ◌*◌, ◌/◌, ◌%◌, ◌^◌, ◌≤◌, ◌<◌}
use native.Mathlib.Omega.{arith}
use native.Mathlib.Nat.{le_refl}
use lib.Dec.{eqb, ltb}
use lib.ListN.{length, get_or, set, length-set, replicate, get_or-eq_default}
use lib.Seq.{get_or-set_same, get_or-set_other}
use lib.Count.{ones}
use lib.Bits.{bit_or, bit_and}
use borrow.Author.Tests.{eq-eqb, ne_eqb, eqb-true, eqb-false, ltb-true, ltb-false, le-ltb}
use Rattle.records.proofs.Logic.{true≠false, by}
use Rattle.resolution.specs.Row.{bit, holds, count_below, size, Empty, United, Intersected, Added, NoneFrom, First}
use Rattle.resolution.proofs.row.Bits.{bit-zero, bit-or, bit-and}
use Rattle.resolution.proofs.row.Counts.{count-zero, count_add, count_same, count_none, none-of-count, ones-bits}

pub holds-out : (ws : List ℕ) (k : ℕ) → length ws ≡ 8 → 512 ≤ k → holds ws k ≡ false
unfolding holds
holds-out ws k e h = ap (λ (w : ℕ). bit w (k % 64)) (get_or-eq_default ws 0 {n = k / 64} (omega arith)) ∙ bit-zero (k % 64)

-- a position in two parts
pub eqb-parts : (k j : ℕ) → k / 64 ≡ j / 64 → eqb (k % 64) (j % 64) ≡ eqb k j
eqb-parts k j e = go (eqb (k % 64) (j % 64)) refl
  where
    go : (t : Bool) → eqb (k % 64) (j % 64) ≡ t → t ≡ eqb k j
    go true h = sym (eq-eqb k j (omega (arith, eqb-true (k % 64) (j % 64) h)))
    go false h = sym (ne_eqb k j (λ q. eqb-false (k % 64) (j % 64) h (ap (λ (x : ℕ). x % 64) q)))

-- position j is added, where a word v that has bit j % 64 more is stored in the place of its word
pub holds-added : (ws : List ℕ) (j v : ℕ) → j / 64 < length ws → ((b : ℕ) → bit v b ≡ bit (get_or ws (j / 64) 0) b || eqb b (j % 64))
    → (k : ℕ) → holds (set ws (j / 64) v) k ≡ holds ws k || eqb k j
unfolding holds
holds-added ws j v l h k = go (eqb (k / 64) (j / 64)) refl
  where
    go : (t : Bool) → eqb (k / 64) (j / 64) ≡ t → bit (get_or (set ws (j / 64) v) (k / 64) 0) (k % 64) ≡ bit (get_or ws (k / 64) 0) (k % 64) || eqb k j
    go true e =
        let q : k / 64 ≡ j / 64 = eqb-true (k / 64) (j / 64) e in
        ap (λ (x : ℕ). bit x (k % 64)) (ap (λ (i : ℕ). get_or (set ws (j / 64) v) i 0) q ∙ get_or-set_same ws (j / 64) v 0 l)
        ∙ h (k % 64) ∙ ap₂ (λ (i : ℕ) (t : Bool). bit (get_or ws i 0) (k % 64) || t) (sym q) (eqb-parts k j q)
    go false e =
        ap (λ (x : ℕ). bit x (k % 64)) (get_or-set_other ws (j / 64) (k / 64) v 0 (eqb-false (k / 64) (j / 64) e))
        ∙ sym (or-false (bit (get_or ws (k / 64) 0) (k % 64)))
        ∙ ap (λ (t : Bool). bit (get_or ws (k / 64) 0) (k % 64) || t) (sym (ne_eqb k j (λ q. eqb-false (k / 64) (j / 64) e (ap (λ (x : ℕ). x / 64) q))))

-- the 64 positions of word i
word : (ws : List ℕ) (i : ℕ) → get_or ws i 0 < 2 ^ 64 → count_below (λ k. holds ws (64 * i + k)) 64 ≡ ones (get_or ws i 0)
unfolding holds
word ws i h =
    count_same (λ k. holds ws (64 * i + k)) (bit (get_or ws i 0)) 64
    (λ k l. ap₂ (λ (x y : ℕ). bit (get_or ws x 0) y) (omega arith) (omega arith))
    ∙ sym (ones-bits 64 (get_or ws i 0) h)

-- the ones of the first i words are the positions below 64 * i that are held
pub record OnesAt (ws : List ℕ) (n i : ℕ) : Type 0 where
  pub most : n ≤ 64 * i
  pub so_far : n ≡ count_below (holds ws) (64 * i)

pub ones-start : (ws : List ℕ) → OnesAt ws 0 0
ones-start ws = record { most = omega arith; so_far = sym (count-zero (holds ws)) }

module _ (ws : List ℕ) (n i : ℕ) (h : OnesAt ws n i) where
  pub ones-next : (r : ℕ) → get_or ws i 0 < 2 ^ 64 → r ≡ ones (get_or ws i 0) → r ≤ 64 → OnesAt ws (n + r) (i + 1)
  ones-next r f e l =
      let z : 64 * (i + 1) ≡ 64 * i + 64 = omega arith in
      record { most = omega (arith, h.most); so_far = rw z (rw (count_add (holds ws) (64 * i) 64, word ws i f, h.so_far, e)) }

  pub ones-done : length ws ≡ 8 → length ws ≤ i → i ≤ length ws → n ≡ size ws
  unfolding size
  ones-done g l m = let z : 64 * i ≡ 512 = omega arith in h.so_far ∙ ap (count_below (holds ws)) z

pub ruleset count-laws = (ones-start, ones-next, ones-done)

-- ---- every word
pub zero-at : (n i : ℕ) → ◌≡◌ {A = ℕ} (get_or (replicate n 0) i 0) 0
zero-at zero i = refl
zero-at (suc n) zero = refl
zero-at (suc n) (suc i) = zero-at n i

pub empty-zeros : (n : ℕ) → Empty (replicate n 0)
unfolding holds
empty-zeros n = record { none = λ k. ap (λ (w : ℕ). bit w (k % 64)) (zero-at n (k / 64)) ∙ bit-zero (k % 64) }

-- the words of two rows, one by one
pub union-is : (a b ws : List ℕ) → length a ≡ 8 → length b ≡ 8 → length ws ≡ 8 → ((k : ℕ) → k < 8 → get_or ws k 0 ≡ bit_or (get_or a k 0) (get_or b k 0)) → United a b ws
union-is a b ws p q n e = record {
  either = λ k. by (ltb k 512)
      (λ h. let l : k < 512 = ltb-true k 512 h in
      unfold holds in (ap (λ (w : ℕ). bit w (k % 64)) (e (k / 64) (omega arith)) ∙ bit-or (get_or a (k / 64) 0) (get_or b (k / 64) 0) (k % 64)))
      (λ h. let l : 512 ≤ k = ltb-false k 512 h in holds-out ws k n l ∙ sym (ap₂ (λ (s t : Bool). s || t) (holds-out a k p l) (holds-out b k q l)));
}

pub intersection-is : (a b ws : List ℕ) → length a ≡ 8 → length ws ≡ 8 → ((k : ℕ) → k < 8 → get_or ws k 0 ≡ bit_and (get_or a k 0) (get_or b k 0)) → Intersected a b ws
intersection-is a b ws p n e = record {
  both = λ k. by (ltb k 512)
      (λ h. let l : k < 512 = ltb-true k 512 h in
      unfold holds in (ap (λ (w : ℕ). bit w (k % 64)) (e (k / 64) (omega arith)) ∙ bit-and (get_or a (k / 64) 0) (get_or b (k / 64) 0) (k % 64)))
      (λ h. let l : 512 ≤ k = ltb-false k 512 h in holds-out ws k n l ∙ sym (ap (λ (t : Bool). t && holds b k) (holds-out a k p l)));
}

-- ---- an empty row: `size` is 0 where nothing is held, and nowhere else
pub size_none : (ws : List ℕ) → Empty ws → size ws ≡ 0
unfolding size
size_none ws h = count_none (holds ws) 512 (λ k l. h.none k)

pub none-of-size : (ws : List ℕ) → length ws ≡ 8 → size ws ≡ 0 → Empty ws
unfolding size
none-of-size ws n e = record { none = λ k. go k (ltb k 512) refl }
  where
    go : (k : ℕ) (t : Bool) → ltb k 512 ≡ t → holds ws k ≡ false
    go k true h = none-of-count (holds ws) 512 e k (ltb-true k 512 h)
    go k false h = holds-out ws k n (ltb-false k 512 h)

-- ---- what each function returns
pub has_in : (ws : List ℕ) (k : ℕ) (r : Bool) → r ≡ bit (get_or ws (k / 64) 0) (k % 64) → r ≡ holds ws k
unfolding holds
has_in ws k r e = e

pub has-out : (ws : List ℕ) (k : ℕ) → length ws ≡ 8 → 512 ≤ k → ltb k 512 ≡ holds ws k
has-out ws k n h = le-ltb k 512 h ∙ sym (holds-out ws k n h)

-- w is word q with position k, where k is in it
abbrev pub WordOf : List ℕ → ℕ → ℕ → ℕ → Type 0
WordOf ws k q w = (b : ℕ) → bit w b ≡ bit (get_or ws q 0) b || (eqb (k / 64) q && eqb b (k % 64))

-- the words before q are made anew, and the others are as they were
pub record WithAt (ws : List ℕ) (k : ℕ) (out : List ℕ) (q : ℕ) : Type 0 where
  pub long : length out ≡ 8
  pub new : (i : ℕ) → i < q → WordOf ws k i (get_or out i 0)
  pub still : (i : ℕ) → q ≤ i → get_or out i 0 ≡ get_or ws i 0

pub with-start : (ws : List ℕ) (k : ℕ) → length ws ≡ 8 → WithAt ws k ws 0
with-start ws k n = record { long = n; new = λ i l. absurd (omega arith); still = λ i l. refl }

-- the words of the other half are as they were
other_word : (k q : ℕ) (w b : ℕ) → (k / 64 ≡ q → ⊥) → bit w b ≡ bit w b || (eqb (k / 64) q && eqb b (k % 64))
other_word k q w b z = rw (ne_eqb (k / 64) q z, or-false (bit w b))

pub with-start_high : (ws : List ℕ) (k : ℕ) → length ws ≡ 8 → 256 ≤ k → WithAt ws k ws 4
with-start_high ws k n l = record { long = n; new = λ i m b. other_word k i (get_or ws i 0) b (λ e. omega (arith, e)); still = λ i m. refl }

pub with-half : (ws : List ℕ) (k : ℕ) (out : List ℕ) → k < 256 → WithAt ws k out 4 → WithAt ws k out 8
with-half ws k out l h = record { long = h.long; new = new; still = λ i m. h.still i (omega arith) }
  where
    new : (i : ℕ) → i < 8 → WordOf ws k i (get_or out i 0)
    new i m b = by (ltb i 4)
        (λ y. h.new i (ltb-true i 4 y) b)
        (λ y. let z : 4 ≤ i = ltb-false i 4 y in rw (h.still i z) (other_word k i (get_or ws i 0) b (λ e. omega (arith, e))))

module _ (ws : List ℕ) (k : ℕ) (out : List ℕ) (q : ℕ) (h : WithAt ws k out q) where
  pub with-next : (w : ℕ) → q < 8 → ((b : ℕ) → bit w b ≡ bit (get_or out q 0) b || (eqb (k / 64) q && eqb b (k % 64))) → WithAt ws k (set out q w) (q + 1)
  with-next w l e = record {
    long = length-set out q w ∙ h.long;
    new = λ i m. by (eqb i q) (λ y. same i (eqb-true i q y)) (λ y. other i m (eqb-false i q y));
    still = λ i m. get_or-set_other out q i w 0 (λ z. omega arith) ∙ h.still i (omega arith);
  }
    where
      same : (i : ℕ) → i ≡ q → WordOf ws k i (get_or (set out q w) i 0)
      same i z b =
          let r : q < length out = omega (arith, h.long) in
          rw (z, get_or-set_same out q w 0 r, ← h.still q (le_refl q)) (e b)

      other : (i : ℕ) → i < q + 1 → (i ≡ q → ⊥) → WordOf ws k i (get_or (set out q w) i 0)
      other i m z b = rw (get_or-set_other out q i w 0 z) (h.new i (omega arith) b)

  pub with-done : k < 512 → length ws ≡ 8 → 8 ≤ q → Added ws k out
  unfolding holds
  with-done l n m = record { below = λ _ j. words-at (j / 64) (j % 64) ∙ ap (λ (t : Bool). bit (get_or ws (j / 64) 0) (j % 64) || t) (same_place j); above = λ g. absurd (omega arith) }
    where
      words-at : (i b : ℕ) → bit (get_or out i 0) b ≡ bit (get_or ws i 0) b || (eqb (k / 64) i && eqb b (k % 64))
      words-at i b = by (ltb i 8)
          (λ y. let z : i < 8 = ltb-true i 8 y in h.new i (omega arith) b)
          (λ y. let z : 8 ≤ i = ltb-false i 8 y in
          let o : get_or out i 0 ≡ get_or ws i 0 = get_or-eq_default out 0 {n = i} (omega (arith, h.long)) ∙ sym (get_or-eq_default ws 0 {n = i} (omega arith)) in
          ap (λ (w : ℕ). bit w b) o ∙ sym (or-false (bit (get_or ws i 0) b))
          ∙ ap (λ (t : Bool). bit (get_or ws i 0) b || (t && eqb b (k % 64))) (sym (ne_eqb (k / 64) i (λ e. omega arith))))

      same_place : (j : ℕ) → (eqb (k / 64) (j / 64) && eqb (j % 64) (k % 64)) ≡ eqb j k
      same_place j = go (eqb (k / 64) (j / 64)) refl
        where
          go : (t : Bool) → eqb (k / 64) (j / 64) ≡ t → (t && eqb (j % 64) (k % 64)) ≡ eqb j k
          go true e = eqb-parts j k (sym (eqb-true (k / 64) (j / 64) e))
          go false e = sym (ne_eqb j k (λ i. true≠false (eq-eqb (k / 64) (j / 64) (ap (λ (z : ℕ). z / 64) (sym i))) e))

pub with_out : (ws : List ℕ) (k : ℕ) → 512 ≤ k → Added ws k ws
with_out ws k l = record { below = λ g. absurd (omega arith); above = λ _. refl }

-- ---- the next position: none from k on and before `at` is held
pub record NextAt (ws : List ℕ) (k at : ℕ) : Type 0 where
  pub from : k ≤ at
  pub none : (i : ℕ) → k ≤ i → i < at → holds ws i ≡ false

pub next_start : (ws : List ℕ) (k : ℕ) → NextAt ws k k
next_start ws k = record { from = omega arith; none = λ i f l. absurd (omega arith) }

module _ {ws : List ℕ} {k at : ℕ} (h : NextAt ws k at) where
  -- nor is any before bit b of the word of `at`, where none is set there from that of `at` on
  clear : (b : ℕ) → b ≤ 64 → ((i : ℕ) → at % 64 ≤ i → i < b → bit (get_or ws (at / 64) 0) i ≡ false)
      → (i : ℕ) → k ≤ i → i < at / 64 * 64 + b → holds ws i ≡ false
  unfolding holds
  clear b m o i f l = go (ltb i at) refl
    where
      go : (t : Bool) → ltb i at ≡ t → holds ws i ≡ false
      go true e = h.none i f (ltb-true i at e)
      go false e =
          let g : at ≤ i = ltb-false i at e in
          let q : i / 64 ≡ at / 64 = omega arith in
          ap (λ (x : ℕ). bit (get_or ws x 0) (i % 64)) q ∙ o (i % 64) (omega arith) (omega arith)

  pub next-found : (b : ℕ) → at < 512 → First (bit (get_or ws (at / 64) 0)) (at % 64) 64 b → First (holds ws) k 512 (at / 64 * 64 + b)
  unfolding holds
  next-found b a o =
      let l : b < 64 = o.below in
      let q : (at / 64 * 64 + b) / 64 ≡ at / 64 = omega arith in
      let r : (at / 64 * 64 + b) % 64 ≡ b = omega arith in
      record {
        from = omega (arith, h.from, o.from);
        below = omega arith;
        none = clear b (omega arith) o.none;
        found = ap₂ (λ (x y : ℕ). bit (get_or ws x 0) y) q r ∙ o.found;
      }

  pub next-on : at < 512 → NoneFrom (bit (get_or ws (at / 64) 0)) (at % 64) 64 → NextAt ws k (at / 64 * 64 + 64)
  next-on a o = record { from = omega (arith, h.from); none = clear 64 (omega arith) o.none }

  pub next-end : 512 ≤ at → NoneFrom (holds ws) k 512
  next-end l = record { none = λ i f g. h.none i f (omega arith) }

pub ruleset next-laws = (next_start, next-found, next-on, next-end)

pub ruleset has-laws = (has_in, has-out)

pub ruleset with-laws = (with-start, with-start_high, with-half, with-next, with-done, with_out)
