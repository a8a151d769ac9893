-- The words of a test hold the positions that pass.
use mathlib.Core.Path.{◌≡◌, refl, sym, ap, ◌∙◌}
use mathlib.Core.Bool.{Bool, true, false}
use Prim.Native.Nat.{ℕ, zero, suc, ◌+◌, ◌*◌, ◌/◌, ◌%◌, ◌≤◌, ◌<◌}
use native.Mathlib.Omega.{arith}
use lib.Dec.{eqb, ltb}
use lib.ListN.{length, get_or, get_or-eq_default}
use borrow.Author.Tests.{ltb-true, ltb-false}
use Rattle.records.proofs.Logic.{by}
use Rattle.resolution.specs.Row.{bit, holds, one, bits_from, words_from, words}
use Rattle.resolution.proofs.row.Bits.{bit-low, bit_high, bit-zero}

-- a number from its lowest bit and the rest
low : (b : Bool) (y : ℕ) → eqb ((one b + 2 * y) % 2) 1 ≡ b
unfolding one
low true y = let z : (1 + 2 * y) % 2 ≡ 1 = omega arith in rw z
low false y = let z : (0 + 2 * y) % 2 ≡ 0 = omega arith in rw z

high : (b : Bool) (y : ℕ) → (one b + 2 * y) / 2 ≡ y
unfolding one
high true y = omega arith
high false y = omega arith

pub bits_at : (p : ℕ → Bool) (k n b : ℕ) → b < n → bit (bits_from p k n) b ≡ p (k + b)
unfolding bits_from
bits_at p k zero b l = absurd (omega arith)
bits_at p k (suc n) zero l =
    let z : k + 0 ≡ k = omega arith in
    bit-low (one (p k) + 2 * bits_from p (suc k) n) ∙ low (p k) (bits_from p (suc k) n) ∙ ap p (sym z)
bits_at p k (suc n) (suc b) l =
    let z : suc k + b ≡ k + suc b = omega arith in
    bit_high (one (p k) + 2 * bits_from p (suc k) n) b
    ∙ ap (λ (x : ℕ). bit x b) (high (p k) (bits_from p (suc k) n))
    ∙ bits_at p (suc k) n b (omega arith) ∙ ap p z

pub word_at : (p : ℕ → Bool) (i n j : ℕ) → j < n → get_or (words_from p i n) j 0 ≡ bits_from p ((i + j) * 64) 64
unfolding words_from
word_at p i zero j l = absurd (omega arith)
word_at p i (suc n) zero l = let z : i ≡ i + 0 = omega arith in ap (λ (x : ℕ). bits_from p (x * 64) 64) z
word_at p i (suc n) (suc j) l = let z : suc i + j ≡ i + suc j = omega arith in word_at p (suc i) n j (omega arith) ∙ ap (λ (x : ℕ). bits_from p (x * 64) 64) z

pub holds-words : (p : ℕ → Bool) (n k : ℕ) → k < n * 64 → holds (words p n) k ≡ p k
unfolding holds words
holds-words p n k l =
    let a : k / 64 < n = omega arith in
    let b : k % 64 < 64 = omega arith in
    let z : (0 + k / 64) * 64 + k % 64 ≡ k = omega arith in
    ap (λ (w : ℕ). bit w (k % 64)) (word_at p 0 n (k / 64) a) ∙ bits_at p ((0 + k / 64) * 64) 64 (k % 64) b ∙ ap p z

-- as many words as are asked for
words_long : (p : ℕ → Bool) (i n : ℕ) → length (words_from p i n) ≡ n
unfolding words_from
words_long p i zero = refl
words_long p i (suc n) = ap suc (words_long p (suc i) n)

pub words-length : (p : ℕ → Bool) (n : ℕ) → length (words p n) ≡ n
unfolding words
words-length p n = words_long p 0 n

-- a position that does not pass is not held, also past the words
pub not-held : (p : ℕ → Bool) (n k : ℕ) → p k ≡ false → holds (words p n) k ≡ false
not-held p n k f = by (ltb k (n * 64))
    (λ h. holds-words p n k (ltb-true k (n * 64) h) ∙ f)
    (λ h. past (ltb-false k (n * 64) h))
  where
    past : n * 64 ≤ k → holds (words p n) k ≡ false
    past l = unfold holds in
        (ap (λ (w : ℕ). bit w (k % 64)) (get_or-eq_default (words p n) 0 {n = k / 64} (omega (arith, words-length p n))) ∙ bit-zero (k % 64))
