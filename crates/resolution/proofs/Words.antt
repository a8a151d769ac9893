-- Words by the bits that are set: each word fits 64 bits, so its bits give it.
use mathlib.Core.Path.{◌≡◌, refl, sym, ap, ap₂, ◌∙◌, subst}
use mathlib.Core.Bool.{Bool}
use mathlib.Core.List.{List, [], ◌∷◌}
use Prim.Native.Nat.{ℕ, zero, suc, ◌+◌, ◌*◌, ◌/◌, ◌%◌, ◌^◌, ◌<◌}
use native.Mathlib.Nat.{zero-lt-suc, mod-lt}
use native.Mathlib.Numerals.{add-one}
use native.Mathlib.Omega.{arith}
use lib.Arith.{lt-one}
use lib.Pow.{shr_lt}
use lib.ListN.{length, get_or}
use Rattle.resolution.specs.Row.{bit, holds, one, bits_from, words_from, words}
use Rattle.resolution.proofs.row.Bits.{bit-low, bit_high}
use Rattle.resolution.proofs.row.Counts.{one-digit}

-- a number of n bits
pub bits_are : (p : ℕ → Bool) (n k w : ℕ) → w < 2 ^ n → ((b : ℕ) → b < n → bit w b ≡ p (k + b)) → w ≡ bits_from p k n
unfolding bits_from
bits_are p zero k w l h = lt-one l
bits_are p (suc n) k w l h =
    let low : w % 2 ≡ one (p k)
    = sym (one-digit (w % 2) (mod-lt w (zero-lt-suc 1))) ∙ ap one (sym (bit-low w) ∙ h 0 (omega arith) ∙ ap p (omega arith)) in
    let high : w / 2 ≡ bits_from p (suc k) n
    = bits_are p n (suc k) (w / 2) (shr_lt n 1 (subst (λ (x : ℕ). w < 2 ^ x) (sym (add-one n)) l))
    (λ b g. sym (bit_high w b) ∙ h (suc b) (omega arith) ∙ ap p (omega arith)) in
    omega (arith, low, high)

-- n words, of which the first is word i
pub words-from : (p : ℕ → Bool) (ws : List ℕ) (n i : ℕ) → length ws ≡ n → ((j : ℕ) → get_or ws j 0 < 2 ^ 64)
    → ((j b : ℕ) → j < n → b < 64 → bit (get_or ws j 0) b ≡ p ((i + j) * 64 + b)) → ws ≡ words_from p i n
unfolding words_from
words-from p [] zero i e f h = refl
words-from p [] (suc n) i e f h = absurd (omega arith)
words-from p (w ∷ ws) zero i e f h = absurd (omega arith)
words-from p (w ∷ ws) (suc n) i e f h =
    ap₂ (λ (x : ℕ) (l : List ℕ). x ∷ l)
    (bits_are p 64 (i * 64) w (f 0) (λ b l. h 0 b (omega arith) l ∙ ap p (omega arith)))
    (words-from p ws n (suc i) (omega (arith, e)) (λ j. f (suc j)) (λ j b lj lb. h (suc j) b (omega arith) lb ∙ ap p (omega arith)))

-- n words are those of the positions that they hold
pub words_are : (p : ℕ → Bool) (ws : List ℕ) (n : ℕ) → length ws ≡ n → ((i : ℕ) → get_or ws i 0 < 2 ^ 64)
    → ((k : ℕ) → k < n * 64 → holds ws k ≡ p k) → ws ≡ words p n
unfolding words holds
words_are p ws n e f h = words-from p ws n 0 e f (λ j b lj lb.
    ap₂ (λ (x y : ℕ). bit (get_or ws x 0) y) (omega arith) (omega arith) ∙ h (j * 64 + b) (omega arith) ∙ ap p (omega arith))

-- two tests that are the same have the same words
bits-over : (p q : ℕ → Bool) → ((k : ℕ) → p k ≡ q k) → (k n : ℕ) → bits_from p k n ≡ bits_from q k n
unfolding bits_from
bits-over p q h k zero = refl
bits-over p q h k (suc n) = ap₂ (λ (b : Bool) (w : ℕ). one b + 2 * w) (h k) (bits-over p q h (suc k) n)

words-from-over : (p q : ℕ → Bool) → ((k : ℕ) → p k ≡ q k) → (i n : ℕ) → words_from p i n ≡ words_from q i n
unfolding words_from
words-from-over p q h i zero = refl
words-from-over p q h i (suc n) = ap₂ (λ (x : ℕ) (l : List ℕ). x ∷ l) (bits-over p q h (i * 64) 64) (words-from-over p q h (suc i) n)

pub words-over : (p q : ℕ → Bool) → ((k : ℕ) → p k ≡ q k) → (n : ℕ) → words p n ≡ words q n
unfolding words
words-over p q h n = words-from-over p q h 0 n
