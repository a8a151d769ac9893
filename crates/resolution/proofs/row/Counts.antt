-- How many numbers below n satisfy a test.
use mathlib.Core.Path.{◌≡◌, refl, sym, ap, ap₂, ◌∙◌, subst}
use mathlib.Core.Bool.{Bool, true, false}
use Prim.Native.Nat.{ℕ, zero, suc, ◌+◌, ◌/◌, ◌%◌, ◌^◌, ◌≤◌, ◌<◌}
use native.Mathlib.Nat.{le_refl, add-zero, add-suc, le_of_suc-le-suc, zero-lt-suc, mod-lt, eq-or-lt_of_le}
use native.Mathlib.Omega.{arith}
use native.Mathlib.Numerals.{add-one}
use mathlib.Core.Logic.{⊎_elim}
use lib.Arith.{lt-one}
use lib.Pow.{shr_lt}
use lib.Dec.{eqb}
use lib.Count.{ones, ones_step}
use Rattle.resolution.specs.Row.{bit, one, count_below}
use Rattle.resolution.proofs.row.Bits.{bit-low, bit_high}

pub count-zero : (p : ℕ → Bool) → count_below p 0 ≡ 0
unfolding count_below
count-zero p = refl

pub count_suc : (p : ℕ → Bool) (n : ℕ) → count_below p (suc n) ≡ count_below p n + one (p n)
unfolding count_below
count_suc p n = refl

-- two tests that agree below n
pub count_same : (p q : ℕ → Bool) (n : ℕ) → ((k : ℕ) → k < n → p k ≡ q k) → count_below p n ≡ count_below q n
count_same p q zero e = count-zero p ∙ sym (count-zero q)
count_same p q (suc n) e =
    count_suc p n ∙ ap₂ (λ (x : ℕ) (b : Bool). x + one b) (count_same p q n (λ k h. e k (omega arith))) (e n (le_refl (suc n)))
    ∙ sym (count_suc q n)

-- the first m and the n after them
pub count_add : (p : ℕ → Bool) (m n : ℕ) → count_below p (m + n) ≡ count_below p m + count_below (λ k. p (m + k)) n
count_add p m zero =
    ap (count_below p) (add-zero m) ∙ sym (add-zero (count_below p m))
    ∙ ap (λ (x : ℕ). count_below p m + x) (sym (count-zero (λ k. p (m + k))))
count_add p m (suc n) =
    ap (count_below p) (add-suc m n) ∙ count_suc p (m + n)
    ∙ omega (arith, count_add p m n, count_suc (λ k. p (m + k)) n)

pub one-le : (b : Bool) → one b ≤ 1
unfolding one
one-le true = omega arith
one-le false = omega arith

pub count-le : (p : ℕ → Bool) (n : ℕ) → count_below p n ≤ n
count-le p zero = omega (arith, count-zero p)
count-le p (suc n) = omega (arith, count_suc p n, count-le p n, one-le (p n))

one-mono : (a b : Bool) → (a ≡ true → b ≡ true) → one a ≤ one b
unfolding one
one-mono true true h = le_refl 1
one-mono true false h = let z : false ≡ true = h refl in let y : ◌≡◌ {A = ℕ} 0 1 = cc in omega arith
one-mono false b h = omega arith

pub count-mono : (p q : ℕ → Bool) (n : ℕ) → ((k : ℕ) → k < n → p k ≡ true → q k ≡ true) → count_below p n ≤ count_below q n
count-mono p q zero h = omega (arith, count-zero p)
count-mono p q (suc n) h =
    omega (arith, count_suc p n, count_suc q n, count-mono p q n (λ k l. h k (omega arith)), one-mono (p n) (q n) (h n (le_refl (suc n))))

one-strict : (a b : Bool) → a ≡ false → b ≡ true → one a + 1 ≡ one b
unfolding one
one-strict a b e f = ap (λ (t : Bool). one t + 1) e ∙ ap one (sym f)

-- q holds of all that p holds of, and of one more: the count is larger
pub count-strict : (p q : ℕ → Bool) (n j : ℕ) → j < n → ((k : ℕ) → k < n → p k ≡ true → q k ≡ true)
    → p j ≡ false → q j ≡ true → count_below p n < count_below q n
count-strict p q zero j l h e f = omega arith
count-strict p q (suc n) j l h e f =
    ⊎_elim
    (λ (i : j ≡ n).
    omega (
      arith,
      count_suc p n,
      count_suc q n,
      count-mono p q n (λ k g. h k (omega arith)),
      one-strict (p n) (q n) (subst (λ (x : ℕ). p x ≡ false) i e) (subst (λ (x : ℕ). q x ≡ true) i f),
    ))
    (λ (i : j < n).
    omega (
      arith,
      count_suc p n,
      count_suc q n,
      count-strict p q n j i (λ k g. h k (omega arith)) e f,
      one-mono (p n) (q n) (h n (le_refl (suc n))),
    ))
    (eq-or-lt_of_le (le_of_suc-le-suc l))

-- none, and the count is 0
pub count_none : (p : ℕ → Bool) (n : ℕ) → ((k : ℕ) → k < n → p k ≡ false) → count_below p n ≡ 0
unfolding one
count_none p zero h = count-zero p
count_none p (suc n) h =
    count_suc p n ∙ omega (arith, count_none p n (λ k l. h k (omega arith)), ap one (h n (le_refl (suc n))))

pub none-of-count : (p : ℕ → Bool) (n : ℕ) → count_below p n ≡ 0 → (k : ℕ) → k < n → p k ≡ false
none-of-count p n e k l = go (p k) refl
  where
    go : (t : Bool) → p k ≡ t → p k ≡ false
    go false q = q
    go true q =
        absurd
        (omega
        (arith, count-strict (λ _. false) p n k l (λ j b h. let z : ◌≡◌ {A = ℕ} 0 1 = cc in absurd (omega arith)) refl q))

-- ---- the set bits of a number
pub one-digit : (d : ℕ) → d < 2 → one (eqb d 1) ≡ d
unfolding one
one-digit zero h = refl
one-digit (suc zero) h = refl
one-digit (suc (suc d)) h = absurd (omega arith)

ones-zero : ones 0 ≡ 0
unfolding ones
ones-zero = refl

-- the lowest, and those above it
count-front : (p : ℕ → Bool) (n : ℕ) → count_below p (suc n) ≡ one (p 0) + count_below (λ k. p (suc k)) n
count-front p zero = omega (arith, count_suc p 0, count-zero p, count-zero (λ k. p (suc k)))
count-front p (suc n) = omega (arith, count_suc p (suc n), count-front p n, count_suc (λ k. p (suc k)) n)

-- `count_ones` of a number of n bits
pub ones-bits : (n w : ℕ) → w < 2 ^ n → ones w ≡ count_below (bit w) n
ones-bits zero w h = ap ones (lt-one h) ∙ ones-zero ∙ sym (count-zero (bit w))
ones-bits (suc n) w h =
    ones_step w
    ∙ ap₂ (λ (x y : ℕ). x + y)
    (sym (one-digit (w % 2) (mod-lt w (zero-lt-suc 1))) ∙ ap one (sym (bit-low w)))
    (ones-bits n (w / 2) (shr_lt n 1 (subst (λ (x : ℕ). w < 2 ^ x) (sym (add-one n)) h))
    ∙ count_same (bit (w / 2)) (λ k. bit w (suc k)) n (λ k g. sym (bit_high w k)))
    ∙ sym (count-front (bit w) n)
