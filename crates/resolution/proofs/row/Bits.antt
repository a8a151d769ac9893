-- The bits of a number: the lowest, the rest, of `bit_or`, of `bit_and`, of the complement, of a power, and the first one.
use mathlib.Core.Path.{◌≡◌, refl, sym, ap, ◌∙◌}
use mathlib.Core.Bool.{Bool, true, false, not, ◌||◌, ◌&&◌}
use Prim.Native.Nat.{ℕ, zero, suc, ◌+◌, ◌-◌, ◌*◌, ◌/◌, ◌%◌, ◌^◌, ◌≤◌, ◌<◌}
use native.Mathlib.Nat.{div-one, zero-div, mod-lt, zero-lt-suc, pow-suc, mul-div_cancel, mul-mod_left, one-mul, mod-eq_of_lt, le_of_suc-le-suc, not-suc-le-zero}
use native.Mathlib.Numerals.{one-add}
use native.Mathlib.Omega.{arith}
use lib.Dec.{eqb, eqb-zero-suc, eqb-suc-zero, eqb-suc-suc}
use lib.Bits.{bit_or, bit_and, or_shr, or_mod, and_shr, and_mod}
use lib.Count.{count_trailing_zeros, trailing_le, under}
use lib.Pow.{shr-shr, pow-lt}
use mir.Syntax.{w64}
use mir.Val.{Fits}
use Rattle.resolution.specs.Row.{bit, NoneFrom, First}

-- a shift, its lowest digit, and the test
pub bit-shift : (w b : ℕ) → eqb (w / 2 ^ b % 2) 1 ≡ bit w b
unfolding bit
bit-shift w b = refl

-- the lowest bit, and the bits above it
pub bit-low : (w : ℕ) → bit w 0 ≡ eqb (w % 2) 1
unfolding bit
bit-low w = ap (λ (x : ℕ). eqb (x % 2) 1) (div-one w)

pub bit_high : (w k : ℕ) → bit w (suc k) ≡ bit (w / 2) k
unfolding bit
bit_high w k = ap (λ (x : ℕ). eqb (x % 2) 1) (ap (λ (j : ℕ). w / 2 ^ j) (sym (one-add k)) ∙ sym (shr-shr w 1 k))

pub bit-zero : (k : ℕ) → bit 0 k ≡ false
unfolding bit
bit-zero k = ap (λ (x : ℕ). eqb (x % 2) 1) (zero-div (2 ^ k))

or-digit : (x y : ℕ) → x < 2 → y < 2 → eqb (bit_or x y) 1 ≡ eqb x 1 || eqb y 1
or-digit zero zero h l = refl
or-digit zero (suc zero) h l = refl
or-digit (suc zero) zero h l = refl
or-digit (suc zero) (suc zero) h l = refl
or-digit zero (suc (suc y)) h l = absurd (omega arith)
or-digit (suc zero) (suc (suc y)) h l = absurd (omega arith)
or-digit (suc (suc x)) y h l = absurd (omega arith)

pub bit-or : (a b k : ℕ) → bit (bit_or a b) k ≡ bit a k || bit b k
unfolding bit
bit-or a b k =
    ap (λ (x : ℕ). eqb (x % 2) 1) (or_shr a b k) ∙ ap (λ (x : ℕ). eqb x 1) (or_mod (a / 2 ^ k) (b / 2 ^ k) 1)
    ∙ or-digit (a / 2 ^ k % 2) (b / 2 ^ k % 2) (mod-lt (a / 2 ^ k) (zero-lt-suc 1)) (mod-lt (b / 2 ^ k) (zero-lt-suc 1))

and-digit : (x y : ℕ) → x < 2 → y < 2 → eqb (bit_and x y) 1 ≡ eqb x 1 && eqb y 1
and-digit zero zero h l = refl
and-digit zero (suc zero) h l = refl
and-digit (suc zero) zero h l = refl
and-digit (suc zero) (suc zero) h l = refl
and-digit zero (suc (suc y)) h l = absurd (omega arith)
and-digit (suc zero) (suc (suc y)) h l = absurd (omega arith)
and-digit (suc (suc x)) y h l = absurd (omega arith)

pub bit-and : (a b k : ℕ) → bit (bit_and a b) k ≡ bit a k && bit b k
unfolding bit
bit-and a b k =
    ap (λ (x : ℕ). eqb (x % 2) 1) (and_shr a b k) ∙ ap (λ (x : ℕ). eqb x 1) (and_mod (a / 2 ^ k) (b / 2 ^ k) 1)
    ∙ and-digit (a / 2 ^ k % 2) (b / 2 ^ k % 2) (mod-lt (a / 2 ^ k) (zero-lt-suc 1)) (mod-lt (b / 2 ^ k) (zero-lt-suc 1))

not_digit : (x y : ℕ) → x + y ≡ 1 → eqb x 1 ≡ not (eqb y 1)
not_digit zero (suc zero) e = refl
not_digit (suc zero) zero e = refl
not_digit zero zero e = absurd (omega arith)
not_digit zero (suc (suc y)) e = absurd (omega arith)
not_digit (suc zero) (suc y) e = absurd (omega arith)
not_digit (suc (suc x)) y e = absurd (omega arith)

-- the complement of a number of n bits
pub bit_not : (n a k : ℕ) → a < 2 ^ n → k < n → bit ((2 ^ n - 1) - a) k ≡ not (bit a k)
bit_not zero a k h l = absurd (omega arith)
bit_not (suc n) a zero h l =
    let q : ((2 ^ suc n - 1) - a) % 2 + a % 2 ≡ 1 = omega (arith, pow-suc 2 n) in
    bit-low ((2 ^ suc n - 1) - a) ∙ not_digit (((2 ^ suc n - 1) - a) % 2) (a % 2) q ∙ ap not (sym (bit-low a))
bit_not (suc n) a (suc k) h l =
    let q : ((2 ^ suc n - 1) - a) / 2 ≡ (2 ^ n - 1) - a / 2 = omega (arith, pow-suc 2 n) in
    bit_high ((2 ^ suc n - 1) - a) k ∙ ap (λ (x : ℕ). bit x k) q
    ∙ bit_not n (a / 2) k (omega (arith, pow-suc 2 n)) (le_of_suc-le-suc l) ∙ ap not (sym (bit_high a k))

pub bit-pow : (b k : ℕ) → bit (2 ^ b) k ≡ eqb k b
bit-pow zero zero = bit-low 1
bit-pow zero (suc k) = bit_high 1 k ∙ bit-zero k ∙ sym (eqb-suc-zero k)
bit-pow (suc b) zero =
    bit-low (2 ^ suc b) ∙ ap (λ (x : ℕ). eqb (x % 2) 1) (pow-suc 2 b) ∙ ap (λ (x : ℕ). eqb x 1) (mul-mod_left (2 ^ b) 2)
    ∙ sym (eqb-zero-suc b)
bit-pow (suc b) (suc k) =
    bit_high (2 ^ suc b) k
    ∙ ap (λ (x : ℕ). bit x k) (ap (λ (x : ℕ). x / 2) (pow-suc 2 b) ∙ mul-div_cancel (2 ^ b) (zero-lt-suc 1))
    ∙ bit-pow b k ∙ sym (eqb-suc-suc k b)

-- `1 << b` loses nothing
pub shl_one : (b : ℕ) → b < 64 → (1 * 2 ^ b) % 2 ^ 64 ≡ 2 ^ b
shl_one b h = ap (λ (x : ℕ). x % 2 ^ 64) (one-mul (2 ^ b)) ∙ mod-eq_of_lt (pow-lt h)

-- `w | 1 << b` has bit b more
pub bit-with : (w b : ℕ) → b < 64 → (k : ℕ) → bit (bit_or w ((1 * 2 ^ b) % 2 ^ 64)) k ≡ bit w k || eqb k b
bit-with w b h k =
    bit-or w ((1 * 2 ^ b) % 2 ^ 64) k ∙ ap (λ (t : Bool). bit w k || t) (ap (λ (x : ℕ). bit x k) (shl_one b h) ∙ bit-pow b k)

pub or-one : (w b : ℕ) → b < 64 → bit_or w ((1 * 2 ^ b) % 2 ^ 64) ≡ bit_or w (2 ^ b)
or-one w b h = ap (bit_or w) (shl_one b h)

pub ruleset word-with-laws = (bit-with, or-one)

-- ---- the first one
bit-shr : (w b i : ℕ) → bit (w / 2 ^ b) i ≡ bit w (b + i)
unfolding bit
bit-shr w b i = ap (λ (x : ℕ). eqb (x % 2) 1) (shr-shr w b i)

-- the trailing zeros: no bit among them is set
zeros-below : (d w i : ℕ) → i < count_trailing_zeros d w → bit w i ≡ false
unfolding count_trailing_zeros
zeros-below zero w i l = absurd (not-suc-le-zero l)
zeros-below (suc d) w i l = go (w % 2) refl (λ j g. zeros-below d (w / 2) j g) i l
  where
    go : (r : ℕ) → w % 2 ≡ r → ((j : ℕ) → j < count_trailing_zeros d (w / 2) → bit (w / 2) j ≡ false)
        → (j : ℕ) → j < under r (count_trailing_zeros d (w / 2)) → bit w j ≡ false
    go zero e rest zero g = bit-low w ∙ ap (λ (x : ℕ). eqb x 1) e
    go zero e rest (suc j) g = bit_high w j ∙ rest j (le_of_suc-le-suc g)
    go (suc r) e rest j g = absurd (not-suc-le-zero g)

-- the bit after them is
zeros-at : (d w : ℕ) → count_trailing_zeros d w < d → bit w (count_trailing_zeros d w) ≡ true
unfolding count_trailing_zeros
zeros-at zero w l = absurd (not-suc-le-zero l)
zeros-at (suc d) w l = go (w % 2) refl (zeros-at d (w / 2)) l
  where
    go : (r : ℕ) → w % 2 ≡ r → (count_trailing_zeros d (w / 2) < d → bit (w / 2) (count_trailing_zeros d (w / 2)) ≡ true)
        → under r (count_trailing_zeros d (w / 2)) < suc d → bit w (under r (count_trailing_zeros d (w / 2))) ≡ true
    go zero e rest g = bit_high w (count_trailing_zeros d (w / 2)) ∙ rest (le_of_suc-le-suc g)
    go (suc r) e rest g = let z : w % 2 ≡ 1 = omega arith in bit-low w ∙ ap (λ (x : ℕ). eqb x 1) z

-- `b + trailing_zeros (w >> b)`
module _ (w b : ℕ) where
  clear : (i : ℕ) → b ≤ i → i < b + count_trailing_zeros 64 (w / 2 ^ b) → bit w i ≡ false
  clear i h l =
      let q : i ≡ b + (i - b) = omega arith in
      ap (bit w) q ∙ sym (bit-shr w b (i - b)) ∙ zeros-below 64 (w / 2 ^ b) (i - b) (omega arith)

  pub first-none : 64 ≤ b + count_trailing_zeros 64 (w / 2 ^ b) → NoneFrom (bit w) b 64
  first-none l = record { none = λ i f g. clear i f (omega arith) }

  pub first_one : b + count_trailing_zeros 64 (w / 2 ^ b) < 64 → First (bit w) b 64 (b + count_trailing_zeros 64 (w / 2 ^ b))
  first_one l = record {
    from = omega arith;
    below = l;
    none = clear;
    found = sym (bit-shr w b (count_trailing_zeros 64 (w / 2 ^ b))) ∙ zeros-at 64 (w / 2 ^ b) (omega arith);
  }

pub zeros-fits : (w : ℕ) → Fits w64 (count_trailing_zeros 64 w)
zeros-fits w = record { fits = omega (arith, trailing_le 64 w) }

pub first_fits : (w b : ℕ) → b < 64 → Fits w64 (b + count_trailing_zeros 64 w)
first_fits w b h = record { fits = omega (arith, trailing_le 64 w) }

pub ruleset next-one-laws = (zeros-fits, first_fits, first-none, first_one)
