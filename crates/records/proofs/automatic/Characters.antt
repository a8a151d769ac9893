-- Which bytes the classes of specs/Automatic.antt leave out.
use Prim.Native.Nat.{ℕ, ◌≤◌}
use mathlib.Core.Path.{◌≡◌}
use mathlib.Core.Bool.{true, ◌&&◌, ◌||◌}
use native.Mathlib.Omega.{arith}
use lib.Dec.{leb, eqb}
use borrow.Author.Tests.{leb-true, eqb-true}
use Rattle.records.proofs.Logic.{and_left, and_right, or_cases}
use Rattle.records.specs.Automatic.{is_digit, is_letter, is_alphanumeric, is_start}

bounds : (a b x : ℕ) → (leb a x && leb x b) ≡ true → (a ≤ x) × (x ≤ b)
bounds a b x e = (leb-true a x (and_left (leb a x) (leb x b) e), leb-true x b (and_right (leb a x) (leb x b) e))

pub digit-bounds : (x : ℕ) → is_digit x ≡ true → (48 ≤ x) × (x ≤ 57)
unfolding is_digit
digit-bounds x e = bounds 48 57 x e

pub letter_bounds : (x : ℕ) → is_letter x ≡ true → (65 ≤ x) × (x ≤ 122)
unfolding is_letter
letter_bounds x e = or_cases (leb 65 x && leb x 90) (leb 97 x && leb x 122) e upper lower
  where
    upper : (leb 65 x && leb x 90) ≡ true → (65 ≤ x) × (x ≤ 122)
    upper h = let b : (65 ≤ x) × (x ≤ 90) = bounds 65 90 x h in (omega arith, omega arith)

    lower : (leb 97 x && leb x 122) ≡ true → (65 ≤ x) × (x ≤ 122)
    lower h = let b : (97 ≤ x) × (x ≤ 122) = bounds 97 122 x h in (omega arith, omega arith)

-- a letter or digit is no dot
pub alphanumeric_bounds : (x : ℕ) → is_alphanumeric x ≡ true → (48 ≤ x) × (x ≤ 122)
unfolding is_alphanumeric
alphanumeric_bounds x e = or_cases (is_letter x) (is_digit x) e letter digit
  where
    letter : is_letter x ≡ true → (48 ≤ x) × (x ≤ 122)
    letter h = let b : (65 ≤ x) × (x ≤ 122) = letter_bounds x h in (omega arith, omega arith)

    digit : is_digit x ≡ true → (48 ≤ x) × (x ≤ 122)
    digit h = let b : (48 ≤ x) × (x ≤ 57) = digit-bounds x h in (omega arith, omega arith)

-- the start of a part is printable
pub start-bounds : (x : ℕ) → is_start x ≡ true → (36 ≤ x) × (x ≤ 122)
unfolding is_start
start-bounds x e = or_cases (is_letter x) (eqb x 95 || eqb x 36) e letter (λ o. or_cases (eqb x 95) (eqb x 36) o line dollar)
  where
    letter : is_letter x ≡ true → (36 ≤ x) × (x ≤ 122)
    letter h = let b : (65 ≤ x) × (x ≤ 122) = letter_bounds x h in (omega arith, omega arith)

    line : eqb x 95 ≡ true → (36 ≤ x) × (x ≤ 122)
    line h = let b : x ≡ 95 = eqb-true x 95 h in (omega arith, omega arith)

    dollar : eqb x 36 ≡ true → (36 ≤ x) × (x ≤ 122)
    dollar h = let b : x ≡ 36 = eqb-true x 36 h in (omega arith, omega arith)
