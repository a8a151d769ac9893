-- A set of positions below 512, as eight words of 64 bits, lowest bit first.
use Rattle.std.specs.Prelude.{◌≡◌, Bool, true, false, ◌||◌, ◌&&◌, List, [], ◌∷◌, ℕ, zero, suc, ◌+◌, ◌*◌, ◌/◌, ◌%◌, ◌^◌, ◌≤◌, ◌<◌, eqb, get_or}

-- bit k of w is set
unfoldable pub bit : ℕ → ℕ → Bool
bit w k = eqb (w / 2 ^ k % 2) 1

-- position k is held: bit k % 64 of word k / 64
unfoldable pub holds : List ℕ → ℕ → Bool
holds ws k = bit (get_or ws (k / 64) 0) (k % 64)

-- 1 for true, 0 for false
unfoldable pub one : Bool → ℕ
one true = 1
one false = 0

-- ---- the words of a test

-- n bits from position k on, as a number
unfoldable pub bits_from : (ℕ → Bool) → ℕ → ℕ → ℕ
bits_from p k zero = 0
bits_from p k (suc n) = one (p k) + 2 * bits_from p (suc k) n

-- n words, from word i on
unfoldable pub words_from : (ℕ → Bool) → ℕ → ℕ → List ℕ
unfolding bits_from
words_from p i zero = []
words_from p i (suc n) = bits_from p (i * 64) 64 ∷ words_from p (suc i) n

-- the positions that pass, as n words
unfoldable pub words : (ℕ → Bool) → ℕ → List ℕ
unfolding words_from
words p n = words_from p 0 n

-- ---- how many

-- how many k below n satisfy p
unfoldable pub count_below : (ℕ → Bool) → ℕ → ℕ
count_below p zero = 0
count_below p (suc n) = count_below p n + one (p n)

-- how many positions are held
unfoldable pub size : List ℕ → ℕ
size ws = count_below (holds ws) 512

-- no position is held
pub record Empty (ws : List ℕ) : Type 0 where
  pub none : (k : ℕ) → holds ws k ≡ false

-- ws holds the positions of a and of b, and no other
pub record United (a b ws : List ℕ) : Type 0 where
  pub either : (k : ℕ) → holds ws k ≡ holds a k || holds b k

-- ws holds the positions that a and b hold, and no other
pub record Intersected (a b ws : List ℕ) : Type 0 where
  pub both : (k : ℕ) → holds ws k ≡ holds a k && holds b k

-- `after` is `before` with position k more. From 512 on there is none, and nothing changes
pub record Added (before : List ℕ) (k : ℕ) (after : List ℕ) : Type 0 where
  pub below : k < 512 → (j : ℕ) → holds after j ≡ holds before j || eqb j k
  pub above : 512 ≤ k → after ≡ before

-- no number from k on and before n satisfies p
pub record NoneFrom (p : ℕ → Bool) (k n : ℕ) : Type 0 where
  pub none : (i : ℕ) → k ≤ i → i < n → p i ≡ false

-- r is the first number from k on that satisfies p, and stands before n
pub record First (p : ℕ → Bool) (k n r : ℕ) : Type 0 where
  pub from : k ≤ r
  pub below : r < n
  pub none : (i : ℕ) → k ≤ i → i < r → p i ≡ false
  pub found : p r ≡ true
