-- Laws of the number of a name, and what each turn of the loop over a long name shows.
use Prim.Native.Nat.{ℕ, ◌+◌, ◌*◌, ◌-◌, ◌/◌, ◌%◌, ◌≤◌, ◌<◌}
use mathlib.Core.Path.{◌≡◌, refl, ◌∙◌}
use mathlib.Core.List.{List}
use native.Mathlib.Omega.{arith}
use native.Mathlib.Nat.{div-add-mod'}
use native.Mathlib.Numerals.{add-one}
use lib.ListN.{length, get_or, take, length-take}
use borrow.Author.Tests.{lt-ltb, le-ltb}
use Rattle.resolution.specs.Hash.{word_at, mixed, chunk_at, short_hash, sum_to, total_to, long_hash, hash_in, hash_of}

module _ (s : List ℕ) (i x y z w : ℕ) where
  pub word-is : x ≡ get_or s i 0 → y ≡ get_or s (i + 1) 0 → z ≡ get_or s (i + 2) 0 → w ≡ get_or s (i + 3) 0 → x + y * 256 + z * 65536 + w * 16777216 ≡ word_at s i
  unfolding word_at
  word-is ex ey ez ew = rw (ex, ey, ez, ew)

  pub word_fits : x < 256 → y < 256 → z < 256 → w < 256 → x + y * 256 + z * 65536 + w * 16777216 < 4294967296
  word_fits lx ly lz lw = omega arith

pub ruleset word_laws = (word-is, word_fits)

module _ (a b c d : ℕ) where
  pub mix-is : a * 1881427 + b * 1364441 + c * 1534951 + d * 1366551 ≡ mixed a b c d
  unfolding mixed
  mix-is = refl

  module _ (la : a < 4294967296) (lb : b < 4294967296) (lc : c < 4294967296) (ld : d < 4294967296) where
    pub mix-fits : a * 1881427 + b * 1364441 + c * 1534951 + d * 1366551 < 36028797018963968
    mix-fits = omega arith

pub ruleset mix-laws = (mix-is, mix-fits)

pub chunk-is : (s : List ℕ) (i x y z w r : ℕ) → x ≡ word_at s i → y ≡ word_at s (i + 4) → z ≡ word_at s (i + 8) → w ≡ word_at s (i + 12) → r ≡ mixed x y z w → r ≡ chunk_at s i
unfolding chunk_at
chunk-is s i x y z w r ex ey ez ew er = er ∙ rw (ex, ey, ez, ew)

pub short-few : (s : List ℕ) (x y r : ℕ) → length s < 8 → x ≡ word_at s 0 → y ≡ word_at s 4 → r ≡ mixed x y 0 0 → r + length s ≡ short_hash s
unfolding short_hash
short-few s x y r l ex ey er = rw (lt-ltb (length s) 8 l, er, ex, ey)

pub short-more : (s : List ℕ) (x y z w r : ℕ) → 8 ≤ length s → x ≡ word_at s 0 → y ≡ word_at s 4 → z ≡ word_at s (length s - 8) → w ≡ word_at s (length s - 4) → r ≡ mixed x y z w
    → r + length s ≡ short_hash s
unfolding short_hash
short-more s x y z w r l ex ey ez ew er = rw (le-ltb (length s) 8 l, er, ex, ey, ez, ew)

pub ruleset short-laws = (short-few, short-more)

-- the two sums up to k, of m
pub record SumsAt (s : List ℕ) (m a b k : ℕ) : Type 0 where
  pub long : 16 * m < length s
  pub few : m ≤ 15
  pub is_m : m ≡ (length s - 1) / 16
  pub within : k ≤ m
  pub most_a : a ≤ 36028797018963968 * k + 36028797018964223
  pub most_b : b ≤ 576460752303423743 * k + 576460752303423743
  pub is_a : a ≡ sum_to s k
  pub is_b : b ≡ total_to s k

pub sums-start : (s : List ℕ) (x : ℕ) → 16 ≤ length s → length s ≤ 255 → x ≡ chunk_at s (length s - 16) → x < 36028797018963968
    → SumsAt s ((length s - 1) / 16) (x + length s) (x + length s) 0
unfolding sum_to total_to
sums-start s x l l' e f =
    let q : (length s - 1) / 16 * 16 + (length s - 1) % 16 ≡ length s - 1 = div-add-mod' (length s - 1) 16 in
    record {
      long = omega arith;
      few = omega arith;
      is_m = refl;
      within = omega arith;
      most_a = omega arith;
      most_b = omega arith;
      is_a = rw e;
      is_b = rw e;
    }

module _ (s : List ℕ) (m a b k : ℕ) (h : SumsAt s m a b k) where
  pub sums_in : k < m → 16 * k + 16 ≤ length s
  sums_in l = omega (arith, h.long)

  pub sums-more : (x : ℕ) → k < m → x ≡ chunk_at s (16 * k) → x < 36028797018963968 → SumsAt s m (a + x) (b + (a + x)) (k + 1)
  unfolding sum_to total_to
  sums-more x l e f = record {
    long = h.long;
    few = h.few;
    is_m = h.is_m;
    within = omega arith;
    most_a = omega (arith, h.most_a);
    most_b = omega (arith, h.few, h.most_a, h.most_b);
    is_a = rw (add-one, h.is_a, e);
    is_b = rw (add-one, h.is_b, h.is_a, e);
  }

  pub sums-done : m ≤ k → b ≡ long_hash s
  unfolding long_hash
  sums-done l = let e : k ≡ (length s - 1) / 16 = omega (arith, h.is_m, h.within) in h.is_b ∙ rw e

pub ruleset sums-laws = (sums-start, sums_in, sums-more, sums-done)

module _ (name s : List ℕ) (e : s ≡ take 255 name) where
  pub hash-fits : length s ≤ 255
  hash-fits = rw (e, length-take) (omega arith)

  pub hash-short : (r : ℕ) → length s < 16 → r ≡ short_hash s → r % 4294967291 ≡ hash_of name
  unfolding hash_of hash_in
  hash-short r l er = rw (← e, lt-ltb (length s) 16 l, er)

  pub hash-long : (r : ℕ) → 16 ≤ length s → r ≡ long_hash s → r % 4294967291 ≡ hash_of name
  unfolding hash_of hash_in
  hash-long r l er = rw (← e, le-ltb (length s) 16 l, er)

pub ruleset hash-laws = (hash-fits, hash-short, hash-long)
