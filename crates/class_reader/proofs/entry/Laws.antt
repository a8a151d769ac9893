-- What each turn of the loop over names shows, and the bytes of a list.
use Prim.Native.Nat.{ℕ, suc, ◌+◌, ◌*◌, ◌-◌, ◌≤◌, ◌<◌}
use mathlib.Core.Path.{◌≡◌, refl, sym, ◌∙◌}
use mathlib.Core.List.{List, ◌++◌}
use mathlib.Core.Bool.{Bool, true, false, cond}
use native.Mathlib.Omega.{arith}
use lib.ListN.{length, length-append}
use Rattle.std.proofs.Common.{Option, Some, None}
use Rattle.records.specs.Bytes.{u16_at}
use Rattle.records.specs.Output.{two_bytes, name_bytes}
use Rattle.class_reader.specs.Pool.{has_name, name_at}
use Rattle.class_reader.specs.Entry.{names_good, names_at, names_bytes, list_bytes}
use Rattle.class_reader.proofs.entry.Names.{name_short}

-- a value that is there only where b holds
pub told_true : {A : Type 0} (b : Bool) (x y : A) → cond b (Some x) None ≡ Some y → b ≡ true
told_true true x y e = refl
told_true false x y e = cc

pub told_same : {A : Type 0} (b : Bool) (x y : A) → cond b (Some x) None ≡ Some y → x ≡ y
told_same true x y e = cc
told_same false x y e = cc

pub told_false : {A : Type 0} (b : Bool) (x : A) → cond b (Some x) None ≡ None → b ≡ false
told_false true x e = cc
told_false false x e = refl

-- ---- the loop over names

abbrev pub names_told : ℕ → List ℕ → List ℕ → ℕ → ℕ → ℕ → Option ℕ
names_told size f t k n p = cond (names_good k f t n p) (Some (size + length (names_bytes (names_at f t n p)))) None

-- the first i of the names take `size` bytes
pub record NamesLeft (f t : List ℕ) (k n p size i : ℕ) : Type 0 where
  pub few : n ≤ 65535
  pub start : p ≤ 65547
  pub low : size ≤ 256 * i
  pub left : names_told 0 f t k n p ≡ names_told size f t k (n - i) (p + 2 * i)

pub names-start : (f t : List ℕ) (k n p : ℕ) → n ≤ 65535 → p ≤ 65547 → NamesLeft f t k n p 0 0
names-start f t k n p hn hp =
    let z : n - 0 ≡ n = omega arith in
    let y : p + 2 * 0 ≡ p = omega arith in
    record { few = hn; start = hp; low = omega arith; left = rw (z, y) }

module _ {f t : List ℕ} {k n p size i : ℕ} (h : NamesLeft f t k n p size i) where
  module _ (l : i < n) where
    next : n - i ≡ suc (n - (i + 1))
    next = omega arith

    place : p + 2 * i + 2 ≡ p + 2 * (i + 1)
    place = omega arith

    pub names-bad : (x : ℕ) (r : Option ℕ) → x ≡ u16_at f (p + 2 * i) → None ≡ cond (has_name k f t x) (Some (name_at f t x)) None → r ≡ None → r ≡ names_told 0 f t k n p
    unfolding names_good
    names-bad x r ex e er =
        let b : has_name k f t (u16_at f (p + 2 * i)) ≡ false = rw (← ex) (told_false (has_name k f t x) (name_at f t x) (sym e)) in
        er ∙ sym (h.left ∙ rw (next, b))

    module _ (x : ℕ) (ex : x ≡ u16_at f (p + 2 * i)) (s : List ℕ) (e : Some s ≡ cond (has_name k f t x) (Some (name_at f t x)) None) where
      good : has_name k f t x ≡ true
      good = told_true (has_name k f t x) (name_at f t x) s (sym e)

      same : s ≡ name_at f t x
      same = sym (told_same (has_name k f t x) (name_at f t x) s (sym e))

      pub names-short : length s ≤ 255
      names-short = rw same (name_short k f t x good)

      pub names_more : NamesLeft f t k n p (size + (1 + length s)) (i + 1)
      unfolding names_good names_at names_bytes name_bytes
      names_more =
          let y : size + length (name_bytes (name_at f t x) ++ names_bytes (names_at f t (n - (i + 1)) (p + 2 * (i + 1))))
          ≡ size + (1 + length s) + length (names_bytes (names_at f t (n - (i + 1)) (p + 2 * (i + 1)))) =
          rw (length-append, ← same) (omega arith) in
          record {
            few = h.few;
            start = h.start;
            low = omega (arith, names-short, h.low);
            left = h.left ∙ rw (next, place, ← ex, good, y);
          }

  pub names-done : n ≤ i → i ≤ n → Some size ≡ names_told 0 f t k n p
  unfolding names_good names_at names_bytes
  names-done l m =
      let z : n - i ≡ 0 = omega arith in
      let y : size + 0 ≡ size = omega arith in
      sym (h.left ∙ rw (z, y))

  pub names-low : n ≤ i → i ≤ n → size ≤ 256 * n
  names-low l m = omega (arith, h.low)

pub ruleset names-laws = (names-start, names-bad, names-short, names_more, names-done, names-low)

-- ---- a list

pub list_long : (f t : List ℕ) (n p : ℕ) → length (list_bytes f t n p) ≡ 2 + length (names_bytes (names_at f t n p))
unfolding list_bytes two_bytes
list_long f t n p = omega arith
