-- What each turn of the loop that fills the table of constants shows.
use Prim.Native.Nat.{ℕ, suc, ◌+◌, ◌*◌, ◌-◌, ◌≤◌, ◌<◌}
use mathlib.Core.Path.{◌≡◌, refl, sym, ◌∙◌, ap}
use mathlib.Core.List.{List, [], ◌∷◌, ◌++◌, append_assoc, append-nil}
use mathlib.Core.Bool.{Bool, true, false, cond, ◌&&◌, ◌||◌, not}
use native.Mathlib.Omega.{arith}
use native.Mathlib.Numerals.{add-one}
use lib.ListN.{length, get_or, take, set, length-set}
use lib.Seq.{take-suc, take-set-le, get_or-set_same}
use lib.Dec.{ltb, leb, eqb}
use borrow.Author.Tests.{leb-true, not-true, not-false}
use Rattle.records.specs.Bytes.{u16_at}
use Rattle.records.proofs.Logic.{clash, and_left, and_right}
use Rattle.class_reader.specs.Pool.{widths, tag_at, width_at, takes_two, is_defined, is_constant, pool_from, offsets_from}
use Rattle.class_reader.specs.Table.{Filled}
use Rattle.std.proofs.Common.{Result, Ok, Err}
use Rattle.class_reader.specs.declared.pool.Fault.{Fault}
use Rattle.class_reader.proofs.pool.Widths.{tag-wide}

-- ---- a constant takes three bytes or more, and one with two indices six or more

module _ (f : List ℕ) (left at : ℕ) (e : is_constant f left at ≡ true) where
  pub constant_wide : 3 + cond (takes_two f at) 3 0 ≤ width_at f at
  unfolding is_constant is_defined takes_two width_at
  constant_wide =
      let d : is_defined f at ≡ true = and_left (is_defined f at) (leb (at + width_at f at) (length f) && (not (takes_two f at) || leb 2 left)) e in
      let w : ltb 0 (get_or widths (tag_at f at) 0) ≡ true = and_left (ltb 0 (get_or widths (tag_at f at) 0)) (not (eqb (tag_at f at) 17) || leb 55 (u16_at f 6)) d in
      omega (arith, tag-wide (tag_at f at) w)

  pub constant-whole : at + width_at f at ≤ length f
  unfolding is_constant
  constant-whole =
      leb-true (at + width_at f at) (length f)
      (and_left (leb (at + width_at f at) (length f)) (not (takes_two f at) || leb 2 left)
      (and_right (is_defined f at) (leb (at + width_at f at) (length f) && (not (takes_two f at) || leb 2 left)) e))

-- ---- the loop

-- the entries below i are filled, and the constant of the next index stands at `at`
pub record FillAt (f : List ℕ) (count : ℕ) (before table : List ℕ) (at : ℕ) (second : Bool) (i : ℕ) : Type 0 where
  pub some : 1 ≤ count
  pub last : i ≤ count
  pub small : length f ≤ 65535
  pub within : at ≤ length f
  pub passed : 3 * i + 7 + cond second 3 0 ≤ at
  pub room : (n : ℕ) → n < count → n ≤ 21845 → n < length before
  pub long : length table ≡ length before
  pub answer : pool_from f (count - 1) false 10 ≡ pool_from f (count - i) second at
  pub offsets : take i table ++ offsets_from f (count - i) second at ≡ 0 ∷ offsets_from f (count - 1) false 10

-- the table has room for each index that is reached
module _ (t : List ℕ) (count : ℕ) (e : (leb count (length t) || leb 21846 (length t)) ≡ true) where
  room_for : (n : ℕ) → n < count → n ≤ 21845 → n < length t
  room_for n l m = go (leb count (length t)) refl e
    where
      go : (b : Bool) → leb count (length t) ≡ b → (b || leb 21846 (length t)) ≡ true → n < length t
      go true eb h = omega (arith, leb-true count (length t) eb)
      go false eb h = omega (arith, leb-true 21846 (length t) h)

  pub fill_start : (f : List ℕ) → 10 ≤ length f → length f ≤ 65535 → 1 ≤ count → FillAt f count t t 10 true 0
  unfolding pool_from offsets_from
  fill_start f lf s l =
      let e : count - 0 ≡ suc (count - 1) = omega arith in
      record {
        some = l;
        last = omega arith;
        small = s;
        within = lf;
        passed = omega arith;
        room = room_for;
        long = refl;
        answer = rw e;
        offsets = rw e;
      }

-- one entry more
take-set : (t : List ℕ) (i x : ℕ) (l : List ℕ) → i < length t → take (i + 1) (set t i x) ++ l ≡ take i t ++ (x ∷ l)
take-set t i x l h =
    let n : i < length (set t i x) = rw (length-set t i x) h in
    rw (add-one i, take-suc (set t i x) i 0 n, take-set-le i t i x (omega arith), get_or-set_same t i x 0 h, append_assoc (take i t) (x ∷ []) l)

module _ (f : List ℕ) (count : ℕ) (before table : List ℕ) (at i : ℕ) where
  less : i < count → count - i ≡ suc (count - (i + 1))
  less l = omega arith

  module _ (second : Bool) (h : FillAt f count before table at second i) where
    pub fill-index : i < count → i < length table
    fill-index l = omega (arith, h.long, h.room i l (omega (arith, h.passed, h.within, h.small)))

    pub fill-low : at ≤ 65535
    fill-low = omega (arith, h.within, h.small)

    pub fill-long : length table ≡ length before
    fill-long = h.long

    pub fill_end : count ≤ i → Filled f count before table (Ok at)
    unfolding pool_from offsets_from
    fill_end l =
        let e : count ≡ i = omega (arith, h.last) in
        let z : count - i ≡ 0 = omega arith in
        record {
          answer = sym (h.answer ∙ rw z);
          long = h.long;
          within = λ a q. omega (arith, h.long, h.room (count - 1) (omega (arith, h.some)) (omega (arith, h.passed, h.within, h.small)));
          low = λ a q. go a q;
          offsets = λ a q. ap (λ (n : ℕ). take n table) e ∙ sym (append-nil (take i table)) ∙ (rw z at h.offsets);
        }
      where
        go : (a : ℕ) → ◌≡◌ {A = Result ℕ Fault} (Ok at) (Ok a) → a ≤ length f
        go a q = let k : at ≡ a = cc in rw k at h.within

    module _ (l : i < count) where
      pub fill-second : second ≡ true → FillAt f count before (set table i 0) at false (i + 1)
      unfolding pool_from offsets_from
      fill-second e = record {
        some = h.some;
        last = omega arith;
        small = h.small;
        within = h.within;
        passed = let p : 3 * i + 7 + 3 ≤ at = rw e at h.passed in omega arith;
        room = h.room;
        long = length-set table i 0 ∙ h.long;
        answer = h.answer ∙ rw (e, less l);
        offsets = take-set table i 0 (offsets_from f (count - (i + 1)) false at) (fill-index l) ∙ (rw (e, less l) at h.offsets);
      }

      module _ (c : Bool) (ec : c ≡ is_constant f (count - i) at) (e : second ≡ false) where
        pub fill-fault : not c ≡ true → Filled f count before table (Err (record { at = at }))
        unfolding pool_from
        fill-fault ne =
            let n : is_constant f (suc (count - (i + 1))) at ≡ false = rw (← less l) (sym ec ∙ not-true c ne) in
            record {
              answer = sym (h.answer ∙ rw (e, less l, n));
              long = h.long;
              within = λ a q. clash (cc);
              low = λ a q. clash (cc);
              offsets = λ a q. clash (cc);
            }

        module _ (ne : not c ≡ false) (s : Bool) (es : s ≡ takes_two f at) (w : ℕ) (ew : w ≡ width_at f at) where
          pub fill_more : FillAt f count before (set table i at) (at + w) s (i + 1)
          unfolding pool_from offsets_from
          fill_more =
              let y : is_constant f (count - i) at ≡ true = sym ec ∙ not-false c ne in
              let n : is_constant f (suc (count - (i + 1))) at ≡ true = rw (← less l) y in
              let g : 3 + cond s 3 0 ≤ w = rw (es, ew) (constant_wide f (count - i) at y) in
              let p : 3 * i + 7 ≤ at = omega (arith, h.passed) in
              record {
                some = h.some;
                last = omega arith;
                small = h.small;
                within = rw ew (constant-whole f (count - i) at y);
                passed = omega (arith, p, g);
                room = h.room;
                long = length-set table i at ∙ h.long;
                answer = h.answer ∙ rw (e, less l, n, es, ew);
                offsets =
                    take-set table i at (offsets_from f (count - (i + 1)) s (at + w)) (fill-index l)
                    ∙ rw (es, ew) (rw (e, less l) at h.offsets);
              }

pub ruleset fill-laws = (fill_start, fill-index, fill-low, fill-long, fill_end, fill-second, fill-fault, fill_more)
