-- Laws of what is written into a buffer, and what each turn of a loop that writes shows.
use Prim.Native.Nat.{ℕ, ◌+◌, ◌≤◌, ◌<◌}
use mathlib.Core.Path.{◌≡◌, refl, sym, ◌∙◌, ap}
use mathlib.Core.List.{List, [], ◌++◌, append_assoc}
use native.Mathlib.Omega.{arith}
use native.Mathlib.Nat.{add_assoc, add-zero}
use native.Mathlib.Numerals.{add-one}
use lib.ListN.{length, get_or, take, drop, set, length-set, length-append, length-drop, take-append-drop}
use lib.Seq.{paste, paste-zero, paste-suc, take_all, take_at, drop-append-add, drop-drop, length-take-le}
use Rattle.records.specs.Output.{written, Put}

-- the bytes in front and those written, then the bytes behind
flat : (o : List ℕ) (at : ℕ) (s : List ℕ) → written o at s ≡ (take at o ++ s) ++ drop (at + length s) o
unfolding written
flat o at s = sym (append_assoc (take at o) s (drop (at + length s) o))

-- out is o with the first i bytes of s written at `at`
pub record PutAt (o : List ℕ) (at : ℕ) (s out : List ℕ) (i : ℕ) : Type 0 where
  pub room : at + length s ≤ length o
  pub within : i ≤ length s
  pub long : length out ≡ length o
  pub done : out ≡ paste o at s i

pub put-start : (o : List ℕ) (at : ℕ) (s : List ℕ) → at + length s ≤ length o → PutAt o at s o 0
put-start o at s h = record { room = h; within = omega arith; long = refl; done = paste-zero o at s }

module _ (o : List ℕ) (at : ℕ) (s out : List ℕ) (i : ℕ) (h : PutAt o at s out i) where
  pub put-more : i < length s → PutAt o at s (set out (at + i) (get_or s i 0)) (i + 1)
  put-more l = record {
    room = h.room;
    within = omega arith;
    long = length-set out (at + i) (get_or s i 0) ∙ h.long;
    done = rw (h.done, add-one i) (paste-suc o at s i 0 (omega (arith, h.room)) l);
  }

  pub put-within : i < length s → at + i < length out
  put-within l = omega (arith, h.room, h.long)

pub put-done : (o : List ℕ) (at : ℕ) (s out : List ℕ) → PutAt o at s out (length s) → Put o at s out (at + length s)
put-done o at s out h = record { place = refl; bytes = h.done ∙ rw (take_all (length s) s (omega arith)) (sym (flat o at s)) }

pub ruleset put_laws = (put-start, put-more, put-within, put-done)

drop_past : (p d : List ℕ) (n m : ℕ) → length p ≡ n → drop (n + m) (p ++ d) ≡ drop m d
drop_past p d n m e = rw (← e) (drop-append-add p d m)

pub written-two : (o : List ℕ) (at : ℕ) (s t : List ℕ) → at + length s ≤ length o → written (written o at s) (at + length s) t ≡ written o at (s ++ t)
written-two o at s t h =
    let p : List ℕ = take at o ++ s in
    let d : List ℕ = drop (at + length s) o in
    let lp : length p ≡ at + length s = length-append (take at o) s ∙ ap (λ (k : ℕ). k + length s) (length-take-le at o (omega arith)) in
    let e : drop (at + length s + length t) (p ++ d) ≡ drop (at + length s + length t) o =
    drop_past p d (at + length s) (length t) lp ∙ drop-drop (length t) (at + length s) o in
    rw (flat o at s, flat (p ++ d) (at + length s) t, flat o at (s ++ t), take_at p d (at + length s) lp, e, length-append s t, add_assoc at (length s) (length t), append_assoc (take at o) s t)

-- nothing more is written
pub written_none : (o : List ℕ) (at : ℕ) → written o at [] ≡ o
unfolding written
written_none o at = rw add-zero (take-append-drop at o)

pub written-long : (o : List ℕ) (at : ℕ) (s : List ℕ) → at + length s ≤ length o → length (written o at s) ≡ length o
unfolding written
written-long o at s h = simp (length-append, length-drop, length-take-le at o (omega arith)) (omega arith)

-- what was written leaves the buffer as long as it was
pub put-long : (o : List ℕ) (at : ℕ) (s out : List ℕ) (r : ℕ) → at + length s ≤ length o → Put o at s out r → length out ≡ length o
put-long o at s out r h p = rw p.bytes (written-long o at s h)

-- the room behind it
pub put-room : (o : List ℕ) (at : ℕ) (s out : List ℕ) (r n : ℕ) → at + (length s + n) ≤ length o → Put o at s out r → r + n ≤ length out
put-room o at s out r n h p = omega (arith, h, p.place, put-long o at s out r (omega arith) p)

-- two pieces in a row
pub put_both : (o : List ℕ) (at : ℕ) (s o₁ : List ℕ) (b : ℕ) (t o₂ : List ℕ) (c : ℕ) → at + length s ≤ length o → Put o at s o₁ b → Put o₁ b t o₂ c → Put o at (s ++ t) o₂ c
put_both o at s o₁ b t o₂ c h p q = record {
  place = rw (length-append s t) (omega (arith, p.place, q.place));
  bytes = q.bytes ∙ rw (p.bytes, p.place) (written-two o at s t h);
}

-- three pieces in a row: the room for each, and what is written
module _ (o : List ℕ) (at : ℕ) (s t u : List ℕ) (h : at + (length s + (length t + length u)) ≤ length o) where
  pub first-room : at + length s ≤ length o
  first-room = omega (arith, h)

  module _ (o₁ : List ℕ) (b : ℕ) (p : Put o at s o₁ b) where
    more : b + (length t + length u) ≤ length o₁
    more = put-room o at s o₁ b (length t + length u) h p

    pub second-room : b + length t ≤ length o₁
    second-room = omega (arith, more)

    module _ (o₂ : List ℕ) (c : ℕ) (q : Put o₁ b t o₂ c) where
      pub third-room : c + length u ≤ length o₂
      third-room = put-room o₁ b t o₂ c (length u) more q

      pub put_three : (o₃ : List ℕ) (d : ℕ) → Put o₂ c u o₃ d → Put o at (s ++ (t ++ u)) o₃ d
      put_three o₃ d r = put_both o at s o₁ b (t ++ u) o₃ d first-room p (put_both o₁ b t o₂ c u o₃ d second-room q r)

pub ruleset put_named_laws = (first-room, second-room, third-room, put_three)
