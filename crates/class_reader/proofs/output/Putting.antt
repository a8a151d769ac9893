-- Writing piece by piece: what is still to be written behind the pieces that stand.
use Prim.Native.Nat.{ℕ, ◌+◌, ◌≤◌}
use mathlib.Core.Path.{◌≡◌, refl, sym, ◌∙◌, ap}
use mathlib.Core.List.{List, [], ◌++◌, append_assoc}
use native.Mathlib.Omega.{arith}
use lib.ListN.{length, take, drop, length-append}
use lib.Seq.{length-take-le, take-append-le, take-take, drop_at}
use Rattle.records.specs.Output.{written, Put}
use Rattle.records.proofs.output.Written.{put-long, written-two, written_none}

-- s is written into o at `at` where `left` is written into out at b
pub record Putting (o : List ℕ) (at : ℕ) (s out : List ℕ) (b : ℕ) (left : List ℕ) : Type 0 where
  pub long : length out ≡ length o
  pub room : b + length left ≤ length out
  pub place : at + length s ≡ b + length left
  pub same : written o at s ≡ written out b left

pub putting_start : (o : List ℕ) (at : ℕ) (s : List ℕ) → at + length s ≤ length o → Putting o at s o at s
putting_start o at s h = record { long = refl; room = h; place = refl; same = refl }

module _ (o : List ℕ) (at : ℕ) (s out : List ℕ) (b : ℕ) (left : List ℕ) (h : Putting o at s out b left) where
  module _ (u v : List ℕ) (e : left ≡ u ++ v) where
    both : length left ≡ length u + length v
    both = ap length e ∙ length-append u v

    pub putting_room : b + length u ≤ length out
    putting_room = omega (arith, h.room, both)

    pub putting_more : (out' : List ℕ) (b' : ℕ) → Put out b u out' b' → Putting o at s out' b' v
    putting_more out' b' p =
        let fits : b + length u ≤ length out = putting_room in
        let same-long : length out' ≡ length out = put-long out b u out' b' fits p in
        record {
          long = same-long ∙ h.long;
          room = omega (arith, h.room, both, p.place, same-long);
          place = omega (arith, h.place, both, p.place);
          same = h.same ∙ rw (e, p.bytes, p.place) (sym (written-two out b u v fits));
        }

  pub putting_done : left ≡ [] → Put o at s out b
  putting_done e = record {
    place = sym (h.place ∙ rw e (omega arith));
    bytes = sym (h.same ∙ rw e (written_none out b));
  }

-- ---- the piece in front is written last

written-front : (o : List ℕ) (at : ℕ) (s t : List ℕ) → at + length s ≤ length o → written (written o (at + length s) t) at s ≡ written o at (s ++ t)
unfolding written
written-front o at s t h =
    let n : ℕ = at + length s in
    let p : List ℕ = take n o in
    let d : List ℕ = drop (n + length t) o in
    let lp : length p ≡ n = length-take-le n o h in
    let a : take at (p ++ (t ++ d)) ≡ take at o = take-append-le at p (t ++ d) (omega (arith, lp)) ∙ take-take at n o (omega arith) in
    let e : at + length (s ++ t) ≡ n + length t = omega (arith, length-append s t) in
    rw (a, drop_at p (t ++ d) n lp, e, append_assoc s t d)

pub put_front : (o : List ℕ) (at n : ℕ) (s t o₁ : List ℕ) (b : ℕ) (o₂ : List ℕ) (c : ℕ) → length s ≡ n → at + n ≤ length o → Put o (at + n) t o₁ b → Put o₁ at s o₂ c
    → Put o at (s ++ t) o₂ b
put_front o at n s t o₁ b o₂ c e h p q = record {
  place = omega (arith, p.place, e, length-append s t);
  bytes = q.bytes ∙ rw (p.bytes, ← e) (written-front o at s t (omega (arith, h, e)));
}
