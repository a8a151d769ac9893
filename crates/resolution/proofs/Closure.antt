-- The closure of a step between names holds its start, is closed, and lies in every closed set that holds its start.
use mathlib.Core.Path.{◌≡◌, refl, sym, subst}
use Prim.Native.Nat.{ℕ, suc, ◌<◌}
use native.Mathlib.Omega.{arith}
use mathlib.Core.Bool.{false, not}
use mathlib.Core.List.Memᴰ
use mathlib.Core.List.{List, [], ◌∷◌, ◌++◌, flat_map}
use mathlib.Core.Logic.{⊎_elim}
use lib.ListN.{length}
use borrow.Author.Tests.{not-true}
use Rattle.records.specs.Name.{mem_name}
use Rattle.records.proofs.Logic.{by, not_of_false}
use Rattle.resolution.specs.Lists.{Mem, Name}
use Rattle.resolution.specs.Loop.{Result, done, fail, failed, go, loop, stop}
use Rattle.resolution.specs.Reach.{closure, ended, spread, widen, widened}
use Rattle.resolution.proofs.Enqueue.{fresh, fresh-lt}
use Rattle.resolution.proofs.Fuel.{fresh-length}
use Rattle.resolution.proofs.Lists.{flat_in, flat_out, keep_in, keep_out, mem_name_in, mem_name-out}
use Rattle.resolution.proofs.Loop.{loop-fuel, loop-inv, stop≠go}

module _ (onward : Name → List Name) where
  spread-out : (l : List Name) (n : Name) → Mem n (spread onward l) → (a : Name) × Mem a l × Mem n (onward a) × (mem_name n l ≡ false)
  unfolding spread
  spread-out l n h =
      let k = keep_out (λ x. not (mem_name x l)) (flat_map onward l) h in
      let r = flat_out onward l k.0 in
      (r.0, r.1, r.2, not-true (mem_name n l) k.1)

  -- a step adds the spread
  widen-go : (l t : List Name) → widen onward l ≡ go t → (x : Name) × (xs : List Name) × (spread onward l ≡ x ∷ xs) × (t ≡ (x ∷ xs) ++ l)
  unfolding widen
  widen-go l t h = turned (spread onward l) refl h
    where
      turned : (w : List Name) → spread onward l ≡ w → widened l w ≡ go t
          → (x : Name) × (xs : List Name) × (spread onward l ≡ x ∷ xs) × (t ≡ (x ∷ xs) ++ l)
      turned [] e k = unfold widened in stop≠go k
      turned (x ∷ xs) e k = (x, xs, e, unfold widened in cc)

  widen-stop : (l : List Name) → widen onward l ≡ stop → spread onward l ≡ []
  unfolding widen
  widen-stop l h = turned (spread onward l) h
    where
      turned : (w : List Name) → widened l w ≡ stop → w ≡ []
      turned [] k = refl
      turned (x ∷ xs) k = absurd (let z : ◌≡◌ {A = ℕ} 0 1 = unfold widened in cc in omega arith)

  widen-fail : (l : List Name) (a : Unit {0}) → widen onward l ≡ fail a → ⊥
  unfolding widen
  widen-fail l a h = turned (spread onward l) h
    where
      turned : (w : List Name) → widened l w ≡ fail a → ⊥
      turned [] k = let z : ◌≡◌ {A = ℕ} 0 1 = unfold widened in cc in omega arith
      turned (x ∷ xs) k = let z : ◌≡◌ {A = ℕ} 0 1 = unfold widened in cc in omega arith

  module _ (all : List Name) (inside : (n x : Name) → Mem x (onward n) → Mem x all) where
    falls : (l t : List Name) → widen onward l ≡ go t → fresh all t < fresh all l
    falls l t h =
        let r = widen-go l t h in
        let x : Name = r.0 in
        let s = spread-out l x (subst (λ (z : List Name). Mem x z) (sym r.2) (Memᴰ.head refl)) in
        rw r.3 (fresh-lt l ((x ∷ r.1) ++ l) (inside s.0 x s.2) s.3 (mem_name_in (Memᴰ.head refl)) (λ y k. mem_name_in (Memᴰ.append_right (x ∷ r.1) (mem_name-out y l k))))

    -- the loop ends
    closes : (start : List Name) → (t : List Name) × (loop (widen onward) tt (suc (length all)) start ≡ done t)
    closes start = turned _ refl
      where
        turned : (r : Result (List Name) (Unit {0})) → loop (widen onward) tt (suc (length all)) start ≡ r
            → (t : List Name) × (loop (widen onward) tt (suc (length all)) start ≡ done t)
        turned (failed a) e =
            let x = loop-fuel (widen onward) tt (λ u. Unit {0}) (λ u t p k. tt) (λ u. fresh all u) (λ u t p k. falls u t k) (suc (length all)) start a tt (omega (arith, fresh-length all start)) e in
            absurd (widen-fail x.0 a x.2)
        turned (done t) e = (t, e)

    -- what every step keeps holds of the closure, which no step widens
    close-inv : (P : List Name → Type 0) → ((l t : List Name) → P l → widen onward l ≡ go t → P t) → (start : List Name) → P start
        → P (closure onward all start) × (spread onward (closure onward all start) ≡ [])
    unfolding closure
    close-inv P k start p =
        let t = closes start in
        let r = loop-inv (widen onward) tt P k (suc (length all)) start t.0 p t.1 in
        rw t.1 (unfold ended in (r.0, widen-stop t.0 r.1))

    pub closure-holds : (start : List Name) (n : Name) → Mem n start → Mem n (closure onward all start)
    closure-holds start n h =
        (close-inv (λ l. Mem n l) (λ l t p k. let r = widen-go l t k in subst (λ (z : List Name). Mem n z) (sym r.3) (Memᴰ.append_right (r.0 ∷ r.1) p)) start h).0

    pub closure-closed : (start : List Name) (n x : Name) → Mem n (closure onward all start) → Mem x (onward n) → Mem x (closure onward all start)
    unfolding spread
    closure-closed start n x h k =
        let l : List Name = closure onward all start in
        let e = (close-inv (λ z. Unit {0}) (λ a b p q. tt) start tt).1 in
        by (mem_name x l) (λ y. mem_name-out x l y)
        (λ y. absurd (Memᴰ.not-nil (subst (λ (z : List Name). Mem x z) e (keep_in (λ z. not (mem_name z l)) (flat_in onward h k) (not_of_false y)))))

    pub closure-least : (C : Name → Type 0) → ((n x : Name) → C n → Mem x (onward n) → C x) → (start : List Name) → ((n : Name) → Mem n start → C n)
        → (n : Name) → Mem n (closure onward all start) → C n
    closure-least C c start s n h =
        (close-inv (λ l. (y : Name) → Mem y l → C y)
        (λ l t p k y m. let r = widen-go l t k in
        ⊎_elim (λ a. let o = spread-out l y (subst (λ (z : List Name). Mem y z) (sym r.2) a) in c o.0 y (p o.0 o.1) o.2)
        (λ a. p y a) (Memᴰ.append_cases (r.0 ∷ r.1) (subst (λ (z : List Name). Mem y z) r.3 m)))
        start s).0 n h
