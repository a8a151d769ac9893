-- Laws of the loop: of its invariants, of its fuel, and of one loop that follows another.
use mathlib.Core.Path.{◌≡◌, refl, sym, ap, ◌∙◌, subst}
use Prim.Native.Nat.{ℕ, zero, suc, ◌≤◌, ◌<◌}
use native.Mathlib.Omega.{arith}
use mathlib.Core.Logic.{◌⊎◌, inl, inr}
use Rattle.resolution.specs.Loop.{Step, stop, fail, go, Result, failed, done, after, loop, map_done}

module _ {S A : Type 0} where
  pub failed≠done : {X : Type 0} {a : A} {s : S} → ◌≡◌ {A = Result S A} (failed a) (done s) → X
  failed≠done e = absurd (let z : ◌≡◌ {A = ℕ} 0 1 = cc in omega arith)

  pub stop≠go : {X : Type 0} {s : S} → ◌≡◌ {A = Step S A} stop (go s) → X
  stop≠go e = absurd (let z : ◌≡◌ {A = ℕ} 0 1 = cc in omega arith)

  pub fail≠go : {X : Type 0} {a : A} {s : S} → ◌≡◌ {A = Step S A} (fail a) (go s) → X
  fail≠go e = absurd (let z : ◌≡◌ {A = ℕ} 0 1 = cc in omega arith)

  module _ (step : S → Step S A) (out : A) (P : S → Type 0) (keeps : (s t : S) → P s → step s ≡ go t → P t) where
    -- what each step keeps holds at the end, where the step stops
    pub loop-inv : (f : ℕ) (s t : S) → P s → loop step out f s ≡ done t → P t × (step t ≡ stop)
    unfolding loop after
    loop-inv zero s t p e = failed≠done e
    loop-inv (suc f) s t p e = turn (step s) refl e (λ u q. loop-inv f u t q)
      where
        turn : (r : Step S A) → step s ≡ r → after (λ u. loop step out f u) s r ≡ done t
            → ((u : S) → P u → loop step out f u ≡ done t → P t × (step t ≡ stop)) → P t × (step t ≡ stop)
        turn stop q h next = let same : s ≡ t = cc in (subst P same p, subst (λ (u : S). step u ≡ stop) same q)
        turn (fail a) q h next = failed≠done h
        turn (go u) q h next = next u (keeps s u p q) h

    -- with a falling number below the fuel, it fails only where a step fails
    module _ (size : S → ℕ) (falls : (s t : S) → P s → step s ≡ go t → size t < size s) where
      pub loop-fuel : (f : ℕ) (s : S) (a : A) → P s → size s < f → loop step out f s ≡ failed a → (t : S) × P t × (step t ≡ fail a)
      unfolding loop after
      loop-fuel zero s a p l e = absurd (omega arith)
      loop-fuel (suc f) s a p l e = turn (step s) refl e (λ u q m. loop-fuel f u a q m)
        where
          turn : (r : Step S A) → step s ≡ r → after (λ u. loop step out f u) s r ≡ failed a
              → ((u : S) → P u → size u < f → loop step out f u ≡ failed a → (t : S) × P t × (step t ≡ fail a)) → (t : S) × P t × (step t ≡ fail a)
          turn stop q h next = failed≠done (sym h)
          turn (fail b) q h next = let same : b ≡ a = cc in (s, p, q ∙ ap fail same)
          turn (go u) q h next = let m : size u < size s = falls s u p q in next u (keeps s u p q) (omega arith) h

-- ---- any fuel above a falling number gives the same: so an invariant of code may say "for every f above it"

module _ {S A : Type 0} (step : S → Step S A) (out : A) (P : S → Type 0) (keeps : (s t : S) → P s → step s ≡ go t → P t)
    (size : S → ℕ) (falls : (s t : S) → P s → step s ≡ go t → size t < size s) where
  pub loop-same : (f g : ℕ) (s : S) → P s → size s < f → size s < g → loop step out f s ≡ loop step out g s
  unfolding loop
  loop-same zero g s p a b = absurd (omega arith)
  loop-same (suc f) zero s p a b = absurd (omega arith)
  loop-same (suc f) (suc g) s p a b = turn (step s) refl (λ t q c d. loop-same f g t q c d)
    where
      turn : (r : Step S A) → step s ≡ r → ((t : S) → P t → size t < f → size t < g → loop step out f t ≡ loop step out g t)
          → after (λ t. loop step out f t) s r ≡ after (λ t. loop step out g t) s r
      turn stop e next = refl
      turn (fail x) e next = refl
      turn (go t) e next = let l : size t < size s = falls s t p e in next t (keeps s t p e) (omega arith) (omega arith)

-- ---- what a loop of code carries: with some fuel, the run from here gives `r`. A record: its arguments are read off a proof.

pub record Runs {S A : Type 0} (step : S → Step S A) (out : A) (s : S) (r : Result S A) : Type 0 where
  pub fuel : ℕ
  pub ends : loop step out fuel s ≡ r
  pub real : r ≡ failed out → ⊥

module _ {S A : Type 0} {step : S → Step S A} {out : A} {s : S} {r : Result S A} (w : Runs step out s r) where
  -- the fuel is not used up: what one more turn gives
  one_more : {X : Type 0} → ((f : ℕ) → after (λ t. loop step out f t) s (step s) ≡ r → X) → X
  one_more {X} k = go₂ w.fuel w.ends
    where
      go₂ : (f : ℕ) → loop step out f s ≡ r → X
      go₂ zero e = unfold loop in absurd (w.real (sym e))
      go₂ (suc f) e = unfold loop in k f e

  pub runs-go : {t : S} → step s ≡ go t → Runs step out t r
  runs-go {t} e = one_more (λ f h. record { fuel = f; ends = unfold after in subst (λ (z : Step S A). after (λ u. loop step out f u) s z ≡ r) e h; real = w.real })

  pub runs-stop : step s ≡ stop → r ≡ done s
  runs-stop e = one_more (λ f h. sym (unfold after in subst (λ (z : Step S A). after (λ u. loop step out f u) s z ≡ r) e h))

  pub runs-fail : {a : A} → step s ≡ fail a → r ≡ failed a
  runs-fail e = one_more (λ f h. sym (unfold after in subst (λ (z : Step S A). after (λ u. loop step out f u) s z ≡ r) e h))

-- ---- one loop follows another

-- what the second loop does, `z` at `w`, where the first does `r`: the same, or nothing yet
abbrev pub Follow : {S T A : Type 0} → (S → T) → T → Step T A → Step S A → Type 0
Follow view w z stop = z ≡ stop
Follow view w z (fail a) = z ≡ fail a
Follow view w z (go t) = (view t ≡ w) ⊎ (z ≡ go (view t))

module _ {S T A : Type 0} (step : S → Step S A) (step₂ : T → Step T A) (out : A) (view : S → T) where
  module _ (P : S → Type 0) (keeps : (s t : S) → P s → step s ≡ go t → P t) (follows : (s : S) → P s → Follow view (view s) (step₂ (view s)) (step s)) where
    pub loop-view : (f g : ℕ) → f ≤ g → (s : S) → P s → (loop step out f s ≡ failed out → ⊥)
        → loop step₂ out g (view s) ≡ map_done view (loop step out f s)
    unfolding loop
    loop-view zero g l s p h = absurd (h refl)
    loop-view (suc f) zero l s p h = absurd (omega arith)
    loop-view (suc f) (suc g) l s p h =
        turn (step s) refl (follows s p) h (λ t q k. loop-view f (suc g) (omega arith) t q k) (λ t q k. loop-view f g (omega arith) t q k)
      where
        Next : ℕ → Type 0
        Next z = (t : S) → P t → (loop step out f t ≡ failed out → ⊥) → loop step₂ out z (view t) ≡ map_done view (loop step out f t)

        turn : (r : Step S A) → step s ≡ r → Follow view (view s) (step₂ (view s)) r → (after (λ t. loop step out f t) s r ≡ failed out → ⊥)
            → Next (suc g) → Next g
            → after (λ t. loop step₂ out g t) (view s) (step₂ (view s)) ≡ map_done view (after (λ t. loop step out f t) s r)
        turn stop e w k still on = unfold after map_done in rw w
        turn (fail a) e w k still on = unfold after map_done in rw w
        turn (go t) e (inl w) k still on = unfold after in subst (λ (z : T). after (λ t. loop step₂ out g t) z (step₂ z) ≡ map_done view (loop step out f t)) w (still t (keeps s t p e) k)
        turn (go t) e (inr w) k still on = unfold after in rw w (on t (keeps s t p e) k)
