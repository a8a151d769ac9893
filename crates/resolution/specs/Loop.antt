-- A loop: a step is made again and again until it stops or fails. The fuel bounds the number of steps.
use Prim.Native.Nat.{ℕ, zero, suc}

-- what one step says of a state: the loop stops there, fails, or goes on with another state
pub data Step (S A : Type 0) : Type 0 where
  stop : Step S A
  fail : A → Step S A
  go : S → Step S A

-- what a loop gives
pub data Result (S A : Type 0) : Type 0 where
  failed : A → Result S A
  done : S → Result S A

module _ {S A : Type 0} where
  -- what follows a step at s
  unfoldable pub after : (S → Result S A) → S → Step S A → Result S A
  after k s stop = done s
  after k s (fail a) = failed a
  after k s (go t) = k t

  -- at most so many steps from s; `out` is the answer when the fuel is used up
  unfoldable pub loop : (S → Step S A) → A → ℕ → S → Result S A
  unfolding after
  loop step out zero s = failed out
  loop step out (suc f) s = after (λ t. loop step out f t) s (step s)

-- the result with its state seen in another form
unfoldable pub map_done : {S T A : Type 0} → (S → T) → Result S A → Result T A
map_done f (failed a) = failed a
map_done f (done s) = done (f s)
