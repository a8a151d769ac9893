-- What is told of an answer follows from what the answer is.
use Prim.Native.Nat.{ℕ}
use mathlib.Core.Path.{◌≡◌}
use mathlib.Core.Bool.{Bool}
use mathlib.Core.List.{List, [], ◌∷◌}
use Rattle.resolution.specs.Configuration.{member_words}
use Rattle.resolution.specs.Resolve.{Outcome}
use Rattle.resolution.specs.Row.{size}
use Rattle.access.specs.Access.{AccessAnswer, check_access}
use Rattle.host.specs.Host.{access_reply, outcome_reply}
use Rattle.host.specs.Reply.{answered, Told}
use Rattle.std.specs.Prelude.{Ok}

-- the count is the number of ones in the member words
pub tell_accepted : (o : Outcome) (ws particulars : List ℕ) (r n : ℕ) → o ≡ Ok tt → n ≡ size (member_words ws) → Told (answered (n ∷ [])) particulars r
    → Told (outcome_reply ws o) particulars r
unfolding outcome_reply
tell_accepted o ws particulars r n h en t = rw (h, ← en) t

-- the kind that is asked is that of the bool
pub access-told : (after : List ℕ) (r : ℕ) (f b : Bool) (s q c x y p : List ℕ) (a : AccessAnswer) → b ≡ f → a ≡ check_access f s q c x y p → Told (access_reply a) after r
    → Told (access_reply (check_access b s q c x y p)) after r
access-told after r f b s q c x y p a h e t = rw (h, ← e) t
