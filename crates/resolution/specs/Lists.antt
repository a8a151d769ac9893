-- Names, and the tests on lists that the definitions use.
use Rattle.std.specs.Prelude.{ℕ, Bool, false, ◌||◌, cond}
use Rattle.std.proofs.Math.Option.{Option, none, some}
use mathlib.Core.List.{List, [], ◌∷◌, Memᴰ}

-- the name of a module, a package or a service: its bytes
abbrev pub Name : Type 0
Name = List ℕ

-- a is an element of l
abbrev pub Mem : {A : Type 0} → A → List A → Type 0
Mem a l = Memᴰ a l

-- some element passes
unfoldable pub any : {A : Type 0} → (A → Bool) → List A → Bool
any p [] = false
any p (x ∷ xs) = p x || any p xs

-- the elements that pass, in their order
unfoldable pub keep : {A : Type 0} → (A → Bool) → List A → List A
keep p [] = []
keep p (x ∷ xs) = cond (p x) (x ∷ keep p xs) (keep p xs)

-- the first element that passes
unfoldable pub first : {A : Type 0} → (A → Bool) → List A → Option A
first p [] = none
first p (x ∷ xs) = cond (p x) (some x) (first p xs)
