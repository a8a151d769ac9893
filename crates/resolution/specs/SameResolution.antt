-- Resolution of two sets that gives the same: the same state at the end, or the same refusal, where a position in a set is told by
-- the module that stands there.
use Rattle.std.specs.Prelude.{◌≡◌, true, List, ℕ}
use Rattle.records.specs.Descriptor.{Descriptor}
use Rattle.resolution.specs.Lists.{Name}
use Rattle.resolution.specs.Loop.{Result, failed, done}
use Rattle.resolution.specs.Positions.{module_at, is_visible}
use Rattle.resolution.specs.Resolution.{QueuedBy, base, root, required, provider, Refusal, module_not_found, java_base_not_found, split_package, State}

-- the same record of the request or of the two sets: where it is a requirement, both positions are visible, and the same module
-- stands there
pub data SameQueuedBy (s₁ s₂ : List Descriptor) : QueuedBy → QueuedBy → Type 0 where
  same_base : SameQueuedBy s₁ s₂ base base
  same-root : (i : ℕ) → SameQueuedBy s₁ s₂ (root i) (root i)
  same-required : (p₁ p₂ j : ℕ) → is_visible s₁ p₁ ≡ true → is_visible s₂ p₂ ≡ true → module_at s₁ p₁ ≡ module_at s₂ p₂
      → SameQueuedBy s₁ s₂ (required p₁ j) (required p₂ j)
  same_provider : (i : ℕ) → SameQueuedBy s₁ s₂ (provider i) (provider i)

-- the same refusal of 5 to 7, with the same names
pub data SameRefusal (s₁ s₂ : List Descriptor) : Refusal → Refusal → Type 0 where
  same-absent : (n : Name) {p₁ p₂ : QueuedBy} → SameQueuedBy s₁ s₂ p₁ p₂ → SameRefusal s₁ s₂ (module_not_found n p₁) (module_not_found n p₂)
  same-no-base : SameRefusal s₁ s₂ java_base_not_found java_base_not_found
  same-split : (p owner second : Name) → SameRefusal s₁ s₂ (split_package p owner second) (split_package p owner second)

-- both are done, in the same state: the same modules resolved in the same order, the same names met; or both meet the same refusal
pub data SameResult (s₁ s₂ : List Descriptor) : Result State Refusal → Result State Refusal → Type 0 where
  same-done : (t : State) → SameResult s₁ s₂ (done t) (done t)
  same-failed : {a b : Refusal} → SameRefusal s₁ s₂ a b → SameResult s₁ s₂ (failed a) (failed b)
