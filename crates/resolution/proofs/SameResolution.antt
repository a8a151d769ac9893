-- Sets with the same observable modules in the same order resolve alike. Both runs are made side by side: the names in the two
-- queues are the same, and so are the records that queued them.
use mathlib.Core.Path.{◌≡◌, refl, sym, ap, ◌∙◌, subst}
use Prim.Native.Nat.{ℕ, zero, suc, ◌+◌, ◌≤◌}
use native.Mathlib.Omega.{arith}
use mathlib.Core.Bool.{Bool, true, false, cond}
use mathlib.Core.Option.{Option, none, some}
use mathlib.Core.List.{List, [], ◌∷◌, ◌++◌, map}
use lib.ListN.{length}
use Rattle.records.specs.Bytes.{same_bytes}
use Rattle.records.specs.Descriptor.{Descriptor, Requirement}
use Rattle.records.specs.Name.{java_base, mem_name}
use Rattle.records.specs.Request.{Request, is_permitted}
use Rattle.records.proofs.Logic.{by, clash, true≠false}
use Rattle.resolution.specs.Lists.{Name}
use Rattle.resolution.specs.Loop.{Result, Step, after, done, fail, failed, go, loop, stop}
use Rattle.resolution.specs.Owner.{least, owner_in, shared}
use Rattle.resolution.specs.Positions.{module_at}
use Rattle.resolution.specs.Resolution.{Choice, Enqueued, Item, QueuedBy, Refusal, State, add, as_requirement, base_met, base_queue, candidates, choose, enqueue, enqueue_next, enqueued, find, found, handled, has_module, index_of, java_base_not_found, missing, module_not_found, name_or_empty, observable, pass, passed, provider, providers, queue_fuel, ran, ran_out, refuse, required, resolve, root, round, round_on, rounds, run_queue, seeds, started, taken, tested, turn, leads}
use Rattle.resolution.specs.SameResolution.{SameQueuedBy, SameRefusal, SameResult, same-absent, same_base, same-done, same-failed, same-no-base, same_provider, same-required, same-root, same-split}
use Rattle.resolution.proofs.Enqueue.{fresh, item}
use Rattle.resolution.proofs.Find.{find-mem, has-find, has_some}
use Rattle.resolution.proofs.Firsts.{observable-twice}
use Rattle.resolution.proofs.Fuel.{queue_fuel_lem, round-size, rounds_fuel, seeds-size, size}
use Rattle.resolution.proofs.Observable.{find-observable}
use Rattle.resolution.proofs.Positions.{find_at, index-visible}

abbrev state : List Descriptor → List Name → List Item → State
state ms met q = record { resolved = ms; met = met; queue = q }

-- ---- what the two runs have in common

-- item by item the same name, queued by the same record
data SameQueue (s₁ s₂ : List Descriptor) : List Item → List Item → Type 0 where
  same-empty : SameQueue s₁ s₂ [] []
  same_item : (n : Name) {p₁ p₂ : QueuedBy} {q₁ q₂ : List Item} → SameQueuedBy s₁ s₂ p₁ p₂ → SameQueue s₁ s₂ q₁ q₂
      → SameQueue s₁ s₂ (item n p₁ ∷ q₁) (item n p₂ ∷ q₂)

data SameEnqueued (s₁ s₂ : List Descriptor) : Enqueued → Enqueued → Type 0 where
  same-missing : (n : Name) {p₁ p₂ : QueuedBy} → SameQueuedBy s₁ s₂ p₁ p₂ → SameEnqueued s₁ s₂ (missing n p₁) (missing n p₂)
  same_enqueued : (met : List Name) {q₁ q₂ : List Item} → SameQueue s₁ s₂ q₁ q₂ → SameEnqueued s₁ s₂ (enqueued met q₁) (enqueued met q₂)

data SameState (s₁ s₂ : List Descriptor) : State → State → Type 0 where
  same-state : (ms : List Descriptor) (met : List Name) {q₁ q₂ : List Item} → SameQueue s₁ s₂ q₁ q₂ → SameState s₁ s₂ (state ms met q₁) (state ms met q₂)

-- one step of each, at t₁ and t₂: both stop, and then the states are one; both fail; both go on, to states that R relates
data SameStep (s₁ s₂ : List Descriptor) (R : State → State → Type 0) (t₁ t₂ : State) : Step State Refusal → Step State Refusal → Type 0 where
  same_stop : t₁ ≡ t₂ → SameStep s₁ s₂ R t₁ t₂ stop stop
  same-fail : {a b : Refusal} → SameRefusal s₁ s₂ a b → SameStep s₁ s₂ R t₁ t₂ (fail a) (fail b)
  same-go : {u v : State} → R u v → SameStep s₁ s₂ R t₁ t₂ (go u) (go v)

module _ (s₁ s₂ : List Descriptor) where
  queue-end : {q₁ q₂ : List Item} (n : Name) {p₁ p₂ : QueuedBy} → SameQueuedBy s₁ s₂ p₁ p₂ → SameQueue s₁ s₂ q₁ q₂ → SameQueue s₁ s₂ (q₁ ++ (item n p₁ ∷ [])) (q₂ ++ (item n p₂ ∷ []))
  queue-end n p same-empty = same_item n p same-empty
  queue-end n p (same_item m o q) = same_item m o (queue-end n p q)

  -- two loops whose steps are the same, where neither uses up its fuel
  module _ (R : State → State → Type 0) (step₁ step₂ : State → Step State Refusal) (same : (t₁ t₂ : State) → R t₁ t₂ → SameStep s₁ s₂ R t₁ t₂ (step₁ t₁) (step₂ t₂)) where
    same-loop : (f g : ℕ) (t₁ t₂ : State) → R t₁ t₂ → (loop step₁ ran_out f t₁ ≡ failed ran_out → ⊥) → (loop step₂ ran_out g t₂ ≡ failed ran_out → ⊥)
        → SameResult s₁ s₂ (loop step₁ ran_out f t₁) (loop step₂ ran_out g t₂)
    unfolding loop
    same-loop zero g t₁ t₂ r h k = absurd (h refl)
    same-loop (suc f) zero t₁ t₂ r h k = absurd (k refl)
    same-loop (suc f) (suc g) t₁ t₂ r h k = turned (step₁ t₁) (step₂ t₂) (same t₁ t₂ r) h k (λ u v w a b. same-loop f g u v w a b)
      where
        turned : (x y : Step State Refusal) → SameStep s₁ s₂ R t₁ t₂ x y → (after (λ u. loop step₁ ran_out f u) t₁ x ≡ failed ran_out → ⊥)
            → (after (λ v. loop step₂ ran_out g v) t₂ y ≡ failed ran_out → ⊥)
            → ((u v : State) → R u v → (loop step₁ ran_out f u ≡ failed ran_out → ⊥) → (loop step₂ ran_out g v ≡ failed ran_out → ⊥) → SameResult s₁ s₂ (loop step₁ ran_out f u) (loop step₂ ran_out g v))
            → SameResult s₁ s₂ (after (λ u. loop step₁ ran_out f u) t₁ x) (after (λ v. loop step₂ ran_out g v) t₂ y)
        turned x y (same_stop e) a b next = unfold after in subst (λ (z : State). SameResult s₁ s₂ (done t₁) (done z)) e (same-done t₁)
        turned x y (same-fail e) a b next = unfold after in same-failed e
        turned x y (same-go {u} {v} w) a b next = unfold after in next u v w a b

-- ---- both runs

module _ (s₁ s₂ : List Descriptor) (same : observable s₁ ≡ observable s₂) (rq : Request) where
  -- a name finds the same module in both
  same-find : (n : Name) → find n s₁ ≡ find n s₂
  same-find n = sym (find-observable s₁ n) ∙ ap (find n) same ∙ find-observable s₂ n

  same-has : (n : Name) → has_module s₁ n ≡ has_module s₂ n
  same-has n = by (has_module s₁ n)
      (λ h. let r = has_some n s₁ h in h ∙ sym (has-find n s₂ r.0 (sym (same-find n) ∙ r.1)))
      (λ h. by (has_module s₂ n) (λ k. let r = has_some n s₂ k in true≠false (has-find n s₁ r.0 (same-find n ∙ r.1)) h) (λ k. h ∙ sym k))

  -- requirement j of the module that a name finds is the same record in both
  same_by : (n : Name) (m : Descriptor) → find n s₁ ≡ some m → (j : ℕ) → SameQueuedBy s₁ s₂ (required (index_of n s₁) j) (required (index_of n s₂) j)
  same_by n m f j =
      let h : has_module s₁ n ≡ true = has-find n s₁ m f in
      let k : has_module s₂ n ≡ true = sym (same-has n) ∙ h in
      let e : some (module_at s₁ (index_of n s₁)) ≡ some (module_at s₂ (index_of n s₂)) = sym (find_at n s₁ h) ∙ same-find n ∙ find_at n s₂ k in
      same-required (index_of n s₁) (index_of n s₂) j (index-visible n s₁ h) (index-visible n s₂ k) (cc)

  same-enqueue : (in_round : Bool) (of₁ of₂ : ℕ → QueuedBy) → ((j : ℕ) → SameQueuedBy s₁ s₂ (of₁ j) (of₂ j)) → (rs : List Requirement) (j : ℕ) (met : List Name) (q₁ q₂ : List Item)
      → SameQueue s₁ s₂ q₁ q₂ → SameEnqueued s₁ s₂ (enqueue in_round s₁ rq of₁ rs j met q₁) (enqueue in_round s₂ rq of₂ rs j met q₂)
  unfolding enqueue
  same-enqueue in_round of₁ of₂ at [] j met q₁ q₂ q = same_enqueued met q
  same-enqueue in_round of₁ of₂ at (r ∷ rs) j met q₁ q₂ q =
      subst (λ (b : Bool). SameEnqueued s₁ s₂ (next₁ (choose (leads rq r) in_round (mem_name r.name met) (has_module s₁ r.name) r.static)) (next₂ (choose (leads rq r) in_round (mem_name r.name met) b r.static)))
      (same-has r.name) (chosen (choose (leads rq r) in_round (mem_name r.name met) (has_module s₁ r.name) r.static) (λ mt a b w. same-enqueue in_round of₁ of₂ at rs (suc j) mt a b w))
    where
      more₁ : List Name → List Item → Enqueued
      more₁ mt w = enqueue in_round s₁ rq of₁ rs (suc j) mt w

      more₂ : List Name → List Item → Enqueued
      more₂ mt w = enqueue in_round s₂ rq of₂ rs (suc j) mt w

      next₁ : Choice → Enqueued
      next₁ c = enqueue_next c r.name (of₁ j) met q₁ more₁

      next₂ : Choice → Enqueued
      next₂ c = enqueue_next c r.name (of₂ j) met q₂ more₂

      chosen : (c : Choice) → ((mt : List Name) (a b : List Item) → SameQueue s₁ s₂ a b → SameEnqueued s₁ s₂ (more₁ mt a) (more₂ mt b)) → SameEnqueued s₁ s₂ (next₁ c) (next₂ c)
      chosen pass below = below met q₁ q₂ q
      chosen add below = below (r.name ∷ met) _ _ (queue-end s₁ s₂ r.name (at j) q)
      chosen refuse below = same-missing r.name (at j)

  -- ---- a turn

  module _ (in_round : Bool) (ms : List Descriptor) (met : List Name) (t₁ t₂ : State) where
    abbrev Turn : Step State Refusal → Step State Refusal → Type 0
    Turn x y = SameStep s₁ s₂ (SameState s₁ s₂) t₁ t₂ x y

    same-handled : (l : List Descriptor) (x y : Enqueued) → SameEnqueued s₁ s₂ x y → Turn (handled l x) (handled l y)
    unfolding handled
    same-handled l x y (same-missing n p) = same-fail (same-absent n p)
    same-handled l x y (same_enqueued mt q) = same-go (same-state l mt q)

    same-tested : (m : Descriptor) → find m.name s₁ ≡ some m → (q₁ q₂ : List Item) → SameQueue s₁ s₂ q₁ q₂ → (o : Option Name)
        → Turn (tested in_round s₁ rq ms m met q₁ o) (tested in_round s₂ rq ms m met q₂ o)
    unfolding tested
    same-tested m f q₁ q₂ q (some p) = same-fail (same-split p (name_or_empty (owner_in ms p)) m.name)
    same-tested m f q₁ q₂ q none =
        same-handled (ms ++ (m ∷ [])) _ _ (same-enqueue in_round (required (index_of m.name s₁)) (required (index_of m.name s₂)) (same_by m.name m f) m.requires 0 met q₁ q₂ q)

    same-found : (n : Name) (p₁ p₂ : QueuedBy) → SameQueuedBy s₁ s₂ p₁ p₂ → (q₁ q₂ : List Item) → SameQueue s₁ s₂ q₁ q₂ → (o : Option Descriptor) → find n s₁ ≡ o
        → Turn (found in_round s₁ rq (item n p₁) ms met q₁ o) (found in_round s₂ rq (item n p₂) ms met q₂ o)
    unfolding found
    same-found n p₁ p₂ p q₁ q₂ q none f = same-fail (absent (same_bytes n java_base))
      where
        absent : (b : Bool) → SameRefusal s₁ s₂ (cond b java_base_not_found (module_not_found n p₁)) (cond b java_base_not_found (module_not_found n p₂))
        absent true = same-no-base
        absent false = same-absent n p
    same-found n p₁ p₂ p q₁ q₂ q (some m) f = same-tested m (subst (λ (z : Name). find z s₁ ≡ some m) (sym (find-mem n s₁ m f).1) f) q₁ q₂ q (least (shared ms m))

    same-passed : (n : Name) (p₁ p₂ : QueuedBy) → SameQueuedBy s₁ s₂ p₁ p₂ → (q₁ q₂ : List Item) → SameQueue s₁ s₂ q₁ q₂ → (b : Bool)
        → Turn (passed in_round s₁ rq (item n p₁) ms met q₁ b) (passed in_round s₂ rq (item n p₂) ms met q₂ b)
    unfolding passed
    same-passed n p₁ p₂ p q₁ q₂ q false = same-go (same-state ms met q)
    same-passed n p₁ p₂ p q₁ q₂ q true =
        subst (λ (o : Option Descriptor). Turn (found in_round s₁ rq (item n p₁) ms met q₁ (find n s₁)) (found in_round s₂ rq (item n p₂) ms met q₂ o)) (same-find n)
        (same-found n p₁ p₂ p q₁ q₂ q (find n s₁) refl)

  same_turn : (in_round : Bool) (t₁ t₂ : State) → SameState s₁ s₂ t₁ t₂ → SameStep s₁ s₂ (SameState s₁ s₂) t₁ t₂ (turn in_round s₁ rq t₁) (turn in_round s₂ rq t₂)
  unfolding turn taken
  same_turn in_round t₁ t₂ (same-state ms met same-empty) = same_stop refl
  same_turn in_round t₁ t₂ (same-state ms met (same_item n {p₁} {p₂} {q₁} {q₂} p q)) = same-passed in_round ms met (state ms met (item n p₁ ∷ q₁)) (state ms met (item n p₂ ∷ q₂)) n p₁ p₂ p q₁ q₂ q (is_permitted rq n)

  same-run : (in_round : Bool) (ms : List Descriptor) (met : List Name) (q₁ q₂ : List Item) → SameQueue s₁ s₂ q₁ q₂
      → length q₁ + fresh (candidates s₁ rq) met ≤ length (candidates s₁ rq) → length q₂ + fresh (candidates s₂ rq) met ≤ length (candidates s₂ rq)
      → SameResult s₁ s₂ (run_queue in_round s₁ rq (state ms met q₁)) (run_queue in_round s₂ rq (state ms met q₂))
  unfolding run_queue size
  same-run in_round ms met q₁ q₂ q a b =
      same-loop s₁ s₂ (SameState s₁ s₂) (turn in_round s₁ rq) (turn in_round s₂ rq) (same_turn in_round) (queue_fuel s₁ rq) (queue_fuel s₂ rq) _ _ (same-state ms met q)
      (queue_fuel_lem s₁ rq in_round (state ms met q₁) a) (queue_fuel_lem s₂ rq in_round (state ms met q₂) b)

  -- ---- the rounds: they begin and end in the same state

  same-providers : (ms : List Descriptor) → providers s₁ rq ms ≡ providers s₂ rq ms
  unfolding providers
  same-providers ms = rw same

  same-ran : (t : State) (x y : Result State Refusal) → SameResult s₁ s₂ x y → SameStep s₁ s₂ ◌≡◌ t t (ran x) (ran y)
  unfolding ran
  same-ran t x y (same-done u) = same-go refl
  same-ran t x y (same-failed e) = same-fail e

  same-round : (t : State) → SameStep s₁ s₂ ◌≡◌ t t (round s₁ rq t) (round s₂ rq t)
  unfolding round
  same-round t =
      turned (queued₁ (providers s₁ rq t.resolved)) (queued₂ (providers s₂ rq t.resolved)) refl refl
      (subst (λ (rs : List Requirement). SameEnqueued s₁ s₂ (queued₁ (providers s₁ rq t.resolved)) (queued₂ rs)) (same-providers t.resolved)
      (same-enqueue false provider provider same_provider (providers s₁ rq t.resolved) 0 t.met [] [] same-empty))
    where
      queued₁ : List Requirement → Enqueued
      queued₁ rs = enqueue false s₁ rq provider rs 0 t.met []

      queued₂ : List Requirement → Enqueued
      queued₂ rs = enqueue false s₂ rq provider rs 0 t.met []

      turned : (x y : Enqueued) → queued₁ (providers s₁ rq t.resolved) ≡ x → queued₂ (providers s₂ rq t.resolved) ≡ y → SameEnqueued s₁ s₂ x y
          → SameStep s₁ s₂ ◌≡◌ t t (round_on s₁ rq t.resolved x) (round_on s₂ rq t.resolved y)
      turned x y a b (same-missing n p) = unfold round_on in same-fail (same-absent n p)
      turned x y a b (same_enqueued met same-empty) = unfold round_on in same_stop refl
      turned x y a b (same_enqueued met (same_item n {p₁} {p₂} {q₁} {q₂} p q)) = unfold round_on in
          same-ran t _ _ (same-run true t.resolved met (item n p₁ ∷ q₁) (item n p₂ ∷ q₂) (same_item n p q)
          (round-size s₁ rq t.resolved t.met met (item n p₁ ∷ q₁) a) (round-size s₂ rq t.resolved t.met met (item n p₂ ∷ q₂) b))

  same-rounds : (x y : Result State Refusal) → SameResult s₁ s₂ x y → SameResult s₁ s₂ (rounds s₁ rq x) (rounds s₂ rq y)
  unfolding rounds
  same-rounds x y (same-failed e) = same-failed e
  same-rounds x y (same-done t) =
      same-loop s₁ s₂ ◌≡◌ (round s₁ rq) (round s₂ rq)
      (λ t₁ t₂ e. subst (λ (z : State). SameStep s₁ s₂ ◌≡◌ t₁ z (round s₁ rq t₁) (round s₂ rq z)) e (same-round t₁))
      (suc (length s₁)) (suc (length s₂)) t t refl (rounds_fuel s₁ rq (suc (length s₁)) (omega arith) t) (rounds_fuel s₂ rq (suc (length s₂)) (omega arith) t)

  -- ---- the whole

  first-queue : (b : Bool) → SameQueue s₁ s₂ (base_queue b) (base_queue b)
  unfolding base_queue
  first-queue true = same-empty
  first-queue false = same_item java_base same_base same-empty

  pub same-resolution : SameResult s₁ s₂ (resolve s₁ rq) (resolve s₂ rq)
  unfolding resolve
  same-resolution =
      turned (seeds s₁ rq) (seeds s₂ rq) refl refl
      (unfold seeds in same-enqueue false root root same-root (map as_requirement rq.roots) 0 (base_met b) (base_queue b) (base_queue b) (first-queue b))
    where
      b : Bool
      b = mem_name java_base rq.roots

      turned : (x y : Enqueued) → seeds s₁ rq ≡ x → seeds s₂ rq ≡ y → SameEnqueued s₁ s₂ x y → SameResult s₁ s₂ (started s₁ rq x) (started s₂ rq y)
      turned x y u v (same-missing n p) = unfold started in same-failed (same-absent n p)
      turned x y u v (same_enqueued met {q₁} {q₂} q) = unfold started in
          same-rounds _ _ (same-run false [] met q₁ q₂ q (seeds-size s₁ rq met q₁ u) (seeds-size s₂ rq met q₂ v))

-- ---- of a set and its observable modules

pub visible-resolution : (s : List Descriptor) (rq : Request) → SameResult s (observable s) (resolve s rq) (resolve (observable s) rq)
visible-resolution s rq = same-resolution s (observable s) (sym (observable-twice s)) rq

-- where one is done, so is the other, with the same state
both-done : {s₁ s₂ : List Descriptor} {x y : Result State Refusal} (t : State) → SameResult s₁ s₂ x y → (x ≡ done t → y ≡ done t) × (y ≡ done t → x ≡ done t)
both-done t (same-done u) = (λ e. e, λ e. e)
both-done t (same-failed r) = (λ e. clash (cc), λ e. clash (cc))

pub visible-done : (s : List Descriptor) (rq : Request) (t : State) → resolve s rq ≡ done t → resolve (observable s) rq ≡ done t
visible-done s rq t = (both-done t (visible-resolution s rq)).0

pub done-visible : (s : List Descriptor) (rq : Request) (t : State) → resolve (observable s) rq ≡ done t → resolve s rq ≡ done t
done-visible s rq t = (both-done t (visible-resolution s rq)).1
