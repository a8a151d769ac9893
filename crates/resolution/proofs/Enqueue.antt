-- What queueing does: the one law of `enqueue`, and its instances.
use mathlib.Core.Path.{◌≡◌, refl, sym, subst}
use Prim.Native.Nat.{ℕ, suc, ◌+◌, ◌≤◌, ◌<◌}
use native.Mathlib.Omega.{arith}
use mathlib.Core.Bool.{Bool, true, false}
use mathlib.Core.List.Memᴰ
use mathlib.Core.List.{List, [], ◌∷◌, ◌++◌}
use mathlib.Core.Logic.{◌⊎◌, inr, ⊎_elim}
use lib.ListN.{length, length-append}
use Rattle.records.proofs.bytes.Laws.{same_refl}
use Rattle.records.proofs.Logic.{or_cases, or_left, or_right, true≠false}
use Rattle.records.specs.Bytes.{same_bytes}
use Rattle.records.specs.Request.{Request}
use Rattle.records.specs.Descriptor.{Descriptor, Requirement}
use Rattle.records.specs.Name.{mem_name}
use Rattle.resolution.specs.Lists.{Mem, Name}
use Rattle.resolution.specs.Resolution.{Choice, Enqueued, Item, QueuedBy, add, choose, enqueue, enqueue_next, enqueued, has_module, missing, pass, refuse, leads}
use Rattle.resolution.proofs.Lists.{same→}

pub missing≠enqueued : {X : Type 0} {n : Name} {o : QueuedBy} {m : List Name} {q : List Item} → missing n o ≡ enqueued m q → X
missing≠enqueued e = absurd (let z : ◌≡◌ {A = ℕ} 0 1 = cc in omega arith)

-- ---- met names

pub met-old : (x n : Name) (met : List Name) → mem_name x met ≡ true → mem_name x (n ∷ met) ≡ true
unfolding mem_name
met-old x n met h = or_right (same_bytes n x) (mem_name x met) h

pub met-new : (n : Name) (met : List Name) → mem_name n (n ∷ met) ≡ true
unfolding mem_name
met-new n met = or_left (same_bytes n n) (mem_name n met) (same_refl n)

pub met-cases : {X : Type 0} (x n : Name) (met : List Name) → mem_name x (n ∷ met) ≡ true → (x ≡ n → X) → (mem_name x met ≡ true → X) → X
unfolding mem_name
met-cases x n met h f g = or_cases (same_bytes n x) (mem_name x met) h (λ e. f (same→ x n e)) g

-- ---- how many of a list of names are not met

unfoldable pub count : Bool → ℕ → ℕ
count true k = k
count false k = suc k

unfoldable pub fresh : List Name → List Name → ℕ
fresh [] met = 0
fresh (x ∷ xs) met = count (mem_name x met) (fresh xs met)

count-le : (b c : Bool) (k l : ℕ) → (b ≡ true → c ≡ true) → l ≤ k → count c l ≤ count b k
unfolding count
count-le true true k l f h = h
count-le true false k l f h = true≠false (f refl) refl
count-le false true k l f h = omega arith
count-le false false k l f h = omega arith

pub fresh-le : (u : List Name) (met more : List Name) → ((x : Name) → mem_name x met ≡ true → mem_name x more ≡ true) → fresh u more ≤ fresh u met
unfolding fresh
fresh-le [] met more f = omega arith
fresh-le (x ∷ xs) met more f = count-le (mem_name x met) (mem_name x more) (fresh xs met) (fresh xs more) (f x) (fresh-le xs met more f)

count-lt : (b c : Bool) (k l : ℕ) → (b ≡ true → c ≡ true) → l < k → count c l < count b k
unfolding count
count-lt true true k l f h = h
count-lt true false k l f h = true≠false (f refl) refl
count-lt false true k l f h = omega arith
count-lt false false k l f h = omega arith

-- one more name of the list is met
pub fresh-lt : {n : Name} {u : List Name} (met more : List Name) → Mem n u → mem_name n met ≡ false → mem_name n more ≡ true
    → ((x : Name) → mem_name x met ≡ true → mem_name x more ≡ true) → fresh u more < fresh u met
unfolding fresh count
fresh-lt {n} met more (Memᴰ.head {x} {xs} e) h k f =
    rw (subst (λ (y : Name). mem_name y more ≡ true) e k, subst (λ (y : Name). mem_name y met ≡ false) e h) (omega (arith, fresh-le xs met more f))
fresh-lt met more (Memᴰ.tail {x} {xs} m) h k f =
    count-lt (mem_name x met) (mem_name x more) (fresh xs met) (fresh xs more) (f x) (fresh-lt met more m h k f)

-- ---- which requirements queue their names

-- the requirement queues its name, unless that is met: it leads, and is observable or not static
abbrev pub Queues : List Descriptor → Request → Requirement → Type 0
Queues s rq r = (leads rq r ≡ true) × ((has_module s r.name ≡ true) ⊎ (r.static ≡ false))

-- one that is not static does
pub not_static_queues : (s : List Descriptor) (rq : Request) (r : Requirement) → r.static ≡ false → Queues s rq r
unfolding leads
not_static_queues s rq r e = (rw e, inr e)

-- what is queued leads
pub add-leads : (x l b d : Bool) → choose x l false b d ≡ add → x ≡ true
unfolding choose
add-leads true l b d e = refl
add-leads false l b d e = absurd (let z : ◌≡◌ {A = ℕ} 0 1 = cc in omega arith)

-- ---- the law of queueing: what holds of the met names and the queue, and stays so with each name queued, holds at the end

abbrev pub item : Name → QueuedBy → Item
item n o = record { name = n; by = o }

module _ (in_round : Bool) (s : List Descriptor) (rq : Request) (by_of : ℕ → QueuedBy) where
  pub enqueue-inv : (P : List Name → List Item → Type 0) (rs : List Requirement) (j : ℕ) (met : List Name) (q : List Item) (met₂ : List Name) (q₂ : List Item)
      → ((r : Requirement) (i : ℕ) (mt : List Name) (w : List Item) → Mem r rs → mem_name r.name mt ≡ false → choose (leads rq r) in_round false (has_module s r.name) r.static ≡ add → P mt w → P (r.name ∷ mt) (w ++ (item r.name (by_of i) ∷ [])))
      → P met q → enqueue in_round s rq by_of rs j met q ≡ enqueued met₂ q₂ → P met₂ q₂
  unfolding enqueue
  enqueue-inv P [] j met q met₂ q₂ adds p e = let a : met ≡ met₂ = cc in let b : q ≡ q₂ = cc in subst (λ (x : List Name). P x q₂) a (subst (λ (y : List Item). P met y) b p)
  enqueue-inv P (r ∷ rs) j met q met₂ q₂ adds p e =
      turn (mem_name r.name met) refl e
      (λ mt w k. enqueue-inv P rs (suc j) mt w met₂ q₂ (λ r₂ i mt₂ w₂ m. adds r₂ i mt₂ w₂ (Memᴰ.tail m)) k)
    where
      more : List Name → List Item → Enqueued
      more mt w = enqueue in_round s rq by_of rs (suc j) mt w

      Below : Type 0
      Below = (mt : List Name) (w : List Item) → P mt w → more mt w ≡ enqueued met₂ q₂ → P met₂ q₂

      chosen : mem_name r.name met ≡ false → (c : Choice) → choose (leads rq r) in_round false (has_module s r.name) r.static ≡ c
          → enqueue_next c r.name (by_of j) met q more ≡ enqueued met₂ q₂ → Below → P met₂ q₂
      chosen h pass g k below = below met q p k
      chosen h add g k below = below _ _ (adds r j met q (Memᴰ.head refl) h g p) k
      chosen h refuse g k below = missing≠enqueued k

      turn : (b : Bool) → mem_name r.name met ≡ b
          → enqueue_next (choose (leads rq r) in_round b (has_module s r.name) r.static) r.name (by_of j) met q more ≡ enqueued met₂ q₂ → Below → P met₂ q₂
      turn true h k below = below met q p k
      turn false h k below = chosen h (choose (leads rq r) in_round false (has_module s r.name) r.static) refl k below

  -- nothing met is forgotten
  pub enqueue-mono : (rs : List Requirement) (j : ℕ) (met : List Name) (q : List Item) (met₂ : List Name) (q₂ : List Item) (x : Name)
      → enqueue in_round s rq by_of rs j met q ≡ enqueued met₂ q₂ → mem_name x met ≡ true → mem_name x met₂ ≡ true
  enqueue-mono rs j met q met₂ q₂ x e h = enqueue-inv (λ mt w. mem_name x mt ≡ true) rs j met q met₂ q₂ (λ r i mt w m n g k. met-old x r.name mt k) h e

  -- every requirement that leads is met at the end, but for a static one that is not observable
  pub enqueue-all : (rs : List Requirement) (j : ℕ) (met : List Name) (q : List Item) (met₂ : List Name) (q₂ : List Item) (r : Requirement)
      → enqueue in_round s rq by_of rs j met q ≡ enqueued met₂ q₂ → Mem r rs → Queues s rq r → mem_name r.name met₂ ≡ true
  unfolding enqueue
  enqueue-all [] j met q met₂ q₂ r e m h = absurd (Memᴰ.not-nil m)
  enqueue-all (r₁ ∷ rs) j met q met₂ q₂ r e m h =
      turn (mem_name r₁.name met) (leads rq r₁) (has_module s r₁.name) r₁.static in_round refl refl refl refl e
      (λ mt w k m₂. enqueue-all rs (suc j) mt w met₂ q₂ r k m₂ h)
    where
      more : List Name → List Item → Enqueued
      more mt w = enqueue in_round s rq by_of rs (suc j) mt w

      Goal : Type 0
      Goal = mem_name r.name met₂ ≡ true

      Below : Type 0
      Below = (mt : List Name) (w : List Item) → more mt w ≡ enqueued met₂ q₂ → Mem r rs → Goal

      -- the first is met now; or the requirement is a later one
      on : (mt : List Name) (w : List Item) → more mt w ≡ enqueued met₂ q₂ → (r ≡ r₁ → mem_name r₁.name mt ≡ true) → Below → Goal
      on mt w k f below = ⊎_elim
          (λ (c : r ≡ r₁). enqueue-mono rs (suc j) mt w met₂ q₂ r.name k (subst (λ (z : Requirement). mem_name z.name mt ≡ true) (sym c) (f c)))
          (λ m₂. below mt w k m₂) (Memᴰ.cases_cons m)

      still : leads rq r₁ ≡ false → r ≡ r₁ → mem_name r₁.name met ≡ true
      still u c = true≠false (subst (λ (z : Requirement). leads rq z ≡ true) c h.0) u

      clash : has_module s r₁.name ≡ false → r₁.static ≡ true → r ≡ r₁ → mem_name r₁.name met ≡ true
      clash u v c = ⊎_elim
          (λ (y : has_module s r.name ≡ true). true≠false (subst (λ (z : Requirement). has_module s z.name ≡ true) c y) u)
          (λ (y : r.static ≡ false). true≠false v (subst (λ (z : Requirement). z.static ≡ false) c y)) h.1

      turn : (b x c d l : Bool) → mem_name r₁.name met ≡ b → leads rq r₁ ≡ x → has_module s r₁.name ≡ c → r₁.static ≡ d
          → enqueue_next (choose x l b c d) r₁.name (by_of j) met q more ≡ enqueued met₂ q₂ → Below → Goal
      turn true x c d l p y u v k below = on met q k (λ _. p) below
      turn false false c d l p y u v k below = on met q k (still y) below
      turn false true true d l p y u v k below = on _ _ k (λ _. met-new r₁.name met) below
      turn false true false true l p y u v k below = on met q k (clash u v) below
      turn false true false false true p y u v k below = missing≠enqueued k
      turn false true false false false p y u v k below = on _ _ k (λ _. met-new r₁.name met) below

  -- a name queued is a name no longer fresh
  pub enqueue-size : (u : List Name) (rs : List Requirement) (j : ℕ) (met : List Name) (q : List Item) (met₂ : List Name) (q₂ : List Item)
      → ((r : Requirement) → Mem r rs → Mem r.name u) → enqueue in_round s rq by_of rs j met q ≡ enqueued met₂ q₂ → length q₂ + fresh u met₂ ≤ length q + fresh u met
  enqueue-size u rs j met q met₂ q₂ f e =
      enqueue-inv (λ mt w. length w + fresh u mt ≤ length q + fresh u met) rs j met q met₂ q₂
      (λ r i mt w m n g k. omega (arith, length-append w (item r.name (by_of i) ∷ []), fresh-lt mt (r.name ∷ mt) (f r m) n (met-new r.name mt) (λ x. met-old x r.name mt)))
      (omega arith) e
