-- Every refusal of resolution is true, by names: the name of 5 stands in the record that queued it, and no module has it; of 6, none
-- is java.base; the two modules of 7 are different, permitted, and both have the package.
use mathlib.Core.Path.{◌≡◌, refl, sym, ap, ◌∙◌, subst}
use Prim.Native.Nat.{ℕ, zero, suc, ◌+◌, ◌<◌}
use native.Mathlib.Omega.{arith}
use mathlib.Core.Bool.{Bool, true, false, cond}
use mathlib.Core.Option.{Option, none, some}
use mathlib.Core.List.Memᴰ
use mathlib.Core.List.{List, [], ◌∷◌, ◌++◌, map, append_assoc, append-nil}
use mathlib.Core.Logic.{◌⊎◌, inl, inr, ⊎_elim}
use lib.ListN.{length, get_or}
use Rattle.records.specs.Bytes.{before_bytes, same_bytes}
use Rattle.records.specs.Name.{java_base, mem_name}
use Rattle.records.specs.Descriptor.{Requirement, Descriptor, requirement_of}
use Rattle.records.specs.Request.{Request, is_permitted}
use Rattle.records.proofs.Logic.{clash, by, true≠false}
use Rattle.records.proofs.bytes.Laws.{same-eq, same_refl}
use Rattle.resolution.specs.Closed.{Closed}
use Rattle.resolution.specs.Lists.{Name, Mem, any, keep}
use Rattle.resolution.specs.Loop.{Step, stop, fail, go, Result, failed, done, after, loop}
use Rattle.resolution.specs.Owner.{least, lesser, shared, owner_in}
use Rattle.resolution.specs.Positions.{module_at, is_visible}
use Rattle.resolution.specs.Resolution.{Enqueued, Item, QueuedBy, Refusal, State, as_requirement, base, base_met, base_queue, choose, enqueue, enqueue_next, enqueued, find, found, handled, has_module, index_of, is_provider, java_base_not_found, observable, missing, module_not_found, names, name_or_empty, passed, provider, providers, queue_fuel, ran, ran_out, required, root, round, round_on, rounds, run_queue, seeds, split_package, started, taken, tested, turn, resolve, leads}
use Rattle.resolution.proofs.Accepted.{provider_closed, seeds-base}
use Rattle.resolution.proofs.Enqueue.{item, met-new, met-old, Queues}
use Rattle.resolution.proofs.Find.{find-mem, has-find}
use Rattle.resolution.proofs.Observable.{observable-mem}
use Rattle.resolution.proofs.Lists.{any_in, any_out, first_in, first_out, keep_out, map-append, map_in, map-out}
use Rattle.resolution.proofs.Positions.{index-visible, find_at}

-- ---- what a refusal says

-- Below, C is any set of names that is closed (demand 3): a module of C is one that every such set has.

-- requirement j of the module at p, which is observable, permitted and in C; it leads, and is not static or a module of the set
pub record RequiredAt (s : List Descriptor) (rq : Request) (C : Name → Type 0) (n : Name) (p j : ℕ) : Type 0 where
  pub visible : is_visible s p ≡ true
  pub permitted : is_permitted rq (module_at s p).name ≡ true
  pub reached : C (module_at s p).name
  pub within : j < length (module_at s p).requires
  pub name : (get_or (module_at s p).requires j (requirement_of [])).name ≡ n
  pub needed : Queues s rq (get_or (module_at s p).requires j (requirement_of []))

-- the name stands in the record that queued it: none where it is java.base in front; a provider is a module of the set
abbrev pub Stands : List Descriptor → Request → (Name → Type 0) → Name → QueuedBy → Type 0
Stands s rq C n base = ⊥
Stands s rq C n (root i) = (i < length rq.roots) × (get_or rq.roots i [] ≡ n)
Stands s rq C n (required p j) = RequiredAt s rq C n p j
Stands s rq C n (provider i) = has_module s n ≡ true

abbrev pub IsRequired : QueuedBy → Type 0
IsRequired base = ⊥
IsRequired (root i) = ⊥
IsRequired (required p j) = Unit {0}
IsRequired (provider i) = ⊥

-- 5: the record has the name, which is not java.base; no module has it; it is permitted, or that of a requirement
pub record AbsentBy (s : List Descriptor) (rq : Request) (C : Name → Type 0) (n : Name) (p : QueuedBy) : Type 0 where
  pub stands : Stands s rq C n p
  pub other : same_bytes n java_base ≡ false
  pub absent : has_module s n ≡ false
  pub wanted : (is_permitted rq n ≡ true) ⊎ IsRequired p

-- 7: the modules of these two names, which are different, permitted and in C, have the package
pub record SharedBy (s : List Descriptor) (rq : Request) (C : Name → Type 0) (p a b : Name) : Type 0 where
  pub owner : Descriptor
  pub second : Descriptor
  pub owner_found : find a s ≡ some owner
  pub second_found : find b s ≡ some second
  pub owner_permitted : is_permitted rq a ≡ true
  pub second_permitted : is_permitted rq b ≡ true
  pub owner_reached : C a
  pub second_reached : C b
  pub owner_has : mem_name p owner.packages ≡ true
  pub second_has : Mem p second.packages
  pub two : a ≡ b → ⊥

-- what a refusal says is so
abbrev pub Caused : List Descriptor → Request → (Name → Type 0) → Refusal → Type 0
Caused s rq C (module_not_found n p) = AbsentBy s rq C n p
Caused s rq C java_base_not_found = has_module s java_base ≡ false
Caused s rq C (split_package p a b) = SharedBy s rq C p a b
Caused s rq C ran_out = Unit {0}

-- ---- names that are all different

abbrev Differ : List Name → Type 0
Differ [] = Unit {0}
Differ (x ∷ l) = (Mem x l → ⊥) × Differ l

-- one in the middle is none of those before it
differ-before : (l r : List Name) (x : Name) → Differ (l ++ (x ∷ r)) → Mem x l → ⊥
differ-before [] r x d m = Memᴰ.not-nil m
differ-before (y ∷ l) r x d m = ⊎_elim
    (λ (e : x ≡ y). d.0 (subst (λ (z : Name). Mem z (l ++ (x ∷ r))) e (Memᴰ.append_right l (Memᴰ.head refl))))
    (λ k. differ-before l r x d.1 k) (Memᴰ.cases_cons m)

-- without it the others are so still
differ-without : (l r : List Name) (x : Name) → Differ (l ++ (x ∷ r)) → Differ (l ++ r)
differ-without [] r x d = d.1
differ-without (y ∷ l) r x d = (
  λ m. d.0 (⊎_elim (λ k. Memᴰ.append_left (x ∷ r) k) (λ k. Memᴰ.append_right l (Memᴰ.tail k)) (Memᴰ.append_cases l m)),
  differ-without l r x d.1,
)

-- so are those in front
differ-front : (l r : List Name) → Differ (l ++ r) → Differ l
differ-front [] r d = tt
differ-front (y ∷ l) r d = (λ m. d.0 (Memᴰ.append_left r m), differ-front l r d.1)

-- and with a new one at the end
differ-last : (l : List Name) (x : Name) → Differ l → (Mem x l → ⊥) → Differ (l ++ (x ∷ []))
differ-last [] x d n = (λ m. Memᴰ.not-nil m, tt)
differ-last (y ∷ l) x d n = (
  λ m. ⊎_elim (λ k. d.0 k) (λ k. n (Memᴰ.head (sym (Memᴰ.eq_of_singleton k)))) (Memᴰ.append_cases l m),
  differ-last l x d.1 (λ m. n (Memᴰ.tail m)),
)

-- ---- the invariant

-- the names resolved, then those queued
abbrev line : List Descriptor → List Item → List Name
line ms q = names ms ++ map (λ (e : Item). e.name) q

-- each name queued is java.base or stands in its record; the names resolved and queued are met and all different; once the roots
-- are queued (b), java.base is met; each module resolved is that of its name, permitted and in C, and so is each that is queued, if
-- it is permitted and observable
record Sound (s : List Descriptor) (rq : Request) (C : Name → Type 0) (b : Bool) (ms : List Descriptor) (met : List Name) (q : List Item) : Type 0 where
  queued : (e : Item) → Mem e q → (e.name ≡ java_base) ⊎ Stands s rq C e.name e.by
  met_all : (n : Name) → Mem n (line ms q) → mem_name n met ≡ true
  once : Differ (line ms q)
  base_met_lem : b ≡ true → mem_name java_base met ≡ true
  found_is : (m : Descriptor) → Mem m ms → (find m.name s ≡ some m) × (is_permitted rq m.name ≡ true)
  led : (m : Descriptor) → Mem m ms → C m.name
  small : (e : Item) → Mem e q → (m : Descriptor) → is_permitted rq e.name ≡ true → find e.name s ≡ some m → C e.name

abbrev SoundState : List Descriptor → Request → (Name → Type 0) → State → Type 0
SoundState s rq C st = Sound s rq C true st.resolved st.met st.queue

abbrev CausedEnqueued : List Descriptor → Request → (Name → Type 0) → Bool → List Descriptor → Enqueued → Type 0
CausedEnqueued s rq C b ms (missing n p) = AbsentBy s rq C n p
CausedEnqueued s rq C b ms (enqueued met q) = Sound s rq C b ms met q

abbrev CausedStep : List Descriptor → Request → (Name → Type 0) → Step State Refusal → Type 0
CausedStep s rq C stop = Unit {0}
CausedStep s rq C (fail a) = Caused s rq C a
CausedStep s rq C (go st) = SoundState s rq C st

abbrev CausedResult : List Descriptor → Request → (Name → Type 0) → Result State Refusal → Type 0
CausedResult s rq C (failed a) = Caused s rq C a
CausedResult s rq C (done st) = SoundState s rq C st

module _ (s : List Descriptor) (rq : Request) (C : Name → Type 0) (b : Bool) where
  -- one more name in the queue
  sound-add : (ms : List Descriptor) (met : List Name) (q : List Item) (n : Name) (p : QueuedBy) → mem_name n met ≡ false → (n ≡ java_base) ⊎ Stands s rq C n p
      → ((m : Descriptor) → is_permitted rq n ≡ true → find n s ≡ some m → C n) → Sound s rq C b ms met q → Sound s rq C b ms (n ∷ met) (q ++ (item n p ∷ []))
  sound-add ms met q n p new h in_c a = record {
    queued = λ e m. ⊎_elim (λ k. a.queued e k) (λ k. subst (λ (z : Item). (z.name ≡ java_base) ⊎ Stands s rq C z.name z.by) (sym (Memᴰ.eq_of_singleton k)) h) (Memᴰ.append_cases q m);
    met_all = λ x m. ⊎_elim (λ k. met-old x n met (a.met_all x k)) (λ k. subst (λ (z : Name). mem_name z (n ∷ met) ≡ true) (sym (Memᴰ.eq_of_singleton k)) (met-new n met))
        (Memᴰ.append_cases (line ms q) (subst (λ (l : List Name). Mem x l) longer m));
    once = subst Differ (sym longer) (differ-last (line ms q) n a.once (λ m. true≠false (a.met_all n m) new));
    base_met_lem = λ e. met-old java_base n met (a.base_met_lem e);
    found_is = a.found_is;
    led = a.led;
    small = λ e m. ⊎_elim (λ k. a.small e k)
        (λ k. subst (λ (z : Item). (m : Descriptor) → is_permitted rq z.name ≡ true → find z.name s ≡ some m → C z.name) (sym (Memᴰ.eq_of_singleton k)) in_c)
        (Memᴰ.append_cases q m);
  }
    where
      longer : line ms (q ++ (item n p ∷ [])) ≡ line ms q ++ (n ∷ [])
      longer = ap (λ (l : List Name). names ms ++ l) (map-append (λ (e : Item). e.name) q (item n p ∷ [])) ∙ sym (append_assoc (names ms) (map (λ (e : Item). e.name) q) (n ∷ []))

  -- the first of the queue is skipped
  sound-skip : (ms : List Descriptor) (met : List Name) (e : Item) (q : List Item) → Sound s rq C b ms met (e ∷ q) → Sound s rq C b ms met q
  sound-skip ms met e q a = record {
    queued = λ x m. a.queued x (Memᴰ.tail m);
    met_all = λ x m. a.met_all x (⊎_elim (λ k. Memᴰ.append_left _ k) (λ k. Memᴰ.append_right (names ms) (Memᴰ.tail k)) (Memᴰ.append_cases (names ms) m));
    once = differ-without (names ms) (map (λ (x : Item). x.name) q) e.name a.once;
    base_met_lem = a.base_met_lem;
    found_is = a.found_is;
    led = a.led;
    small = λ x m. a.small x (Memᴰ.tail m);
  }

  -- or resolved
  sound-take : (ms : List Descriptor) (met : List Name) (e : Item) (q : List Item) (m : Descriptor) → find e.name s ≡ some m → is_permitted rq e.name ≡ true
      → Sound s rq C b ms met (e ∷ q) → Sound s rq C b (ms ++ (m ∷ [])) met q
  sound-take ms met e q m f p a = record {
    queued = λ x k. a.queued x (Memᴰ.tail k);
    met_all = λ x k. a.met_all x (subst (λ (l : List Name). Mem x l) same k);
    once = subst Differ (sym same) a.once;
    base_met_lem = a.base_met_lem;
    found_is = λ x k. ⊎_elim (λ j. a.found_is x j) (λ j. subst (λ (z : Descriptor). (find z.name s ≡ some z) × (is_permitted rq z.name ≡ true)) (sym (Memᴰ.eq_of_singleton j)) here)
        (Memᴰ.append_cases ms k);
    led = λ x k. ⊎_elim (λ j. a.led x j)
        (λ j. subst (λ (z : Descriptor). C z.name) (sym (Memᴰ.eq_of_singleton j)) (subst C (sym is) (a.small e (Memᴰ.head refl) m p f))) (Memᴰ.append_cases ms k);
    small = λ x k. a.small x (Memᴰ.tail k);
  }
    where
      is : m.name ≡ e.name
      is = (find-mem e.name s m f).1

      here : (find m.name s ≡ some m) × (is_permitted rq m.name ≡ true)
      here = (subst (λ (z : Name). find z s ≡ some m) (sym is) f, subst (λ (z : Name). is_permitted rq z ≡ true) (sym is) p)

      same : line (ms ++ (m ∷ [])) q ≡ line ms (e ∷ q)
      same = ap (λ (l : List Name). l ++ map (λ (x : Item). x.name) q) (map-append (λ (x : Descriptor). x.name) ms (m ∷ []))
          ∙ append_assoc (names ms) (m.name ∷ []) (map (λ (x : Item). x.name) q)
          ∙ ap (λ (z : Name). names ms ++ (z ∷ map (λ (x : Item). x.name) q)) is

  -- the queue is left out
  sound-rest : (ms : List Descriptor) (met : List Name) (q : List Item) → Sound s rq C b ms met q → Sound s rq C b ms met []
  sound-rest ms met q a = record {
    queued = λ x m. absurd (Memᴰ.not-nil m);
    met_all = λ x m. a.met_all x (Memᴰ.append_left (map (λ (e : Item). e.name) q) (subst (λ (l : List Name). Mem x l) (append-nil (names ms)) m));
    once = subst Differ (sym (append-nil (names ms))) (differ-front (names ms) (map (λ (e : Item). e.name) q) a.once);
    base_met_lem = a.base_met_lem;
    found_is = a.found_is;
    led = a.led;
    small = λ x m. absurd (Memᴰ.not-nil m);
  }

-- nothing resolved, met or queued
sound_none : (s : List Descriptor) (rq : Request) (C : Name → Type 0) → Sound s rq C false [] [] []
sound_none s rq C = record {
  queued = λ e m. absurd (Memᴰ.not-nil m);
  met_all = λ n m. absurd (Memᴰ.not-nil m);
  once = tt;
  base_met_lem = λ e. true≠false e refl;
  found_is = λ m k. absurd (Memᴰ.not-nil k);
  led = λ m k. absurd (Memᴰ.not-nil k);
  small = λ e m. absurd (Memᴰ.not-nil m);
}

-- ---- queueing: each requirement stands in the record that queues it

module _ (s : List Descriptor) (rq : Request) (C : Name → Type 0) (b in_round : Bool) (late : in_round ≡ true → b ≡ true) (by_of : ℕ → QueuedBy) (rule : in_round ≡ true → (k : ℕ) → IsRequired (by_of k)) (ms : List Descriptor) where
  enqueue-caused : (rs : List Requirement) (j : ℕ) (met : List Name) (q : List Item)
      → ((i k : ℕ) → i < length rs → k ≡ j + i → Queues s rq (get_or rs i (requirement_of [])) → Stands s rq C (get_or rs i (requirement_of [])).name (by_of k))
      → ((r : Requirement) (m : Descriptor) → Mem r rs → leads rq r ≡ true → is_permitted rq r.name ≡ true → find r.name s ≡ some m → C r.name)
      → Sound s rq C b ms met q → CausedEnqueued s rq C b ms (enqueue in_round s rq by_of rs j met q)
  unfolding enqueue
  enqueue-caused [] j met q each in_c a = a
  enqueue-caused (r ∷ rs) j met q each in_c a =
      turned (mem_name r.name met) (leads rq r) (has_module s r.name) r.static in_round refl refl refl refl refl
      (λ mt w h. enqueue-caused rs (suc j) mt w (λ i k l e. each (suc i) k (omega arith) (omega arith)) (λ x m k. in_c x m (Memᴰ.tail k)) h)
    where
      more : List Name → List Item → Enqueued
      more mt w = enqueue in_round s rq by_of rs (suc j) mt w

      here : Queues s rq r → Stands s rq C r.name (by_of j)
      here = each 0 j (omega arith) (omega arith)

      Below : Type 0
      Below = (mt : List Name) (w : List Item) → Sound s rq C b ms mt w → CausedEnqueued s rq C b ms (more mt w)

      added : mem_name r.name met ≡ false → Queues s rq r → Below
          → CausedEnqueued s rq C b ms (more (r.name ∷ met) (q ++ (item r.name (by_of j) ∷ [])))
      added new n below = below (r.name ∷ met) (q ++ (item r.name (by_of j) ∷ [])) (sound-add s rq C b ms met q r.name (by_of j) new (inr (here n)) (λ m. in_c r m (Memᴰ.head refl) n.0) a)

      -- in a round java.base is met
      not-base : mem_name r.name met ≡ false → in_round ≡ true → same_bytes r.name java_base ≡ false
      not-base new i = by (same_bytes r.name java_base) (λ y. true≠false (subst (λ (z : Name). mem_name z met ≡ true) (sym (same-eq r.name java_base y)) (a.base_met_lem (late i))) new) (λ y. y)

      turned : (o x c d l : Bool) → mem_name r.name met ≡ o → leads rq r ≡ x → has_module s r.name ≡ c → r.static ≡ d → in_round ≡ l → Below
          → CausedEnqueued s rq C b ms (enqueue_next (choose x l o c d) r.name (by_of j) met q more)
      turned true x c d l new y u t i below = below met q a
      turned false false c d l new y u t i below = below met q a
      turned false true true d l new y u t i below = added new (y, inl u) below
      turned false true false true l new y u t i below = below met q a
      turned false true false false true new y u t i below = record { stands = here (y, inr t); other = not-base new i; absent = u; wanted = inr (rule i j) }
      turned false true false false false new y u t i below = added new (y, inr t) below

-- ---- a turn of the queue

least-mem : (l : List Name) (p : Name) → least l ≡ some p → Mem p l
unfolding least lesser
least-mem [] p e = clash (cc)
least-mem (x ∷ xs) p e = turned (least xs) refl e (λ k. least-mem xs p k)
  where
    picked : (y : Name) (b : Bool) → least xs ≡ some y → some (cond b y x) ≡ some p → (least xs ≡ some p → Mem p xs) → Mem p (x ∷ xs)
    picked y true h k below = let z : y ≡ p = cc in Memᴰ.tail (below (h ∙ ap some z))
    picked y false h k below = let z : p ≡ x = cc in Memᴰ.head z

    turned : (o : Option Name) → least xs ≡ o → lesser x o ≡ some p → (least xs ≡ some p → Mem p xs) → Mem p (x ∷ xs)
    turned none h k below = let z : p ≡ x = cc in Memᴰ.head z
    turned (some y) h k below = picked y (before_bytes y x) h k below

module _ (s : List Descriptor) (rq : Request) (C : Name → Type 0) (closed : Closed s rq C) (in_round : Bool) where
  handled-caused : (ms : List Descriptor) (r : Enqueued) → CausedEnqueued s rq C true ms r → CausedStep s rq C (handled ms r)
  unfolding handled
  handled-caused ms (missing n p) h = h
  handled-caused ms (enqueued met q) h = h

  -- requirement j of a module stands at its position in the set
  requires-stand : (m : Descriptor) → find m.name s ≡ some m → is_permitted rq m.name ≡ true → C m.name → (i k : ℕ) → i < length m.requires → k ≡ 0 + i
      → Queues s rq (get_or m.requires i (requirement_of [])) → Stands s rq C (get_or m.requires i (requirement_of [])).name (required (index_of m.name s) k)
  requires-stand m f p c i k l e d =
      let h : has_module s m.name ≡ true = has-find m.name s m f in
      let w : some m ≡ some (module_at s (index_of m.name s)) = sym f ∙ find_at m.name s h in
      let q : m ≡ module_at s (index_of m.name s) = cc in
      let z : i ≡ k = omega arith in
      let at : (x : Descriptor) → m ≡ x → get_or x.requires k (requirement_of []) ≡ get_or m.requires i (requirement_of [])
      = λ x y. ap (λ (v : Descriptor). get_or v.requires k (requirement_of [])) (sym y) ∙ ap (λ (v : ℕ). get_or m.requires v (requirement_of [])) (sym z) in
      record {
        visible = index-visible m.name s h;
        permitted = subst (λ (x : Descriptor). is_permitted rq x.name ≡ true) q p;
        reached = subst (λ (x : Descriptor). C x.name) q c;
        within = subst (λ (x : Descriptor). k < length x.requires) q (subst (λ (x : ℕ). x < length m.requires) z l);
        name = ap (λ (r : Requirement). r.name) (at _ q);
        needed = subst (λ (r : Requirement). Queues s rq r) (sym (at _ q)) d;
      }

  -- a package that is shared: its owner is a module resolved before, and so of another name
  shared-caused : (ms : List Descriptor) (met : List Name) (e : Item) (q : List Item) (m : Descriptor) (p : Name) → find e.name s ≡ some m → is_permitted rq e.name ≡ true
      → Sound s rq C true ms met (e ∷ q) → Mem p (shared ms m) → SharedBy s rq C p (name_or_empty (owner_in ms p)) m.name
  unfolding shared owner_in name_or_empty
  shared-caused ms met e q m p f permits a h =
      let k = keep_out (λ (x : Name). any (λ (o : Descriptor). mem_name x o.packages) ms) m.packages h in
      let o = any_out (λ (o : Descriptor). mem_name p o.packages) ms k.1 in
      let b = first_in (λ (o : Descriptor). mem_name p o.packages) o.1 o.2 in
      let c = first_out (λ (o : Descriptor). mem_name p o.packages) ms b.1 in
      owned b.0 (owner_in ms p) b.1 c.0 c.1 k.0
    where
      is : m.name ≡ e.name
      is = (find-mem e.name s m f).1

      owned : (o : Descriptor) (w : Option Descriptor) → w ≡ some o → Mem o ms → mem_name p o.packages ≡ true → Mem p m.packages → SharedBy s rq C p (name_or_empty w) m.name
      owned o w ew io has mine =
          subst (λ (z : Option Descriptor). SharedBy s rq C p (name_or_empty z) m.name) (sym ew)
          record {
            owner = o;
            second = m;
            owner_found = (a.found_is o io).0;
            second_found = subst (λ (z : Name). find z s ≡ some m) (sym is) f;
            owner_permitted = (a.found_is o io).1;
            second_permitted = subst (λ (z : Name). is_permitted rq z ≡ true) (sym is) permits;
            owner_reached = a.led o io;
            second_reached = subst C (sym is) (a.small e (Memᴰ.head refl) m permits f);
            owner_has = has;
            second_has = mine;
            two = λ y. differ-before (names ms) (map (λ (x : Item). x.name) q) e.name a.once (subst (λ (z : Name). Mem z (names ms)) (y ∙ is) (map_in (λ (x : Descriptor). x.name) io));
          }

  tested-caused : (ms : List Descriptor) (met : List Name) (e : Item) (q : List Item) (m : Descriptor) → find e.name s ≡ some m → is_permitted rq e.name ≡ true
      → Sound s rq C true ms met (e ∷ q) → (o : Option Name) → least (shared ms m) ≡ o → CausedStep s rq C (tested in_round s rq ms m met q o)
  unfolding tested
  tested-caused ms met e q m f p a (some x) l = shared-caused ms met e q m x f p a (least-mem (shared ms m) x l)
  tested-caused ms met e q m f p a none l =
      handled-caused (ms ++ (m ∷ [])) (enqueue in_round s rq (required (index_of m.name s)) m.requires 0 met q)
      (enqueue-caused s rq C true in_round (λ i. refl) (required (index_of m.name s)) (λ i k. tt) (ms ++ (m ∷ [])) m.requires 0 met q
      (requires-stand m here (subst (λ (z : Name). is_permitted rq z ≡ true) (sym is) p) reached)
      (λ r k h l w g. closed.requirement m.name m r k reached here h l w g)
      (sound-take s rq C true ms met e q m f p a))
    where
      is : m.name ≡ e.name
      is = (find-mem e.name s m f).1

      here : find m.name s ≡ some m
      here = subst (λ (z : Name). find z s ≡ some m) (sym is) f

      reached : C m.name
      reached = subst C (sym is) (a.small e (Memᴰ.head refl) m p f)

  absent-caused : (e : Item) → (e.name ≡ java_base) ⊎ Stands s rq C e.name e.by → is_permitted rq e.name ≡ true → find e.name s ≡ none
      → (b : Bool) → same_bytes e.name java_base ≡ b → Caused s rq C (cond b java_base_not_found (module_not_found e.name e.by))
  absent-caused e h p f b w = turned b w
    where
      gone : has_module s e.name ≡ false
      gone = by (has_module s e.name) (λ y. let z : some (module_at s (index_of e.name s)) ≡ none = sym (find_at e.name s y) ∙ f in clash (cc)) (λ y. y)

      turned : (c : Bool) → same_bytes e.name java_base ≡ c → Caused s rq C (cond c java_base_not_found (module_not_found e.name e.by))
      turned true k = subst (λ (z : Name). has_module s z ≡ false) (same-eq e.name java_base k) gone
      turned false k = record {
        stands = ⊎_elim (λ (y : e.name ≡ java_base). true≠false (subst (λ (z : Name). same_bytes z java_base ≡ true) (sym y) (same_refl java_base)) k) (λ y. y) h;
        other = k;
        absent = gone;
        wanted = inl p;
      }

  found-caused : (e : Item) (ms : List Descriptor) (met : List Name) (q : List Item) → is_permitted rq e.name ≡ true → Sound s rq C true ms met (e ∷ q)
      → (o : Option Descriptor) → find e.name s ≡ o → CausedStep s rq C (found in_round s rq e ms met q o)
  unfolding found
  found-caused e ms met q p a none f = absent-caused e (a.queued e (Memᴰ.head refl)) p f (same_bytes e.name java_base) refl
  found-caused e ms met q p a (some m) f = tested-caused ms met e q m f p a (least (shared ms m)) refl

  passed-caused : (e : Item) (ms : List Descriptor) (met : List Name) (q : List Item) → Sound s rq C true ms met (e ∷ q)
      → (b : Bool) → is_permitted rq e.name ≡ b → CausedStep s rq C (passed in_round s rq e ms met q b)
  unfolding passed
  passed-caused e ms met q a false p = sound-skip s rq C true ms met e q a
  passed-caused e ms met q a true p = found-caused e ms met q p a (find e.name s) refl

  taken-caused : (ms : List Descriptor) (met : List Name) (q : List Item) → Sound s rq C true ms met q → CausedStep s rq C (taken in_round s rq ms met q)
  unfolding taken
  taken-caused ms met [] a = tt
  taken-caused ms met (e ∷ q) a = passed-caused e ms met q a (is_permitted rq e.name) refl

  turn-caused : (st : State) → SoundState s rq C st → CausedStep s rq C (turn in_round s rq st)
  unfolding turn
  turn-caused st a = taken-caused st.resolved st.met st.queue a

-- ---- the loops

loop-caused : (s : List Descriptor) (rq : Request) (C : Name → Type 0) (step : State → Step State Refusal) → ((st : State) → SoundState s rq C st → CausedStep s rq C (step st))
    → (f : ℕ) (st : State) → SoundState s rq C st → CausedResult s rq C (loop step ran_out f st)
unfolding loop
loop-caused s rq C step keeps zero st a = tt
loop-caused s rq C step keeps (suc f) st a = turned (step st) (keeps st a) (loop-caused s rq C step keeps f)
  where
    turned : (r : Step State Refusal) → CausedStep s rq C r → ((t : State) → SoundState s rq C t → CausedResult s rq C (loop step ran_out f t))
        → CausedResult s rq C (after (λ t. loop step ran_out f t) st r)
    turned stop h next = unfold after in a
    turned (fail x) h next = unfold after in h
    turned (go t) h next = unfold after in next t h

module _ (s : List Descriptor) (rq : Request) (C : Name → Type 0) (closed : Closed s rq C) where
  run-caused : (in_round : Bool) (st : State) → SoundState s rq C st → CausedResult s rq C (run_queue in_round s rq st)
  unfolding run_queue
  run-caused in_round st a = loop-caused s rq C (turn in_round s rq) (turn-caused s rq C closed in_round) (queue_fuel s rq) st a

  get-mem : (rs : List Requirement) (i : ℕ) → i < length rs → Mem (get_or rs i (requirement_of [])) rs
  get-mem [] i l = absurd (omega arith)
  get-mem (r ∷ rs) zero l = Memᴰ.head refl
  get-mem (r ∷ rs) (suc i) l = Memᴰ.tail (get-mem rs i (omega arith))

  -- a provider is a module of the set
  providers-stand : (ms : List Descriptor) (i k : ℕ) → i < length (providers s rq ms) → k ≡ 0 + i
      → Queues s rq (get_or (providers s rq ms) i (requirement_of [])) → Stands s rq C (get_or (providers s rq ms) i (requirement_of [])).name (provider k)
  unfolding providers as_requirement has_module
  providers-stand ms i k l e d =
      let x = map-out (λ (m : Descriptor). as_requirement m.name) (keep (is_provider ms rq) (observable s)) (get-mem (providers s rq ms) i l) in
      let y = keep_out (is_provider ms rq) (observable s) x.1 in
      subst (λ (z : Requirement). has_module s z.name ≡ true) (sym x.2) (any_in (λ (m : Descriptor). same_bytes m.name x.0.name) (observable-mem s x.0 y.0) (same_refl x.0.name))

  ran-caused : (r : Result State Refusal) → CausedResult s rq C r → CausedStep s rq C (ran r)
  unfolding ran
  ran-caused (failed a) h = h
  ran-caused (done t) h = h

  round-on-caused : (ms : List Descriptor) (r : Enqueued) → CausedEnqueued s rq C true ms r → CausedStep s rq C (round_on s rq ms r)
  unfolding round_on
  round-on-caused ms (missing n p) h = h
  round-on-caused ms (enqueued met []) h = tt
  round-on-caused ms (enqueued met (e ∷ q)) h = ran-caused (run_queue true s rq (record { resolved = ms; met = met; queue = e ∷ q })) (run-caused true (record { resolved = ms; met = met; queue = e ∷ q }) h)

  round-caused : (st : State) → SoundState s rq C st → CausedStep s rq C (round s rq st)
  unfolding round
  round-caused st a = round-on-caused st.resolved (enqueue false s rq provider (providers s rq st.resolved) 0 st.met [])
      (enqueue-caused s rq C true false (λ i. refl) provider (λ i k. true≠false i refl) st.resolved (providers s rq st.resolved) 0 st.met [] (providers-stand st.resolved)
      (λ r k h l. provider_closed s rq C closed st.resolved (λ u h. ((a.found_is u h).0, a.led u h)) r k h) (sound-rest s rq C true st.resolved st.met st.queue a))

  rounds-caused : (r : Result State Refusal) → CausedResult s rq C r → CausedResult s rq C (rounds s rq r)
  unfolding rounds
  rounds-caused (failed a) h = h
  rounds-caused (done st) h = loop-caused s rq C (round s rq) round-caused (suc (length s)) st h

  roots-stand : (i k : ℕ) → i < length (map as_requirement rq.roots) → k ≡ 0 + i
      → Queues s rq (get_or (map as_requirement rq.roots) i (requirement_of [])) → Stands s rq C (get_or (map as_requirement rq.roots) i (requirement_of [])).name (root k)
  roots-stand i k l e d = named rq.roots i k l (omega arith)
    where
      named : (l : List Name) (i k : ℕ) → i < length (map as_requirement l) → k ≡ i → (k < length l) × (get_or l k [] ≡ (get_or (map as_requirement l) i (requirement_of [])).name)
      named [] i k h q = absurd (omega arith)
      named (x ∷ l) zero zero h q = (omega arith, unfold as_requirement in refl)
      named (x ∷ l) zero (suc k) h q = absurd (omega arith)
      named (x ∷ l) (suc i) zero h q = absurd (omega arith)
      named (x ∷ l) (suc i) (suc k) h q = let r = named l i k (omega arith) (omega arith) in (omega (arith, r.0), r.1)

  base-caused : (b : Bool) → Sound s rq C false [] (base_met b) (base_queue b)
  unfolding base_queue base_met mem_name
  base-caused true = sound_none s rq C
  base-caused false = sound-add s rq C false [] [] [] java_base base refl (inl refl) (λ m p f. closed.base) (sound_none s rq C)

  seeds-caused : CausedEnqueued s rq C false [] (seeds s rq)
  unfolding seeds as_requirement
  seeds-caused = enqueue-caused s rq C false false (λ i. i) root (λ i k. true≠false i refl) [] (map as_requirement rq.roots) 0 (base_met (mem_name java_base rq.roots)) (base_queue (mem_name java_base rq.roots))
      roots-stand
      (λ r m h l p f. let x = map-out as_requirement rq.roots h in
      subst (λ (z : Requirement). is_permitted rq z.name ≡ true → C z.name) (sym x.2) (closed.root x.0 x.1) p)
      (base-caused (mem_name java_base rq.roots))

  started-caused : (r : Enqueued) → seeds s rq ≡ r → CausedEnqueued s rq C false [] r → CausedResult s rq C (started s rq r)
  unfolding started
  started-caused (missing n p) e h = h
  started-caused (enqueued met q) e h = rounds-caused (run_queue false s rq (record { resolved = []; met = met; queue = q })) (run-caused false (record { resolved = []; met = met; queue = q }) first)
    where
      first : Sound s rq C true [] met q
      first = record { queued = h.queued; met_all = h.met_all; once = h.once; base_met_lem = λ i. seeds-base s rq met q e; found_is = h.found_is; led = h.led; small = h.small }

  -- every refusal is true
  pub refusal-caused : (r : Refusal) → resolve s rq ≡ failed r → Caused s rq C r
  unfolding resolve
  refusal-caused r e = subst (CausedResult s rq C) e (started-caused (seeds s rq) refl seeds-caused)
