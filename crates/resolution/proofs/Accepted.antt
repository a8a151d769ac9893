-- Demand 3, the closure and its smallness: the start, the rounds, and what holds when the rounds stop.
use mathlib.Core.Path.{◌≡◌, refl, sym, ap, ◌∙◌, subst}
use Prim.Native.Nat.{ℕ, suc}
use native.Mathlib.Omega.{arith}
use mathlib.Core.Bool.{Bool, true, false}
use mathlib.Core.Option.{Option, none, some}
use mathlib.Core.List.Memᴰ
use mathlib.Core.List.{List, [], ◌∷◌, ◌++◌, map}
use mathlib.Core.Logic.{inl, ⊎_elim}
use lib.ListN.{length}
use Rattle.records.proofs.bytes.Laws.{same_refl}
use Rattle.records.proofs.Logic.{and_both, and_left, and_right, by, or_left, true≠false}
use Rattle.records.specs.Bytes.{same_bytes}
use Rattle.records.specs.Descriptor.{Descriptor, Requirement}
use Rattle.records.specs.Name.{java_base, mem_name}
use Rattle.records.specs.Request.{Request, is_permitted}
use Rattle.resolution.specs.Closed.{Accepted, Closed, Member, Smallest}
use Rattle.resolution.specs.Lists.{Mem, Name, any, keep}
use Rattle.resolution.specs.Loop.{Result, Step, done, fail, failed, go, stop}
use Rattle.resolution.specs.Owner.{least, shared}
use Rattle.resolution.specs.Resolution.{Enqueued, Item, Refusal, State, as_requirement, base, base_met, base_queue, enqueue, enqueued, find, found, handled, index_of, is_provider, missing, observable, passed, provider, providers, queue_fuel, ran, ran_out, required, resolve, root, round, round_on, rounds, run_queue, seeds, started, taken, tested, turn}
use Rattle.resolution.proofs.Enqueue.{enqueue-all, enqueue-mono, met-new, not_static_queues}
use Rattle.resolution.proofs.Find.{find-mem, has-find}
use Rattle.resolution.proofs.Observable.{observable-found, found-observable}
use Rattle.resolution.proofs.Lists.{any_in, any_out, keep_in, keep_out, map_in, map-out, mem_name_in, mem_name-out}
use Rattle.resolution.proofs.Loop.{failed≠done, fail≠go, loop-inv, stop≠go}
use Rattle.resolution.proofs.Queue.{Front, Invariant, enqueue-front, front-add, keeps}

-- ---- where a turn stops, the queue is empty

pub go≠stop : {X : Type 0} {S A : Type 0} {s : S} → ◌≡◌ {A = Step S A} (go s) stop → X
go≠stop e = absurd (let z : ◌≡◌ {A = ℕ} 0 1 = cc in omega arith)

pub fail≠stop : {X : Type 0} {S A : Type 0} {a : A} → ◌≡◌ {A = Step S A} (fail a) stop → X
fail≠stop e = absurd (let z : ◌≡◌ {A = ℕ} 0 1 = cc in omega arith)

module _ (X : Type 0) (in_round : Bool) (s : List Descriptor) (rq : Request) (e : Item) (ms : List Descriptor) (met : List Name) (q : List Item) where
  handled-on : (l : List Descriptor) (r : Enqueued) → handled l r ≡ stop → X
  unfolding handled
  handled-on l (missing n o) h = fail≠stop h
  handled-on l (enqueued a b) h = go≠stop h

  tested-on : (m : Descriptor) (o : Option Name) → tested in_round s rq ms m met q o ≡ stop → X
  unfolding tested
  tested-on m (some p) h = fail≠stop h
  tested-on m none h = handled-on (ms ++ (m ∷ [])) (enqueue in_round s rq (required (index_of m.name s)) m.requires 0 met q) h

  found-on : (o : Option Descriptor) → found in_round s rq e ms met q o ≡ stop → X
  unfolding found
  found-on none h = fail≠stop h
  found-on (some m) h = tested-on m (least (shared ms m)) h

  passed_on : (b : Bool) → passed in_round s rq e ms met q b ≡ stop → X
  unfolding passed
  passed_on false h = go≠stop h
  passed_on true h = found-on (find e.name s) h

pub taken-stop : (in_round : Bool) (s : List Descriptor) (rq : Request) (ms : List Descriptor) (met : List Name) (q : List Item)
    → taken in_round s rq ms met q ≡ stop → q ≡ []
unfolding taken
taken-stop in_round s rq ms met [] h = refl
taken-stop in_round s rq ms met (e ∷ q) h = passed_on _ in_round s rq e ms met q (is_permitted rq e.name) h

-- ---- the whole resolution

-- once the roots are queued each of them is met
seeds-root : (s : List Descriptor) (rq : Request) (met : List Name) (q : List Item) (n : Name) → seeds s rq ≡ enqueued met q → Mem n rq.roots → mem_name n met ≡ true
unfolding seeds as_requirement
seeds-root s rq met q n e h =
    enqueue-all false s rq root (map as_requirement rq.roots) 0 (base_met (mem_name java_base rq.roots)) (base_queue (mem_name java_base rq.roots)) met q (as_requirement n) e (map_in as_requirement h) (not_static_queues s rq (as_requirement n) refl)

-- and java.base too
pub seeds-base : (s : List Descriptor) (rq : Request) (met : List Name) (q : List Item) → seeds s rq ≡ enqueued met q → mem_name java_base met ≡ true
unfolding seeds base_met
seeds-base s rq met q e = by (mem_name java_base rq.roots) (λ h. seeds-root s rq met q java_base e (mem_name-out java_base rq.roots h))
    (λ h. enqueue-mono false s rq root (map as_requirement rq.roots) 0 (base_met b) (base_queue b) met q java_base e (subst (λ (z : Bool). mem_name java_base (base_met z) ≡ true) (sym h) (met-new java_base [])))
  where
    b : Bool
    b = mem_name java_base rq.roots

-- what holds between rounds
abbrev pub Rest : List Descriptor → Request → (Name → Type 0) → State → Type 0
Rest s rq C st = Invariant s rq C st × (st.queue ≡ [])

module _ (s : List Descriptor) (rq : Request) (C : Name → Type 0) (closed : Closed s rq C) where
  pub run-inv : (in_round : Bool) (st t : State) → Invariant s rq C st → run_queue in_round s rq st ≡ done t → Rest s rq C t
  unfolding run_queue turn
  run-inv in_round st t i e =
      let r = loop-inv (turn in_round s rq) ran_out (Invariant s rq C) (keeps s rq C closed in_round) (queue_fuel s rq) st t i e in
      (r.0, taken-stop in_round s rq t.resolved t.met t.queue r.1)

  -- the start
  nothing : Front s rq C [] [] []
  unfolding mem_name
  nothing = record { cover = λ n h p. true≠false h refl; queued = λ e m. absurd (Memᴰ.not-nil m); small = λ n m h p f. true≠false h refl }

  pub first-front : (b : Bool) → Front s rq C [] (base_met b) (base_queue b)
  unfolding base_met base_queue
  first-front true = nothing
  first-front false = front-add s rq C [] java_base base [] [] (λ m p f. closed.base) nothing

  pub seeds-inv : (met : List Name) (q : List Item) → seeds s rq ≡ enqueued met q → Invariant s rq C (record { resolved = []; met = met; queue = q })
  unfolding seeds as_requirement base_met
  seeds-inv met q e =
      record {
        front = front;
        sound = λ m k. absurd (Memᴰ.not-nil k);
        base = seeds-base s rq met q e;
        roots = λ n. seeds-root s rq met q n e;
        reqs = λ m r k. absurd (Memᴰ.not-nil k);
        apart = λ m k p a. absurd (Memᴰ.not-nil a);
      }
    where
      b : Bool
      b = mem_name java_base rq.roots

      front : Front s rq C [] met q
      front = enqueue-front s rq C [] false root (map as_requirement rq.roots) 0 (base_met b) (base_queue b) met q
          (λ r m h l p f. let x = map-out as_requirement rq.roots h in
          subst (λ (z : Requirement). is_permitted rq z.name ≡ true → C z.name) (sym x.2) (closed.root x.0 x.1) p) (first-front b) e

  -- a round
  -- a provider that is queued is in C, where the modules resolved are
  pub provider_closed : (ms : List Descriptor) → ((u : Descriptor) → Mem u ms → (find u.name s ≡ some u) × C u.name) → (r : Requirement) (k : Descriptor) → Mem r (providers s rq ms)
      → is_permitted rq r.name ≡ true → find r.name s ≡ some k → C r.name
  unfolding providers is_provider as_requirement
  provider_closed ms known r k h p f =
      let x = map-out (λ (m : Descriptor). as_requirement m.name) (keep (is_provider ms rq) (observable s)) h in
      let m : Descriptor = x.0 in
      let y = keep_out (is_provider ms rq) (observable s) x.1 in
      let uses : Name → Bool = (λ v. any (λ (u : Descriptor). mem_name v u.uses) ms) in
      let v = any_out uses m.provides (and_right (is_permitted rq m.name) (any uses m.provides) y.1) in
      let u = any_out (λ (w : Descriptor). mem_name v.0 w.uses) ms v.2 in
      let su = known u.0 u.1 in
      let name-is : r.name ≡ m.name = ap (λ (z : Requirement). z.name) x.2 in
      let here : find m.name s ≡ some m = observable-found s m y.0 in
      subst C (sym name-is)
      (closed.provider u.0.name u.0 v.0 m.name m su.1 su.0
      (mem_name-out v.0 u.0.uses u.2) (and_left (is_permitted rq m.name) (any uses m.provides) y.1) here v.1)

  round-front : (st : State) → Rest s rq C st → (met : List Name) (q : List Item)
      → enqueue false s rq provider (providers s rq st.resolved) 0 st.met [] ≡ enqueued met q → Front s rq C st.resolved met q
  round-front st i met q e =
      enqueue-front s rq C st.resolved false provider (providers s rq st.resolved) 0 st.met [] met q
      (λ r k h l. provider_closed st.resolved (λ u h. let su = i.0.sound u h in (su.0, i.0.front.small u.name u su.2 su.1 su.0)) r k h)
      (subst (λ (z : List Item). Front s rq C st.resolved st.met z) i.1 i.0.front) e

  pub round-start : (st : State) → Rest s rq C st → (met : List Name) (q : List Item)
      → enqueue false s rq provider (providers s rq st.resolved) 0 st.met [] ≡ enqueued met q
      → Invariant s rq C (record { resolved = st.resolved; met = met; queue = q })
  round-start st i met q e =
      let grow : (n : Name) → mem_name n st.met ≡ true → mem_name n met ≡ true = (λ n h. enqueue-mono false s rq provider (providers s rq st.resolved) 0 st.met [] met q n e h) in
      record {
        front = round-front st i met q e;
        sound = λ m h. ((i.0.sound m h).0, (i.0.sound m h).1, grow m.name (i.0.sound m h).2);
        base = grow java_base i.0.base;
        roots = λ n h. grow n (i.0.roots n h);
        reqs = λ m r a b c. grow r.name (i.0.reqs m r a b c);
        apart = i.0.apart;
      }

  pub round_keeps : (st t : State) → Rest s rq C st → round s rq st ≡ go t → Rest s rq C t
  unfolding round round_on ran
  round_keeps st t i h = turned _ refl h
    where
      ended : (st₂ : State) → Invariant s rq C st₂ → (r : Result State Refusal) → run_queue true s rq st₂ ≡ r → ran r ≡ go t → Rest s rq C t
      ended st₂ j (failed a) e k = fail≠go k
      ended st₂ j (done u) e k = run-inv true st₂ t j (e ∙ ap done (cc))

      turned : (r : Enqueued) → enqueue false s rq provider (providers s rq st.resolved) 0 st.met [] ≡ r → round_on s rq st.resolved r ≡ go t
          → Rest s rq C t
      turned (missing n o) e k = fail≠go k
      turned (enqueued met []) e k = stop≠go k
      turned (enqueued met (a ∷ q)) e k = ended _ (round-start st i met (a ∷ q) e) _ refl k

  -- the end
  pub resolve-inv : (t : State) → resolve s rq ≡ done t → Rest s rq C t × (round s rq t ≡ stop)
  unfolding resolve started rounds
  resolve-inv t h = turned _ refl h
    where
      ended : (st : State) → Invariant s rq C st → (r : Result State Refusal) → run_queue false s rq st ≡ r → rounds s rq r ≡ done t
          → Rest s rq C t × (round s rq t ≡ stop)
      ended st i (failed a) e k = failed≠done k
      ended st i (done u) e k = loop-inv (round s rq) ran_out (Rest s rq C) round_keeps (suc (length s)) u t (run-inv false st u i e) k

      turned : (r : Enqueued) → seeds s rq ≡ r → started s rq r ≡ done t → Rest s rq C t × (round s rq t ≡ stop)
      turned (missing n o) e k = failed≠done k
      turned (enqueued met q) e k = ended _ (seeds-inv met q e) _ refl k

-- ---- demand 3, first half

pub trivial : (s : List Descriptor) (rq : Request) → Closed s rq (λ n. Unit {0})
trivial s rq = record { base = tt; root = λ n m p. tt; requirement = λ n m r k a b c l d e. tt; provider = λ n m v q k a b c d e f. tt }

pub base_permitted : (rq : Request) → is_permitted rq java_base ≡ true
unfolding is_permitted
base_permitted rq = or_left (same_bytes java_base java_base) _ (same_refl java_base)

module _ (s : List Descriptor) (rq : Request) (t : State) (h : resolve s rq ≡ done t) where
  fact : Rest s rq (λ n. Unit {0}) t × (round s rq t ≡ stop)
  fact = resolve-inv s rq (λ n. Unit {0}) (trivial s rq) t h

  resolved-of : (met : List Name) (q : List Item) → Front s rq (λ n. Unit {0}) t.resolved met q → q ≡ [] → (n : Name) → mem_name n met ≡ true
      → is_permitted rq n ≡ true → Member t.resolved n
  resolved-of met q f e n k p = ⊎_elim (λ a. a) (λ b. absurd (Memᴰ.not-nil (subst (λ (z : List Item). Mem b.0 z) e b.1))) (f.cover n k p)

  met_in : (n : Name) → mem_name n t.met ≡ true → is_permitted rq n ≡ true → Member t.resolved n
  met_in n k p = resolved-of t.met t.queue fact.0.0.front fact.0.1 n k p

  pub member : (n : Name) (m k : Descriptor) → Mem m t.resolved → m.name ≡ n → find n s ≡ some k → m ≡ k
  member n m k a b f =
      let e : find m.name s ≡ some m = (fact.0.0.sound m a).0 in
      let g : find n s ≡ some m = subst (λ (z : Name). find z s ≡ some m) b e in cc

  provider_in : (k : Descriptor) → Mem k (observable s) → is_provider t.resolved rq k ≡ true → is_permitted rq k.name ≡ true → Member t.resolved k.name
  unfolding round round_on ran providers
  provider_in k a b p = turned _ refl fact.1
    where
      need_it : Requirement
      need_it = as_requirement k.name

      here : Mem need_it (providers s rq t.resolved)
      here = map_in (λ (m : Descriptor). as_requirement m.name) (keep_in (is_provider t.resolved rq) a b)

      ended : (r : Result State Refusal) → ran r ≡ stop → Member t.resolved k.name
      ended (failed x) z = fail≠stop z
      ended (done x) z = go≠stop z

      turned : (r : Enqueued) → enqueue false s rq provider (providers s rq t.resolved) 0 t.met [] ≡ r → round_on s rq t.resolved r ≡ stop
          → Member t.resolved k.name
      turned (missing n o) e z = fail≠stop z
      turned (enqueued met []) e z =
          resolved-of met [] (round-front s rq (λ n. Unit {0}) (trivial s rq) t fact.0 met [] e) refl k.name
          (unfold as_requirement in enqueue-all false s rq provider (providers s rq t.resolved) 0 t.met [] met [] need_it e here (not_static_queues s rq need_it refl)) p
      turned (enqueued met (x ∷ q)) e z = ended (run_queue true s rq (record { resolved = t.resolved; met = met; queue = x ∷ q })) z

  pub closed-members : Closed s rq (Member t.resolved)
  unfolding is_provider
  closed-members = record {
    base = met_in java_base fact.0.0.base (base_permitted rq);
    root = λ n m p. met_in n (fact.0.0.roots n m) p;
    requirement = λ n m r k a f u l p g. let same : a.0 ≡ m = member n a.0 m a.1 a.2 f in
        met_in r.name (fact.0.0.reqs a.0 r a.1 (subst (λ (z : Descriptor). Mem r z.requires) (sym same) u) (l, inl (has-find r.name s k g))) p;
    provider = λ n m v q k a f u p g w. let same : a.0 ≡ m = member n a.0 m a.1 a.2 f in
        let x = find-mem q s k g in
        let pk : is_permitted rq k.name ≡ true = subst (λ (z : Name). is_permitted rq z ≡ true) (sym x.1) p in
        let used = any_in (λ (o : Descriptor). mem_name v o.uses) a.1 (mem_name_in (subst (λ (z : Descriptor). Mem v z.uses) (sym same) u)) in
        subst (λ (z : Name). Member t.resolved z) x.1
        (provider_in k (found-observable s q k g) (and_both pk (any_in (λ (y : Name). any (λ (o : Descriptor). mem_name y o.uses) t.resolved) w used)) pk);
  }

  pub members-smallest : Smallest s rq (Member t.resolved)
  members-smallest = record {
    observable = λ n a. (a.0, subst (λ (z : Name). find z s ≡ some a.0) a.2 (fact.0.0.sound a.0 a.1).0);
    closed = closed-members;
    smallest = λ C c n a.
        let i = resolve-inv s rq C c t h in
        let so = i.0.0.sound a.0 a.1 in
        subst C a.2 (i.0.0.front.small a.0.name a.0 so.2 so.1 so.0);
  }

pub accepted : (s : List Descriptor) (rq : Request) (t : State) → resolve s rq ≡ done t → Accepted s rq t.resolved
accepted s rq t h =
    let i = fact s rq t h in
    record { members = members-smallest s rq t h; sound = λ m k. (i.0.0.sound m k).0; apart = i.0.0.apart }
