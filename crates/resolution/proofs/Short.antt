-- The short form is `resolve`, its queue seen as a line: the rounds, and the whole.
use mathlib.Core.Path.{◌≡◌, refl, sym, ap, ◌∙◌, subst}
use Prim.Native.Nat.{ℕ, suc}
use native.Mathlib.Omega.{arith}
use mathlib.Core.Bool.{Bool, true, false, not, ◌&&◌}
use mathlib.Core.Option.{Option, some}
use mathlib.Core.List.Memᴰ
use mathlib.Core.List.{List, [], ◌∷◌, ◌++◌, map}
use mathlib.Core.Logic.{◌⊎◌, inl, inr, ⊎_elim}
use lib.ListN.{length}
use borrow.Author.Tests.{not-true}
use Rattle.records.specs.Bytes.{same_bytes}
use Rattle.records.specs.Descriptor.{Descriptor, Requirement}
use Rattle.records.specs.Name.{java_base, mem_name}
use Rattle.records.specs.Request.{Request, is_permitted}
use Rattle.records.proofs.Logic.{and_both, and_left, and_right, by, not_of_false, or_cases, or_left, or_right, true≠false}
use Rattle.resolution.specs.Closed.{Member}
use Rattle.resolution.specs.Lists.{Mem, Name, any, keep}
use Rattle.resolution.specs.Loop.{Result, Step, done, failed, go, map_done}
use Rattle.resolution.specs.Resolution.{Enqueued, Item, Refusal, State, add, as_requirement, base, base_met, base_queue, choose, enqueue, enqueued, find, has_module, index_of, is_provider, missing, observable, provider, providers, queue_fuel, ran, ran_out, required, resolve, root, round, round_on, rounds, run_queue, seeds, started, taken, turn, leads}
use Rattle.resolution.specs.Short.{Line, Lined, Short, empty, line_of, met_before, never, put, short_base, short_enqueue, short_of, short_ran, short_resolve, short_round, short_round_from, short_round_on, short_rounds, short_run, short_started}
use Rattle.resolution.proofs.Accepted.{Rest, base_permitted, first-front, round_keeps, round-start, run-inv, seeds-inv, trivial}
use Rattle.resolution.proofs.Enqueue.{enqueue-inv, item, met-cases, not_static_queues}
use Rattle.resolution.proofs.Find.{has-find}
use Rattle.resolution.proofs.Observable.{observable-found}
use Rattle.resolution.proofs.Follow.{Good, Past, run-follows, run_past}
use Rattle.resolution.proofs.Fuel.{providers_in, rounds_fuel, seeds-size, size, size-round}
use Rattle.resolution.proofs.Line.{Ready, Whatever, past-add, put-empty, short-enqueue-view, view}
use Rattle.resolution.proofs.Lists.{any_in, any_out, keep_out, map-out, mem_name_in, mem_name-out, same→, →same}
use Rattle.resolution.proofs.Loop.{Follow, fail≠go, loop-inv, loop-view, stop≠go}
use Rattle.resolution.proofs.Queue.{Front, InQueue, Invariant, Turned, passed-inv, skipped, took}

-- ---- the absent names met before the rounds

module _ (rq : Request) where
  needs : Name → Descriptor → Bool
  needs n m = any (λ (r : Requirement). not r.static && same_bytes r.name n) m.requires

  old-root : (ms : List Descriptor) (n : Name) → Mem n rq.roots → met_before rq ms n ≡ true
  unfolding met_before needs
  old-root ms n h = or_left (mem_name n rq.roots) (any (needs n) ms) (mem_name_in h)

  old-req : (ms : List Descriptor) (m : Descriptor) (r : Requirement) → Mem m ms → Mem r m.requires → r.static ≡ false
      → met_before rq ms r.name ≡ true
  unfolding met_before needs
  old-req ms m r h k e = or_right (mem_name r.name rq.roots) (any (needs r.name) ms)
      (any_in (needs r.name) h (any_in (λ (x : Requirement). not x.static && same_bytes x.name r.name) k (and_both (not_of_false e) (→same refl))))

  old-out : (X : Type 0) (ms : List Descriptor) (n : Name) → met_before rq ms n ≡ true → (Mem n rq.roots → X)
      → ((m : Descriptor) (r : Requirement) → Mem m ms → Mem r m.requires → r.static ≡ false → r.name ≡ n → X) → X
  unfolding met_before needs
  old-out X ms n h f g = or_cases (mem_name n rq.roots) (any (needs n) ms) h (λ a. f (mem_name-out n rq.roots a))
      (λ a. let x = any_out (needs n) ms a in
      let m : Descriptor = x.0 in
      let y = any_out (λ (z : Requirement). not z.static && same_bytes z.name n) m.requires x.2 in
      let r : Requirement = y.0 in
      g m r x.1 y.1 (not-true r.static (and_left (not r.static) (same_bytes r.name n) y.2)) (sym (same→ n r.name (and_right (not r.static) (same_bytes r.name n) y.2))))

absent_static : (x l b d : Bool) → b ≡ false → choose x l false b d ≡ add → d ≡ false
unfolding choose
absent_static x l true d k w = true≠false refl k
absent_static x l false false k w = refl
absent_static false l false true k w = absurd (let z : ◌≡◌ {A = ℕ} 0 1 = cc in omega arith)
absent_static true l false true k w = absurd (let z : ◌≡◌ {A = ℕ} 0 1 = cc in omega arith)

module _ (s : List Descriptor) (rq : Request) where
  -- why an absent name is met
  abbrev Why : List Descriptor → List Name → Type 0
  Why ms met = (n : Name) → mem_name n met ≡ true → has_module s n ≡ false → (n ≡ java_base) ⊎ (met_before rq ms n ≡ true)

  why_turned : (ms : List Descriptor) (met : List Name) (e : Item) (q : List Item) (t : State) → Why ms met → Turned false s rq ms met e q t
      → Why t.resolved t.met
  why_turned ms met e q t w (skipped x) = w
  why_turned ms met e q t w (took m met₂ q₂ x f l k) =
      enqueue-inv false s rq (required (index_of m.name s)) (λ mt v. Why (ms ++ (m ∷ [])) mt) m.requires 0 met q met₂ q₂
      (λ r i mt v h new c g n a b. met-cases n r.name mt a
      (λ (u : n ≡ r.name). inr (subst (λ (z : Name). met_before rq (ms ++ (m ∷ [])) z ≡ true) (sym u)
      (old-req rq (ms ++ (m ∷ [])) m r (Memᴰ.append_right ms (Memᴰ.head refl)) h
      (absent_static (leads rq r) false (has_module s r.name) r.static (subst (λ (z : Name). has_module s z ≡ false) u b) c))))
      (λ u. g n u b))
      (λ n a b. ⊎_elim (λ u. inl u)
      (λ u. inr (old-out rq (met_before rq (ms ++ (m ∷ [])) n ≡ true) ms n u (λ y. old-root rq (ms ++ (m ∷ [])) n y)
      (λ k₂ r y z st na. subst (λ (v : Name). met_before rq (ms ++ (m ∷ [])) v ≡ true) na (old-req rq (ms ++ (m ∷ [])) k₂ r (Memᴰ.append_left (m ∷ []) y) z st)))) (w n a b))
      k

  why_taken : (ms : List Descriptor) (met : List Name) (q : List Item) (t : State) → Why ms met → taken false s rq ms met q ≡ go t
      → Why t.resolved t.met
  unfolding taken
  why_taken ms met [] t w h = stop≠go h
  why_taken ms met (e ∷ q) t w h = why_turned ms met e q t w (passed-inv false s rq ms met e q t (is_permitted rq e.name) refl h)

  run_why : (st t : State) → Why st.resolved st.met → run_queue false s rq st ≡ done t → Why t.resolved t.met
  unfolding run_queue turn
  run_why st t w e = (loop-inv (turn false s rq) ran_out (λ u. Why u.resolved u.met) (λ u v x h. why_taken u.resolved u.met u.queue v x h) (queue_fuel s rq) st t w e).0

  base_why : (b : Bool) → Why [] (base_met b)
  unfolding base_met
  base_why true n h k = unfold mem_name in true≠false h refl
  base_why false n h k = met-cases n java_base [] h (λ u. inl u) (λ u. unfold mem_name in true≠false u refl)

  seeds_why : (met : List Name) (q : List Item) → seeds s rq ≡ enqueued met q → Why [] met
  unfolding seeds as_requirement
  seeds_why met q e =
      enqueue-inv false s rq root (λ mt v. Why [] mt) (map as_requirement rq.roots) 0 (base_met b) (base_queue b) met q
      (λ r i mt v h new c g n a k. met-cases n r.name mt a
      (λ (u : n ≡ r.name). let x = map-out as_requirement rq.roots h in inr (subst (λ (z : Name). met_before rq [] z ≡ true) (sym (u ∙ ap (λ (z : Requirement). z.name) x.2)) (old-root rq [] x.0 x.1)))
      (λ u. g n u k)) (base_why b) e
    where
      b : Bool
      b = mem_name java_base rq.roots

  -- after the first run of the queue: what is absent was met just as `met_before` says
  first_past : (t : State) → Rest s rq Whatever t → Why t.resolved t.met → Past s rq true (met_before rq t.resolved) t.met
  first_past t r w lt n ns = by (met_before rq t.resolved n)
      (λ h. old-out rq (mem_name n t.met ≡ met_before rq t.resolved n) t.resolved n h
      (λ y. r.0.roots n y ∙ sym h)
      (λ m x y z st na. subst (λ (v : Name). mem_name v t.met ≡ true) na (r.0.reqs m x y z (not_static_queues s rq x st)) ∙ sym h))
      (λ h. by (mem_name n t.met)
      (λ k. ⊎_elim (λ (u : n ≡ java_base). true≠false base-observable (subst (λ (z : Name). has_module s z ≡ false) u ns)) (λ u. true≠false u h) (w n k ns))
      (λ k. k ∙ sym h))
    where
      base-observable : has_module s java_base ≡ true
      base-observable = ⊎_elim
          (λ (a : Member t.resolved java_base). subst (λ (z : Name). has_module s z ≡ true) a.2 (has-find a.0.name s a.0 (r.0.sound a.0 a.1).0))
          (λ (a : InQueue t.queue java_base). absurd (Memᴰ.not-nil (subst (λ (z : List Item). Mem a.0 z) r.1 a.1)))
          (r.0.front.cover java_base r.0.base (base_permitted rq))

-- ---- a round

module _ (s : List Descriptor) (rq : Request) (old : Name → Bool) where
  abbrev Between : State → Type 0
  Between st = Rest s rq Whatever st × Past s rq true old st.met

  -- what a round queues is permitted and observable
  Fits : Item → Type 0
  Fits a = (is_permitted rq a.name ≡ true) × (m : Descriptor) × (find a.name s ≡ some m)

  fits : (ms : List Descriptor) (met met₂ : List Name) (q : List Item) → enqueue false s rq provider (providers s rq ms) 0 met [] ≡ enqueued met₂ q
      → (a : Item) → Mem a q → Fits a
  unfolding Fits
  fits ms met met₂ q e =
      enqueue-inv false s rq provider (λ mt w. (a : Item) → Mem a w → Fits a) (providers s rq ms) 0 met [] met₂ q
      (λ r i mt w h new c g a k. ⊎_elim (λ u. g a u) (λ u. subst Fits (sym (Memᴰ.eq_of_singleton u)) (one r i h)) (Memᴰ.append_cases w k))
      (λ a k. absurd (Memᴰ.not-nil k)) e
    where
      one : (r : Requirement) (i : ℕ) → Mem r (providers s rq ms) → Fits (item r.name (provider i))
      one r i h = unfold providers as_requirement is_provider in
          (let x = map-out (λ (m : Descriptor). as_requirement m.name) (keep (is_provider ms rq) (observable s)) h in
          let m : Descriptor = x.0 in
          let y = keep_out (is_provider ms rq) (observable s) x.1 in
          let n : r.name ≡ m.name = ap (λ (z : Requirement). z.name) x.2 in
          (subst (λ (z : Name). is_permitted rq z ≡ true) (sym n) (and_left (is_permitted rq m.name) _ y.1), m, subst (λ (z : Name). find z s ≡ some m) (sym n) (observable-found s m y.0)))

  round-past : (ms : List Descriptor) (met met₂ : List Name) (q : List Item) → enqueue false s rq provider (providers s rq ms) 0 met [] ≡ enqueued met₂ q
      → Past s rq true old met → Past s rq true old met₂
  round-past ms met met₂ q e p =
      enqueue-inv false s rq provider (λ mt w. Past s rq true old mt) (providers s rq ms) 0 met [] met₂ q
      (λ r i mt w h new c g lt. let y = providers_in s rq ms r h in
      past-add s old r.name mt (subst (λ (z : Name). has_module s z ≡ true) (sym y.2) (has-find y.0.name s y.0 (observable-found s y.0 y.1))) (g lt)) p e

  head-waits : (e : Item) (q : List Item) (m : Descriptor) → is_permitted rq e.name ≡ true → find e.name s ≡ some m
      → (line_of s rq (e ∷ q)).todo ≡ m ∷ (line_of s rq q).todo
  unfolding line_of put
  head-waits e q m p f = rw (p, f)

  from-line : (ms t : List Descriptor) (h : Option Item) (m : Descriptor) (r : List Descriptor) → t ≡ m ∷ r
      → short_round_from old s rq ms t h ≡ short_ran (short_run true old s rq (record { resolved = ms; line = record { todo = t; halt = h } }))
  unfolding short_round_from
  from-line ms [] h m r e = absurd (let z : ◌≡◌ {A = ℕ} 0 1 = cc in omega arith)
  from-line ms (x ∷ xs) h m r e = refl

  start : (st : State) → Between st → (met : List Name) (q : List Item)
      → enqueue false s rq provider (providers s rq st.resolved) 0 st.met [] ≡ enqueued met q
      → Invariant s rq Whatever (record { resolved = st.resolved; met = met; queue = q })
  start st g met q e = round-start s rq Whatever (trivial s rq) st g.0 met q e

  round-follows : (st : State) → Between st → Follow (short_of s rq) (short_of s rq st) (short_round old s rq (short_of s rq st)) (round s rq st)
  unfolding short_round round Fits line_of
  round-follows st g = turned _ (enqueue false s rq provider (providers s rq st.resolved) 0 st.met []) refl
      (short-enqueue-view false never s rq provider st.resolved (providers s rq st.resolved) 0 st.met [] ready)
    where
      w : Short
      w = short_of s rq st

      ready : Ready false never s rq st.resolved st.met []
      ready = record {
        front = subst (λ (z : List Item). Front s rq Whatever st.resolved st.met z) g.0.1 g.0.0.front;
        resolved_met = λ m h. (g.0.0.sound m h).2;
        past = λ lt. true≠false lt refl;
      }

      ended : (r : Result State Refusal) → Follow (short_of s rq) w (short_ran (map_done (short_of s rq) r)) (ran r)
      ended (failed a) = unfold map_done short_ran ran in refl
      ended (done u) = unfold map_done short_ran ran in inr refl

      queued : (met : List Name) (a : Item) (q : List Item)
          → enqueue false s rq provider (providers s rq st.resolved) 0 st.met [] ≡ enqueued met (a ∷ q)
          → Follow (short_of s rq) w (short_round_from old s rq st.resolved (line_of s rq (a ∷ q)).todo (line_of s rq (a ∷ q)).halt) (ran (run_queue true s rq (record { resolved = st.resolved; met = met; queue = a ∷ q })))
      queued met a q e =
          let f = fits st.resolved st.met met (a ∷ q) e a (Memᴰ.head refl) in
          let st₂ : State = record { resolved = st.resolved; met = met; queue = a ∷ q } in
          let good : Good s rq true old st₂ = (start st g met (a ∷ q) e, round-past st.resolved st.met met (a ∷ q) e g.1) in
          let line : short_round_from old s rq st.resolved (line_of s rq (a ∷ q)).todo (line_of s rq (a ∷ q)).halt ≡ short_ran (short_run true old s rq (short_of s rq st₂))
          = from-line st.resolved (line_of s rq (a ∷ q)).todo (line_of s rq (a ∷ q)).halt f.1 (line_of s rq q).todo (head-waits a q f.1 f.0 f.2) in
          let run = run-follows s rq true old st₂ good (size-round s rq st.resolved st.met met (a ∷ q) e) in
          subst (λ (z : Step Short Refusal). Follow (short_of s rq) w z (ran (run_queue true s rq st₂))) (sym (line ∙ ap short_ran run)) (ended (run_queue true s rq st₂))

      turned : (z : Lined) (r : Enqueued) → enqueue false s rq provider (providers s rq st.resolved) 0 st.met [] ≡ r → z ≡ view s rq r
          → Follow (short_of s rq) w (short_round_on old s rq st.resolved z) (round_on s rq st.resolved r)
      turned z (missing n o) e h = unfold view short_round_on round_on in rw h
      turned z (enqueued met []) e h = unfold view short_round_on round_on line_of empty short_round_from in rw h
      turned z (enqueued met (a ∷ q)) e h = unfold view short_round_on round_on in rw h (queued met a q e)

  between-keeps : (st t : State) → Between st → round s rq st ≡ go t → Between t
  unfolding round round_on ran
  between-keeps st t g h = (unfold round in round_keeps s rq Whatever (trivial s rq) st t g.0 h, turned _ refl h)
    where
      ended : (st₂ : State) → Past s rq true old st₂.met → (r : Result State Refusal) → run_queue true s rq st₂ ≡ r → ran r ≡ go t
          → Past s rq true old t.met
      ended st₂ p (failed a) e k = fail≠go k
      ended st₂ p (done u) e k = run_past s rq true old st₂ t p (e ∙ ap done (cc))

      turned : (r : Enqueued) → enqueue false s rq provider (providers s rq st.resolved) 0 st.met [] ≡ r → round_on s rq st.resolved r ≡ go t
          → Past s rq true old t.met
      turned (missing n o) e k = fail≠go k
      turned (enqueued met []) e k = stop≠go k
      turned (enqueued met (a ∷ q)) e k = ended (record { resolved = st.resolved; met = met; queue = a ∷ q }) (round-past st.resolved st.met met (a ∷ q) e g.1) _ refl k

-- ---- the whole

module _ (s : List Descriptor) (rq : Request) where
  base-line : (b : Bool) → short_base rq s b ≡ line_of s rq (base_queue b)
  unfolding short_base base_queue line_of
  base-line true = refl
  base-line false = rw (base_permitted rq) (sym (put-empty true (find java_base s) (item java_base base)))

  rounds_follow : (st : State) → Rest s rq Whatever st → Past s rq true (met_before rq st.resolved) st.met
      → short_rounds s rq (done (short_of s rq st)) ≡ map_done (short_of s rq) (rounds s rq (done st))
  unfolding short_rounds rounds
  rounds_follow st r p =
      loop-view (round s rq) (short_round (met_before rq st.resolved) s rq) ran_out (short_of s rq) (Between s rq (met_before rq st.resolved))
      (between-keeps s rq (met_before rq st.resolved)) (round-follows s rq (met_before rq st.resolved)) (suc (length s)) (suc (length s)) (omega arith) st (r, p)
      (rounds_fuel s rq (suc (length s)) (omega arith) st)

  short_is : short_resolve s rq ≡ map_done (short_of s rq) (resolve s rq)
  unfolding short_resolve resolve seeds
  short_is =
      ap (λ (l : Line). short_started s rq (short_enqueue false never s rq root [] (map as_requirement rq.roots) 0 l)) (base-line b)
      ∙ turned _ (seeds s rq) refl (unfold seeds in short-enqueue-view false never s rq root [] (map as_requirement rq.roots) 0 (base_met b) (base_queue b) ready)
    where
      b : Bool
      b = mem_name java_base rq.roots

      ready : Ready false never s rq [] (base_met b) (base_queue b)
      ready = record { front = first-front s rq Whatever (trivial s rq) b; resolved_met = λ m h. absurd (Memᴰ.not-nil h); past = λ lt. true≠false lt refl }

      ended : (st : State) → Invariant s rq Whatever st → Why s rq st.resolved st.met → (r : Result State Refusal) → run_queue false s rq st ≡ r
          → short_rounds s rq (map_done (short_of s rq) r) ≡ map_done (short_of s rq) (rounds s rq r)
      ended st i w (failed a) e = unfold map_done short_rounds rounds in refl
      ended st i w (done u) e = unfold map_done in
          (let r = run-inv s rq Whatever (trivial s rq) false st u i e in rounds_follow u r (first_past s rq u r (run_why s rq st u w e)))

      turned : (z : Lined) (r : Enqueued) → seeds s rq ≡ r → z ≡ view s rq r → short_started s rq z ≡ map_done (short_of s rq) (started s rq r)
      turned z (missing n o) e h = unfold view short_started started map_done in rw h
      turned z (enqueued met q) e h = unfold view short_started started in
          rw h (ap (short_rounds s rq) (run-follows s rq false never (record { resolved = []; met = met; queue = q })
          (seeds-inv s rq Whatever (trivial s rq) met q e, λ lt. true≠false lt refl) (unfold size in seeds-size s rq met q e))
          ∙ ended (record { resolved = []; met = met; queue = q }) (seeds-inv s rq Whatever (trivial s rq) met q e) (seeds_why s rq met q e) _ refl)

-- the short form is `resolve`, refusals included
pub short-resolve : (s : List Descriptor) (rq : Request) → short_resolve s rq ≡ map_done (short_of s rq) (resolve s rq)
short-resolve s rq = short_is s rq
