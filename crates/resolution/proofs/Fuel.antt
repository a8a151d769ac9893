-- The stated fuel is enough: resolution never runs out. No invariant is needed, only numbers that fall.
use mathlib.Core.Path.{◌≡◌, refl, sym, ap, ◌∙◌, subst}
use Prim.Native.Nat.{ℕ, suc, ◌+◌, ◌≤◌, ◌<◌}
use native.Mathlib.Omega.{arith}
use mathlib.Core.Bool.{Bool, true, false, cond}
use mathlib.Core.Option.{Option, none, some}
use mathlib.Core.List.Memᴰ
use mathlib.Core.List.{List, [], ◌∷◌, ◌++◌, map, flat_map}
use mathlib.Core.Logic.{⊎_elim}
use lib.ListN.{length, length-map}
use Rattle.records.specs.Bytes.{same_bytes}
use Rattle.records.specs.Descriptor.{Descriptor, Requirement}
use Rattle.records.specs.Name.{java_base, mem_name}
use Rattle.records.specs.Request.{Request, is_permitted}
use Rattle.records.proofs.Logic.{by, true≠false}
use Rattle.resolution.specs.Lists.{Mem, Name, keep}
use Rattle.resolution.specs.Loop.{Result, Step, done, fail, failed, go, loop, stop}
use Rattle.resolution.specs.Owner.{least, shared}
use Rattle.resolution.specs.Resolution.{Enqueued, Item, QueuedBy, Refusal, State, add, as_requirement, base_met, base_queue, candidates, choose, enqueue, enqueued, find, found, handled, has_module, index_of, is_provider, java_base_not_found, missing, observable, module_not_found, names, passed, provider, providers, queue_fuel, ran, ran_out, required, resolve, root, round, round_on, rounds, run_queue, seeds, split_package, started, taken, tested, turn, leads}
use Rattle.resolution.proofs.Enqueue.{count, enqueue-inv, enqueue-mono, enqueue-size, fresh, fresh-lt, item, met-new, met-old}
use Rattle.resolution.proofs.Find.{find-mem}
use Rattle.resolution.proofs.Observable.{observable-mem}
use Rattle.resolution.proofs.Lists.{flat_in, keep_out, map_in, map-out}
use Rattle.resolution.proofs.Loop.{fail≠go, loop-fuel, loop-same, loop-inv, stop≠go}
use Rattle.resolution.proofs.Queue.{Turned, passed-inv, skipped, took}

count-up : (b : Bool) (k : ℕ) → count b k ≤ suc k
unfolding count
count-up true k = omega arith
count-up false k = omega arith

pub fresh-length : (u met : List Name) → fresh u met ≤ length u
unfolding fresh
fresh-length [] met = omega arith
fresh-length (x ∷ xs) met = omega (arith, count-up (mem_name x met) (fresh xs met), fresh-length xs met)

fail≠stop : {X : Type 0} {a : Refusal} → ◌≡◌ {A = Step State Refusal} (fail a) stop → X
fail≠stop e = absurd (let z : ◌≡◌ {A = ℕ} 0 1 = cc in omega arith)

stop≠fail : {X : Type 0} {a : Refusal} → ◌≡◌ {A = Step State Refusal} stop (fail a) → X
stop≠fail e = absurd (let z : ◌≡◌ {A = ℕ} 0 1 = cc in omega arith)

go≠fail : {X : Type 0} {a : Refusal} {s : State} → ◌≡◌ {A = Step State Refusal} (go s) (fail a) → X
go≠fail e = absurd (let z : ◌≡◌ {A = ℕ} 0 1 = cc in omega arith)

absent≠out : {X : Type 0} {n : Name} {o : QueuedBy} → ◌≡◌ {A = Step State Refusal} (fail (module_not_found n o)) (fail ran_out) → X
absent≠out e = absurd (let z : ◌≡◌ {A = ℕ} 0 1 = cc in omega arith)

split≠out : {X : Type 0} {n m k : Name} → ◌≡◌ {A = Step State Refusal} (fail (split_package n m k)) (fail ran_out) → X
split≠out e = absurd (let z : ◌≡◌ {A = ℕ} 0 1 = cc in omega arith)

module _ (X : Type 0) (in_round : Bool) (s : List Descriptor) (rq : Request) (e : Item) (ms : List Descriptor) (met : List Name) (q : List Item) where
  handled-out : (l : List Descriptor) (r : Enqueued) → handled l r ≡ fail ran_out → X
  unfolding handled
  handled-out l (missing n o) h = absent≠out h
  handled-out l (enqueued a b) h = go≠fail h

  tested-out : (m : Descriptor) (o : Option Name) → tested in_round s rq ms m met q o ≡ fail ran_out → X
  unfolding tested
  tested-out m (some p) h = split≠out h
  tested-out m none h = handled-out (ms ++ (m ∷ [])) (enqueue in_round s rq (required (index_of m.name s)) m.requires 0 met q) h

  missing-out : (b : Bool) → ◌≡◌ {A = Step State Refusal} (fail (cond b java_base_not_found (module_not_found e.name e.by))) (fail ran_out) → X
  missing-out true h = absurd (let z : ◌≡◌ {A = ℕ} 0 1 = cc in omega arith)
  missing-out false h = absent≠out h

  found-out : (o : Option Descriptor) → found in_round s rq e ms met q o ≡ fail ran_out → X
  unfolding found
  found-out none h = missing-out (same_bytes e.name java_base) h
  found-out (some m) h = tested-out m (least (shared ms m)) h

  passed-out : (b : Bool) → passed in_round s rq e ms met q b ≡ fail ran_out → X
  unfolding passed
  passed-out false h = go≠fail h
  passed-out true h = found-out (find e.name s) h

taken_out : (in_round : Bool) (s : List Descriptor) (rq : Request) (ms : List Descriptor) (met : List Name) (q : List Item)
    → taken in_round s rq ms met q ≡ fail ran_out → ⊥
unfolding taken
taken_out in_round s rq ms met [] h = stop≠fail h
taken_out in_round s rq ms met (e ∷ q) h = passed-out _ in_round s rq e ms met q (is_permitted rq e.name) h

module _ (s : List Descriptor) (rq : Request) where
  in-req : (m : Descriptor) (r : Requirement) → Mem m s → Mem r m.requires → Mem r.name (candidates s rq)
  unfolding candidates
  in-req m r a b = Memᴰ.tail (Memᴰ.append_right rq.roots (Memᴰ.append_left (map (λ (k : Descriptor). k.name) s) (flat_in (λ (k : Descriptor). map (λ (x : Requirement). x.name) k.requires) a (map_in (λ (x : Requirement). x.name) b))))

  in-root : (n : Name) → Mem n rq.roots → Mem n (candidates s rq)
  unfolding candidates
  in-root n h = Memᴰ.tail (Memᴰ.append_left (flat_map (λ m. map (λ (r : Requirement). r.name) m.requires) s ++ map (λ (m : Descriptor). m.name) s) h)

  in-base : Mem java_base (candidates s rq)
  unfolding candidates
  in-base = Memᴰ.head refl

  in-mod : (m : Descriptor) → Mem m s → Mem m.name (candidates s rq)
  unfolding candidates
  in-mod m h = Memᴰ.tail (Memᴰ.append_right rq.roots (Memᴰ.append_right (flat_map (λ (k : Descriptor). map (λ (r : Requirement). r.name) k.requires) s) (map_in (λ (k : Descriptor). k.name) h)))

  unfoldable pub size : State → ℕ
  size st = length st.queue + fresh (candidates s rq) st.met

  turned-falls : (in_round : Bool) (ms : List Descriptor) (met : List Name) (e : Item) (q : List Item) (t : State) → Turned in_round s rq ms met e q t
      → size t < suc (length q + fresh (candidates s rq) met)
  unfolding size
  turned-falls in_round ms met e q t (skipped p) = omega arith
  turned-falls in_round ms met e q t (took m met₂ q₂ p f l k) =
      omega (arith, enqueue-size in_round s rq (required (index_of m.name s)) (candidates s rq) m.requires 0 met q met₂ q₂ (λ r h. in-req m r (find-mem e.name s m f).0 h) k)

  taken-falls : (in_round : Bool) (ms : List Descriptor) (met : List Name) (q : List Item) (t : State) → taken in_round s rq ms met q ≡ go t
      → size t < length q + fresh (candidates s rq) met
  unfolding taken
  taken-falls in_round ms met [] t h = stop≠go h
  taken-falls in_round ms met (e ∷ q) t h = omega (arith, turned-falls in_round ms met e q t (passed-inv in_round s rq ms met e q t (is_permitted rq e.name) refl h))

  pub queue_fuel_lem : (in_round : Bool) (st : State) → size st ≤ length (candidates s rq) → run_queue in_round s rq st ≡ failed ran_out → ⊥
  unfolding run_queue turn queue_fuel size
  queue_fuel_lem in_round st b h =
      let r = loop-fuel (turn in_round s rq) ran_out (λ u. Unit {0}) (λ u t p e. tt) size
      (λ u t p e. taken-falls in_round u.resolved u.met u.queue t e) (suc (length (candidates s rq))) st ran_out tt (omega arith) h in
      taken_out in_round s rq r.0.resolved r.0.met r.0.queue r.2

  -- a run of the queue forgets nothing met
  turned-grows : (in_round : Bool) (ms : List Descriptor) (met : List Name) (e : Item) (q : List Item) (t : State) (x : Name)
      → Turned in_round s rq ms met e q t → mem_name x met ≡ true → mem_name x t.met ≡ true
  turned-grows in_round ms met e q t x (skipped p) h = h
  turned-grows in_round ms met e q t x (took m met₂ q₂ p f l k) h = enqueue-mono in_round s rq (required (index_of m.name s)) m.requires 0 met q met₂ q₂ x k h

  taken-grows : (in_round : Bool) (ms : List Descriptor) (met : List Name) (q : List Item) (t : State) (x : Name) → taken in_round s rq ms met q ≡ go t
      → mem_name x met ≡ true → mem_name x t.met ≡ true
  unfolding taken
  taken-grows in_round ms met [] t x h k = stop≠go h
  taken-grows in_round ms met (e ∷ q) t x h k = turned-grows in_round ms met e q t x (passed-inv in_round s rq ms met e q t (is_permitted rq e.name) refl h) k

  run-grows : (in_round : Bool) (st t : State) (x : Name) → run_queue in_round s rq st ≡ done t → mem_name x st.met ≡ true → mem_name x t.met ≡ true
  unfolding run_queue turn
  run-grows in_round st t x e h =
      (loop-inv (turn in_round s rq) ran_out (λ u. mem_name x u.met ≡ true) (λ u v p k. taken-grows in_round u.resolved u.met u.queue v x k p) (queue_fuel s rq) st t h e).0

  -- ---- the rounds

  pub providers_in : (ms : List Descriptor) (r : Requirement) → Mem r (providers s rq ms) → (m : Descriptor) × Mem m (observable s) × (r.name ≡ m.name)
  unfolding providers as_requirement
  providers_in ms r h =
      let x = map-out (λ (m : Descriptor). as_requirement m.name) (keep (is_provider ms rq) (observable s)) h in
      (x.0, (keep_out (is_provider ms rq) (observable s) x.1).0, ap (λ (z : Requirement). z.name) x.2)

  -- what a round queues is a module that was not met before
  News : List Name → List Name → List Item → Type 0
  News met mt w = ((x : Name) → mem_name x met ≡ true → mem_name x mt ≡ true) × ((a : Item) → Mem a w → (mem_name a.name met ≡ false) × Mem a.name (names s) × (mem_name a.name mt ≡ true))

  news : (ms : List Descriptor) (met met₂ : List Name) (q : List Item) → enqueue false s rq provider (providers s rq ms) 0 met [] ≡ enqueued met₂ q
      → News met met₂ q
  unfolding News
  news ms met met₂ q e = enqueue-inv false s rq provider (News met) (providers s rq ms) 0 met [] met₂ q adds (λ x h. h, λ a h. absurd (Memᴰ.not-nil h)) e
    where
      adds : (r : Requirement) (i : ℕ) (mt : List Name) (w : List Item) → Mem r (providers s rq ms) → mem_name r.name mt ≡ false
          → choose (leads rq r) false false (has_module s r.name) r.static ≡ add → News met mt w
          → News met (r.name ∷ mt) (w ++ (item r.name (provider i) ∷ []))
      adds r i mt w h new g p =
          let y = providers_in ms r h in (
            λ x k. met-old x r.name mt (p.0 x k),
            λ a k. ⊎_elim (λ z. ((p.1 a z).0, (p.1 a z).1, met-old a.name r.name mt (p.1 a z).2))
                (λ z. subst (λ (b : Item). (mem_name b.name met ≡ false) × Mem b.name (names s) × (mem_name b.name (r.name ∷ mt) ≡ true)) (sym (Memᴰ.eq_of_singleton z)) (
                  by (mem_name r.name met) (λ u. true≠false (p.0 r.name u) new) (λ u. u),
                  Memᴰ.cast y.2 (map_in (λ (m : Descriptor). m.name) (observable-mem s y.0 y.1)),
                  met-new r.name mt,
                )) (Memᴰ.append_cases w k),
          )

  round-falls : (st t : State) → round s rq st ≡ go t → fresh (names s) t.met < fresh (names s) st.met
  unfolding round round_on ran News
  round-falls st t h = turned _ refl h
    where
      ended : (met : List Name) (a : Item) (q : List Item)
          → enqueue false s rq provider (providers s rq st.resolved) 0 st.met [] ≡ enqueued met (a ∷ q)
          → (r : Result State Refusal) → run_queue true s rq (record { resolved = st.resolved; met = met; queue = a ∷ q }) ≡ r → ran r ≡ go t → fresh (names s) t.met < fresh (names s) st.met
      ended met a q e (failed x) u k = fail≠go k
      ended met a q e (done w) u k =
          let n = news st.resolved st.met met (a ∷ q) e in
          let f = n.1 a (Memᴰ.head refl) in
          let on : (x : Name) → mem_name x met ≡ true → mem_name x t.met ≡ true = (λ x b. run-grows true (record { resolved = st.resolved; met = met; queue = a ∷ q }) t x (u ∙ ap done (cc)) b) in
          fresh-lt st.met t.met f.1 f.0 (on a.name f.2) (λ x b. on x (n.0 x b))

      turned : (r : Enqueued) → enqueue false s rq provider (providers s rq st.resolved) 0 st.met [] ≡ r → round_on s rq st.resolved r ≡ go t
          → fresh (names s) t.met < fresh (names s) st.met
      turned (missing n o) e k = fail≠go k
      turned (enqueued met []) e k = stop≠go k
      turned (enqueued met (a ∷ q)) e k = ended met a q e _ refl k

  -- what is queued and what is fresh are no more than the candidates, wherever a run begins
  pub round-size : (ms : List Descriptor) (met met₂ : List Name) (q : List Item)
      → enqueue false s rq provider (providers s rq ms) 0 met [] ≡ enqueued met₂ q → length q + fresh (candidates s rq) met₂ ≤ length (candidates s rq)
  round-size ms met met₂ q e =
      omega (
        arith,
        enqueue-size false s rq provider (candidates s rq) (providers s rq ms) 0 met [] met₂ q
            (λ r h. let y = providers_in ms r h in Memᴰ.cast y.2 (in-mod y.0 (observable-mem s y.0 y.1))) e,
        fresh-length (candidates s rq) met,
      )

  -- the same of the state in which the round's queue begins
  pub size-round : (ms : List Descriptor) (met met₂ : List Name) (q : List Item)
      → enqueue false s rq provider (providers s rq ms) 0 met [] ≡ enqueued met₂ q
      → size (record { resolved = ms; met = met₂; queue = q }) ≤ length (candidates s rq)
  unfolding size
  size-round ms met met₂ q e = round-size ms met met₂ q e

  pub round-out : (st : State) → round s rq st ≡ fail ran_out → ⊥
  unfolding round round_on ran size
  round-out st h = turned _ refl h
    where
      ended : (met : List Name) (a : Item) (q : List Item)
          → enqueue false s rq provider (providers s rq st.resolved) 0 st.met [] ≡ enqueued met (a ∷ q)
          → (r : Result State Refusal) → run_queue true s rq (record { resolved = st.resolved; met = met; queue = a ∷ q }) ≡ r → ran r ≡ fail ran_out → ⊥
      ended met a q e (failed x) u k = queue_fuel_lem true (record { resolved = st.resolved; met = met; queue = a ∷ q }) (round-size st.resolved st.met met (a ∷ q) e) (u ∙ ap failed (cc))
      ended met a q e (done w) u k = go≠fail k

      turned : (r : Enqueued) → enqueue false s rq provider (providers s rq st.resolved) 0 st.met [] ≡ r
          → round_on s rq st.resolved r ≡ fail ran_out → ⊥
      turned (missing n o) e k = absent≠out k
      turned (enqueued met []) e k = stop≠fail k
      turned (enqueued met (a ∷ q)) e k = ended met a q e _ refl k

  -- Any number of rounds above the number of modules is enough, from any state: with 512 modules, 1024
  pub rounds_fuel : (f : ℕ) → length s < f → (st : State) → loop (round s rq) ran_out f st ≡ failed ran_out → ⊥
  rounds_fuel f b st h =
      let n : length (names s) ≡ length s = length-map s (λ (m : Descriptor). m.name) in
      let l : fresh (names s) st.met ≤ length (names s) = fresh-length (names s) st.met in
      let r = loop-fuel (round s rq) ran_out (λ u. Unit {0}) (λ u t p e. tt) (λ u. fresh (names s) u.met) (λ u t p e. round-falls u t e) f st ran_out tt (omega arith) h in
      round-out r.0 r.2

  -- a 1025th round never occurs
  pub rounds_1024 : length s ≤ 512 → (st : State) → loop (round s rq) ran_out 1024 st ≡ failed ran_out → ⊥
  rounds_1024 b st h = rounds_fuel 1024 (omega arith) st h

  -- and 1024 rounds give what `resolve` takes
  pub rounds-same : length s ≤ 512 → (st : State) → loop (round s rq) ran_out 1024 st ≡ loop (round s rq) ran_out (suc (length s)) st
  rounds-same b st =
      let n : length (names s) ≡ length s = length-map s (λ (m : Descriptor). m.name) in
      let l : fresh (names s) st.met ≤ length (names s) = fresh-length (names s) st.met in
      loop-same (round s rq) ran_out (λ u. Unit {0}) (λ u t p e. tt) (λ u. fresh (names s) u.met) (λ u t p e. round-falls u t e) 1024 (suc (length s)) st tt (omega arith) (omega arith)

  base-size : (b : Bool) → length (base_queue b) + fresh (candidates s rq) (base_met b) ≤ length (candidates s rq)
  unfolding base_queue base_met mem_name
  base-size true = omega (arith, fresh-length (candidates s rq) [])
  base-size false = omega (arith, fresh-length (candidates s rq) [], fresh-lt [] (java_base ∷ []) in-base refl (met-new java_base []) (λ x. met-old x java_base []))

  pub seeds-size : (met : List Name) (q : List Item) → seeds s rq ≡ enqueued met q → length q + fresh (candidates s rq) met ≤ length (candidates s rq)
  unfolding seeds as_requirement
  seeds-size met q e =
      omega (
        arith,
        base-size b,
        enqueue-size false s rq root (candidates s rq) (map as_requirement rq.roots) 0 (base_met b) (base_queue b) met q
            (λ r h. let x = map-out as_requirement rq.roots h in Memᴰ.cast (ap (λ (z : Requirement). z.name) x.2) (in-root x.0 x.1)) e,
      )
    where
      b : Bool
      b = mem_name java_base rq.roots

  -- the fuel of `resolve` is enough
  pub never-out : resolve s rq ≡ failed ran_out → ⊥
  unfolding resolve started rounds size
  never-out h = turned _ refl h
    where
      ended : (st : State) → size st ≤ length (candidates s rq) → (r : Result State Refusal) → run_queue false s rq st ≡ r
          → rounds s rq r ≡ failed ran_out → ⊥
      ended st b (failed a) e k = queue_fuel_lem false st b (e ∙ ap failed (cc))
      ended st b (done u) e k = rounds_fuel (suc (length s)) (omega arith) u k

      turned : (r : Enqueued) → seeds s rq ≡ r → started s rq r ≡ failed ran_out → ⊥
      turned (missing n o) e k = absurd (let z : ◌≡◌ {A = ℕ} 0 1 = cc in omega arith)
      turned (enqueued met q) e k = ended (record { resolved = []; met = met; queue = q }) (seeds-size met q e) _ refl k
