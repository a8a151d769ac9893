-- The rounds of the positional form: the providers, in set order, and one round after another.
use mathlib.Core.Path.{◌≡◌, refl, sym, ap, ◌∙◌, subst}
use Prim.Native.Nat.{ℕ, zero, suc, ◌+◌, ◌-◌, ◌≤◌, ◌<◌}
use native.Mathlib.Omega.{arith}
use mathlib.Core.Bool.{Bool, true, false, not, ◌&&◌, ◌||◌, cond}
use mathlib.Core.Option.{none}
use mathlib.Core.List.Memᴰ
use mathlib.Core.List.{List, [], ◌∷◌, ◌++◌, map, flat_map, append-nil}
use lib.ListN.{length, length-append, length-map}
use lib.Seq.{take-append_seam}
use lib.Dec.{eqb}
use borrow.Author.Tests.{eq-eqb, ne_eqb}
use Rattle.records.specs.Bytes.{same_bytes}
use Rattle.records.specs.Name.{mem_name}
use Rattle.records.specs.Record.{bodies}
use Rattle.records.specs.Descriptor.{Requirement, Descriptor, requirement_of}
use Rattle.records.specs.Request.{Request, request_of, is_permitted}
use Rattle.records.specs.Set.{modules}
use Rattle.records.specs.Finder.{found_from}
use Rattle.records.specs.declared.error.ModuleError.{ModuleError}
use Rattle.records.specs.declared.record.Kind.TheVariants as Kind
use Rattle.records.proofs.Logic.{clash, and_left}
use Rattle.resolution.specs.declared.resolver.Halt.{Halt}
use Rattle.resolution.specs.declared.resolver.Wanted.TheVariants.{Add}
use Rattle.resolution.specs.Lists.{Name, any, keep}
use Rattle.resolution.specs.Loop.{Result, Step, after, done, failed, loop}
use Rattle.resolution.specs.Positions.{module_at, is_visible}
use Rattle.resolution.specs.Resolution.{Refusal, as_requirement, candidates, is_provider, names, observable, provider, providers, queue_fuel, ran_out}
use Rattle.resolution.specs.Resolve.{error_of}
use Rattle.resolution.specs.Resolver.{Inputs, Line, block_of, has_named, is_done, is_met_before, is_provider_at, names_of, pick_line, provide_at, provide_from, queued, requires_name, rounds_at, run_at, offered_at, round_at}
use Rattle.resolution.specs.Row.{holds}
use Rattle.resolution.specs.Short.{Lined, Short, empty, lined, met_before, never, short_enqueue, short_ran, short_round, short_round_from, short_round_on, short_run, short_turn}
use Rattle.resolution.proofs.Loop.{loop-inv}
use Rattle.resolution.proofs.Positions.{visible_in, visible_located}
use Rattle.resolution.proofs.ResolverQueue.{Given, Within, halt_of, inputs, line_at, modules_at, queue-found, short_line, short_state}
use Rattle.resolution.proofs.ResolverRun.{Ended, answer_at, answer_on, any_at, any_same, has_use, provides_of, refused_with, requires-of, run_is}
use Rattle.resolution.proofs.Room.{Room, room-round, room-turn, short-same, waiting}
use Rattle.resolution.proofs.Sets.{set-length}

any-map : {A B : Type 0} (f : B → Bool) (g : A → B) (l : List A) → any f (map g l) ≡ any (λ a. f (g a)) l
unfolding any
any-map f g [] = refl
any-map f g (x ∷ l) = ap (λ (b : Bool). f (g x) || b) (any-map f g l)

-- the providers are queued: those at ps are resolved
record Provided (s ps : List ℕ) (l : Line) (z : Lined) : Type 0 where
  queue : List ℕ
  within : Within s queue
  line_is : l ≡ line_at ps queue Halt.Open
  short_is : z ≡ lined (short_line s queue none)

-- the fuel of the short form is above what waits
fuel_above : (s : List Descriptor) (rq : Request) → length s < queue_fuel s rq
unfolding queue_fuel candidates
fuel_above s rq =
    let f : List Name = flat_map (λ (m : Descriptor). map (λ (r : Requirement). r.name) m.requires) s in
    omega (arith, length-append rq.roots (f ++ names s), length-append f (names s), length-map s (λ (m : Descriptor). m.name))

pub room_waits : (s : List Descriptor) (st : Short) → Room s (length s) (st.resolved ++ st.line.todo) → length st.resolved + waiting s st ≤ length s
unfolding Room waiting
room_waits s st r = omega (arith, length-append st.resolved st.line.todo)

-- a run of the short form, with the fuel of the positional form
pub fuel_is : (s : List Descriptor) (rq : Request) (in_round : Bool) (old : Name → Bool) (st : Short) (f : ℕ) → Room s (length s) (st.resolved ++ st.line.todo)
    → waiting s st < f → short_run in_round old s rq st ≡ loop (short_turn in_round old s rq) ran_out f st
unfolding short_run
fuel_is s rq in_round old st f r l = short-same s rq in_round old (queue_fuel s rq) f st (omega (arith, room_waits s st r, fuel_above s rq)) l

-- after a run there is room for the rest of the set
pub run_room : (s q : List ℕ) (in_round : Bool) (past₂ : Name → Bool) (f : ℕ) (st u : Short) → Room (modules s) (length (modules s)) (st.resolved ++ st.line.todo)
    → loop (short_turn in_round past₂ (modules s) (request_of q)) ran_out f st ≡ done u → (ps : List ℕ) → u ≡ short_state s ps [] none
    → Room (modules s) (length (modules s)) (modules_at s ps)
run_room s q in_round past₂ f st u r e ps k =
    subst (Room (modules s) (length (modules s))) (append-nil (modules_at s ps))
    (subst (λ (x : Short). Room (modules s) (length (modules s)) (x.resolved ++ x.line.todo)) k
    (loop-inv (short_turn in_round past₂ (modules s) (request_of q)) ran_out (λ x. Room (modules s) (length (modules s)) (x.resolved ++ x.line.todo))
    (λ x y z h. room-turn (modules s) (request_of q) (length (modules s)) in_round past₂ x y z h) f st u r e).0)

module _ (s q : List ℕ) (n : ℕ) (t ws : List ℕ) (g : Given s q n t ws) (in_round : Bool) (before : List ℕ) where
  abbrev w : Inputs
  w = inputs s q n t ws in_round before

  -- ---- the providers

  -- the row holds what is permitted, if it is not hidden
  permits-is : (i : ℕ) → i < length (modules s) → holds ws i ≡ is_visible (modules s) i && is_permitted (request_of q) (module_at (modules s) i).name
  permits-is i l = g.permits i (omega (arith, l, set-length s n t g.good))

  permits-seen : (i : ℕ) → is_visible (modules s) i ≡ true → holds ws i ≡ is_permitted (request_of q) (module_at (modules s) i).name
  permits-seen i v = permits-is i (visible_in (modules s) i v) ∙ ap (λ (b : Bool). b && is_permitted (request_of q) (module_at (modules s) i).name) v

  provider_is : (ps : List ℕ) → Within s ps → (i : ℕ) → is_visible (modules s) i ≡ true
      → is_provider (modules_at s ps) (request_of q) (module_at (modules s) i) ≡ is_provider_at w ps i
  unfolding is_provider is_provider_at
  provider_is ps a i v =
      rw (permits-seen i v, provides_of s q n t ws g in_round before i (visible_in (modules s) i v))
      (ap (λ (b : Bool). is_permitted (request_of q) (module_at (modules s) i).name && b) (any_same _ (has_named w Kind.Uses ps) (names_of w Kind.Provides i) (λ x. has_use s q n t ws g in_round before ps a x)))

  -- a hidden module is no provider
  provider_hidden : (ps : List ℕ) (i : ℕ) → i < length (modules s) → is_visible (modules s) i ≡ false → is_provider_at w ps i ≡ false
  unfolding is_provider_at
  provider_hidden ps i l h = rw (permits-is i l, h)

  -- those of the modules from position i on that are not hidden
  abbrev seen : ℕ → List Descriptor → List Descriptor
  seen i ds = found_from (λ (m : Descriptor). m.name) (names (modules s)) i ds

  -- the modules from position i on
  provide_from_lem : (ds : List Descriptor) (i j : ℕ) → i + length ds ≡ length (modules s) → ((k : ℕ) → k < length ds → module_at ds k ≡ module_at (modules s) (i + k))
      → (ps qs : List ℕ) → Within s ps → Within s qs
      → Provided s ps (provide_from w ps (length ds) i (line_at ps qs Halt.Open))
      (short_enqueue false never (modules s) (request_of q) provider (modules_at s ps) (map (λ (m : Descriptor). as_requirement m.name) (keep (is_provider (modules_at s ps) (request_of q)) (seen i ds))) j (short_line s qs none))
  unfolding provide_from keep short_enqueue as_requirement halt_of offered_at found_from is_visible
  provide_from_lem [] i j c is ps qs a b = record { queue = qs; within = b; line_is = refl; short_is = refl }
  provide_from_lem (d ∷ ds) i j c is ps qs a b =
      rw here (viewed (is_visible (modules s) i) refl (λ j₂ qs₂ b₂. provide_from_lem ds (suc i) j₂ (omega (arith, c)) later ps qs₂ a b₂))
    where
      l : i < length (modules s)
      l = omega (arith, c)

      here : d ≡ module_at (modules s) i
      here = is 0 (omega arith) ∙ ap (module_at (modules s)) (omega arith)

      later : (k : ℕ) → k < length ds → module_at ds k ≡ module_at (modules s) (suc i + k)
      later k h = is (suc k) (omega (arith, h)) ∙ ap (module_at (modules s)) (omega arith)

      rest : List Requirement
      rest = map (λ (m : Descriptor). as_requirement m.name) (keep (is_provider (modules_at s ps) (request_of q)) (seen (suc i) ds))

      Below : Type 0
      Below = (j₂ : ℕ) (qs₂ : List ℕ) → Within s qs₂
          → Provided s ps (provide_from w ps (length ds) (suc i) (line_at ps qs₂ Halt.Open)) (short_enqueue false never (modules s) (request_of q) provider (modules_at s ps) rest j₂ (short_line s qs₂ none))

      turned : is_visible (modules s) i ≡ true → (b₂ : Bool) → is_provider_at w ps i ≡ b₂ → Below
          → Provided s ps (provide_from w ps (length ds) (suc i) (pick_line b₂ (queued (Add i) (line_at ps qs Halt.Open)) (line_at ps qs Halt.Open)))
          (short_enqueue false never (modules s) (request_of q) provider (modules_at s ps)
          (map (λ (m : Descriptor). as_requirement m.name) (cond b₂ (module_at (modules s) i ∷ keep (is_provider (modules_at s ps) (request_of q)) (seen (suc i) ds)) (keep (is_provider (modules_at s ps) (request_of q)) (seen (suc i) ds)))) j (short_line s qs none))
      turned v false e below = below j qs b
      turned v true e below =
          let x : Name = (module_at (modules s) i).name in
          let p : is_permitted (request_of q) x ≡ true
          = sym (permits-seen i v) ∙ (unfold is_provider_at in and_left (holds ws i) _ e) in
          rw p at (queue-found s q n t ws g (λ z y. Provided s ps (provide_from w ps (length ds) (suc i) z) y) false never x false (provider j)
          (λ y. short_enqueue false never (modules s) (request_of q) provider (modules_at s ps) rest (suc j) y) i (visible_located (modules s) i v) ps qs none a b (λ qs₂ b₂. below (suc j) qs₂ b₂))

      viewed : (v : Bool) → is_visible (modules s) i ≡ v → Below
          → Provided s ps (provide_from w ps (length ds) (suc i) (pick_line (is_provider_at w ps i) (queued (Add i) (line_at ps qs Halt.Open)) (line_at ps qs Halt.Open)))
          (short_enqueue false never (modules s) (request_of q) provider (modules_at s ps)
          (map (λ (m : Descriptor). as_requirement m.name) (keep (is_provider (modules_at s ps) (request_of q)) (cond v (module_at (modules s) i ∷ seen (suc i) ds) (seen (suc i) ds)))) j (short_line s qs none))
      viewed true e below = rw (provider_is ps a i e) (turned e (is_provider_at w ps i) refl below)
      viewed false e below = rw (provider_hidden ps i l e) (below j qs b)

  provide_is : (ps : List ℕ) → Within s ps
      → Provided s ps (provide_at w (line_at ps [] Halt.Open)) (short_enqueue false never (modules s) (request_of q) provider (modules_at s ps) (providers (modules s) (request_of q) (modules_at s ps)) 0 empty)
  unfolding provide_at providers empty observable
  provide_is ps a =
      rw (take-append_seam ps [])
      (subst (λ (k : ℕ). Provided s ps (provide_from w ps k 0 (line_at ps [] Halt.Open)) (short_enqueue false never (modules s) (request_of q) provider (modules_at s ps) (providers (modules s) (request_of q) (modules_at s ps)) 0 empty))
      (set-length s n t g.good)
      (provide_from_lem (modules s) 0 0 (omega arith) (λ k h. ap (module_at (modules s)) (omega arith)) ps [] a (λ p m. absurd (Memᴰ.not-nil m))))

  -- an absent name was met before the rounds
  pub met-is : Within s before → (x : Name) → is_met_before w x ≡ met_before (request_of q) (modules_at s before) x
  unfolding is_met_before met_before requires_name
  met-is a x = ap (λ (b : Bool). mem_name x (request_of q).roots || b)
      (sym (any_at s (λ m. any (λ (r : Requirement). not r.static && same_bytes r.name x) m.requires) (λ i. any (requires_name x) (bodies Kind.Requires (block_of w i))) before a one))
    where
      one : (p : ℕ) → p < length (modules s)
          → any (λ (r : Requirement). not r.static && same_bytes r.name x) (module_at (modules s) p).requires ≡ any (requires_name x) (bodies Kind.Requires (block_of w p))
      one p l = rw (requires-of s q n t ws g in_round before p l) (any-map (λ (r : Requirement). not r.static && same_bytes r.name x) requirement_of (bodies Kind.Requires (block_of w p)))

  -- ---- the rounds

  -- where the queue has ended, no round is made
  pub rounds-refused : (f : ℕ) (l : Line) (e : ModuleError) → answer_at l ≡ refused_with e → rounds_at w f l ≡ l
  unfolding rounds_at answer_at round_at
  rounds-refused zero l e h = refl
  rounds-refused (suc f) l e h = rw (turned l.halt h)
    where
      turned : (o : Halt) → answer_on o l.order ≡ refused_with e → is_done o ≡ false
      turned Halt.Open k = unfold answer_on in clash (cc)
      turned (Halt.Stop x) k = unfold is_done in refl
      turned (Halt.Refused x) k = unfold is_done in refl

module _ (s q : List ℕ) (n : ℕ) (t ws : List ℕ) (g : Given s q n t ws) (before : List ℕ) (old : Name → Bool)
    (past : (x : Name) → is_met_before (inputs s q n t ws true before) x ≡ old x) where
  abbrev v : Inputs
  v = inputs s q n t ws true before

  pub rounds_are : (f : ℕ) (ps : List ℕ) → Within s ps → Room (modules s) (length (modules s)) (modules_at s ps)
      → (loop (short_round old (modules s) (request_of q)) ran_out f (short_state s ps [] none) ≡ failed ran_out → ⊥)
      → Ended s q (rounds_at v f (line_at ps [] Halt.Open)) (loop (short_round old (modules s) (request_of q)) ran_out f (short_state s ps [] none))
  unfolding rounds_at loop after short_round short_round_on short_round_from short_ran is_done halt_of round_at
  rounds_are zero ps a r h = absurd (h refl)
  rounds_are (suc f) ps a r h =
      let p = provide_is s q n t ws g true before ps a in
      rw (p.line_is, p.short_is)
      (turned p.queue p.within (room-round (modules s) (request_of q) (length (modules s)) (modules_at s ps) (short_line s p.queue none) r p.short_is)
      (λ k. h (rw p.short_is k)) (λ ps₂. rounds_are f ps₂))
    where
      S : List Descriptor
      S = modules s

      rq : Request
      rq = request_of q

      st : Short
      st = short_state s ps [] none

      next : Step Short Refusal → Result Short Refusal
      next z = after (λ u. loop (short_round old S rq) ran_out f u) st z

      Below : Type 0
      Below = (ps₂ : List ℕ) → Within s ps₂ → Room S (length S) (modules_at s ps₂) → (loop (short_round old S rq) ran_out f (short_state s ps₂ [] none) ≡ failed ran_out → ⊥)
          → Ended s q (rounds_at v f (line_at ps₂ [] Halt.Open)) (loop (short_round old S rq) ran_out f (short_state s ps₂ [] none))

      ended : (l₂ : Line) (z : Result Short Refusal) → ((u : Short) (ps₂ : List ℕ) → z ≡ done u → u ≡ short_state s ps₂ [] none → Room S (length S) (modules_at s ps₂)) → Ended s q l₂ z
          → (next (short_ran z) ≡ failed ran_out → ⊥) → Below → Ended s q (rounds_at v f l₂) (next (short_ran z))
      ended l₂ (failed x) room e k below = rw (rounds-refused s q n t ws g true before f l₂ (error_of s q x) e) e
      ended l₂ (done u) room e k below =
          rw (e.line_is, e.state_is) (below e.resolved e.within (room u e.resolved refl e.state_is) (λ y. k (rw e.state_is y)))

      turned : (qs : List ℕ) → Within s qs → Room S (length S) (modules_at s ps ++ modules_at s qs) → (next (short_round_from old S rq (modules_at s ps) (modules_at s qs) none) ≡ failed ran_out → ⊥) → Below
          → Ended s q (pick_line (is_done Halt.Open && not (eqb (length ps) (length (ps ++ qs)))) (rounds_at v f (run_at v (suc n - length ps) (line_at ps qs Halt.Open))) (line_at ps [] Halt.Open))
          (next (short_round_from old S rq (modules_at s ps) (modules_at s qs) none))
      turned [] b room k below =
          rw (eq-eqb (length ps) (length (ps ++ [])) (ap length (sym (append-nil ps)))) record { resolved = ps; within = a; line_is = refl; state_is = refl }
      turned (p ∷ qs) b room k below =
          let st₂ : Short = short_state s ps (p ∷ qs) none in
          let fuel : waiting S st₂ < suc n - length ps
          = omega (arith, room_waits S st₂ room, length-map ps (module_at S), set-length s n t g.good) in
          let same = fuel_is S rq true old st₂ (suc n - length ps) room fuel in
          rw (ne_eqb (length ps) (length (ps ++ (p ∷ qs))) (λ e. omega (arith, e, length-append ps (p ∷ qs))), same)
          (ended (run_at v (suc n - length ps) (line_at ps (p ∷ qs) Halt.Open)) (loop (short_turn true old S rq) ran_out (suc n - length ps) st₂)
          (λ u ps₂ e i. run_room s q true old (suc n - length ps) st₂ u room e ps₂ i)
          (run_is s q n t ws g true before old (λ e x. past x) (suc n - length ps) ps (p ∷ qs) none a b (λ e. refl) fuel)
          (λ y. k (rw same y)) below)
