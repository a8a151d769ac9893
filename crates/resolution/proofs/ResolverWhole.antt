-- The positional form gives what the definition gives: the same refusal with its particulars, or the same modules in the same order.
use mathlib.Core.Path.{◌≡◌, refl, sym, ap, ◌∙◌, subst}
use Prim.Native.Nat.{ℕ, suc, ◌+◌, ◌≤◌, ◌<◌}
use native.Mathlib.Omega.{arith}
use mathlib.Core.Bool.{Bool, true, false, ◌&&◌}
use mathlib.Core.Option.{none}
use mathlib.Core.List.Memᴰ
use mathlib.Core.List.{List, [], ◌∷◌, ◌++◌, map, append-nil}
use lib.ListN.{length}
use Rattle.records.specs.Name.{java_base, mem_name, name_of}
use Rattle.records.specs.Record.{records, bodies, bodies_in}
use Rattle.records.specs.Descriptor.{Descriptor}
use Rattle.records.specs.Request.{Request, request_of, is_permitted}
use Rattle.records.specs.Set.{modules, check_set, starts_in}
use Rattle.records.specs.declared.error.Input.TheVariants as Input
use Rattle.records.specs.declared.error.ModuleError.TheVariants.{ModuleNotFound, JavaBaseNotFound}
use Rattle.records.specs.declared.record.Kind.TheVariants as Kind
use Rattle.records.proofs.set.Blocks.{good-set}
use Rattle.records.proofs.Logic.{true≠false}
use Rattle.resolution.specs.declared.resolver.Halt.TheVariants as Halt
use Rattle.resolution.specs.Lists.{Mem, Name, any}
use Rattle.resolution.specs.Loop.{Result, done, failed, loop, map_done}
use Rattle.resolution.specs.Positions.{module_at, is_visible}
use Rattle.resolution.specs.Resolution.{Refusal, State, as_requirement, base, choose, find, has_module, index_of, module_not_found, ran_out, resolve, root, leads}
use Rattle.resolution.specs.Resolve.{absent_of, error_of}
use Rattle.resolution.specs.Resolver.{Inputs, Line, front_at, in_rounds, is_met_before, kind_for, pick_line, queued, resolve_at, roots_at, rounds_at, run_at, then_rounds, want, want_record, first_at, start_on}
use Rattle.resolution.specs.Row.{holds}
use Rattle.resolution.specs.Short.{Lined, Short, empty, fault, is_met, lined, met_before, never, push, short_base, short_enqueue, short_next, short_of, short_resolve, short_rounds, short_started, short_turn}
use Rattle.resolution.specs.Short as Short
use Rattle.resolution.proofs.Accepted.{base_permitted}
use Rattle.resolution.proofs.Fuel.{never-out}
use Rattle.resolution.proofs.Loop.{failed≠done}
use Rattle.resolution.proofs.Positions.{index_at}
use Rattle.resolution.proofs.ResolverOrder.{InOrder, all_differ, in-order-resolve, in-order-room}
use Rattle.resolution.proofs.ResolverQueue.{Follows, Given, Waits, Within, halt_of, inputs, line_at, modules_at, queue-one, queue-row, short_line, short_state}
use Rattle.resolution.proofs.ResolverRun.{Answer, Ended, Rests, answer_at, answer_on, positions, refused_with, run_is, run-refused}
use Rattle.resolution.proofs.ResolverRounds.{fuel_is, met-is, room_waits, rounds_are, rounds-refused, run_room}
use Rattle.resolution.proofs.Room.{Room, room-seeds, waiting}
use Rattle.resolution.proofs.Sets.{set-length}
use Rattle.resolution.proofs.Short.{short-resolve}
use Rattle.std.specs.Prelude.{Ok}

map-map : {A B C : Type 0} (f : A → B) (g : B → C) (l : List A) → map g (map f l) ≡ map (λ (x : A). g (f x)) l
map-map f g [] = refl
map-map f g (x ∷ l) = ap (λ r. g (f x) ∷ r) (map-map f g l)

-- ---- the roots

module _ (s q : List ℕ) (n : ℕ) (t ws : List ℕ) (g : Given s q n t ws) where
  abbrev w : Inputs
  w = inputs s q n t ws false []

  nothing : Within s []
  nothing p m = absurd (Memᴰ.not-nil m)

  not_round : false ≡ true → (x : Name) → is_met_before w x ≡ never x
  not_round e x = true≠false e refl

  -- java.base in front is queued as a requirement that is not met
  base-next : short_next (request_of q) (modules s) (choose true false (is_met false never (modules s) (modules_at s []) (short_line s [] none) java_base) (has_module (modules s) java_base) false) java_base base (short_line s [] none) lined
      ≡ lined (short_base (request_of q) (modules s) false)
  unfolding short_next choose is_met has_module any short_base empty
  base-next = turned (has_module (modules s) java_base)
    where
      turned : (b : Bool)
          → short_next (request_of q) (modules s) (choose true false false b false) java_base base (short_line s [] none) lined
          ≡ lined (push (short_line s [] none) true (find java_base (modules s)) (record { name = java_base; by = base }))
      turned true = rw (base_permitted (request_of q))
      turned false = rw (base_permitted (request_of q))

  front-is : Follows s q false [] (front_at w) (lined (short_base (request_of q) (modules s) (mem_name java_base (request_of q).roots)))
  unfolding front_at
  front-is = turned (mem_name java_base (request_of q).roots)
    where
      turned : (b : Bool)
          → Follows s q false []
          (pick_line b (record { order = []; head = 0; halt = Halt.Open }) (queued (want w java_base false JavaBaseNotFound) (record { order = []; head = 0; halt = Halt.Open })))
          (lined (short_base (request_of q) (modules s) b))
      turned true = unfold short_base empty halt_of in
          record { queue = []; absent = none; within = nothing; calm = λ e. refl; line_is = refl; short_is = refl }
      turned false = unfold halt_of error_of absent_of in
          rw base-next at (queue-one s q n t ws g false [] never not_round (λ l z. Follows s q false [] l z) java_base false base JavaBaseNotFound refl lined [] [] none nothing nothing (λ e. refl)
          (λ rs h b e. record { queue = rs; absent = h; within = b; calm = e; line_is = refl; short_is = refl }) (λ l e. e))

  roots_are : Follows s q false [] (roots_at w)
      (short_enqueue false never (modules s) (request_of q) root [] (map as_requirement (request_of q).roots) 0 (short_base (request_of q) (modules s) (mem_name java_base (request_of q).roots)))
  unfolding roots_at kind_for bodies request_of
  roots_are =
      let f : Waits s q false [] (front_at w) (short_base (request_of q) (modules s) (mem_name java_base (request_of q).roots)) = front-is in
      rw (f.line_is, f.short_is, map-map name_of as_requirement (bodies_in Kind.Root (records q)))
      (queue-row s q n t ws g false [] never not_round Input.Request (λ b. as_requirement (name_of b)) (λ len start. ModuleNotFound Input.Request (start + 1) len)
      (λ b start. unfold want_record as_requirement leads in refl) root (records q) 0 0
      (λ x m. let y : 0 + m ≡ m = omega arith in rw y (unfold error_of absent_of in refl)) [] f.queue f.absent nothing f.within f.calm)

  -- ---- the whole

  ends : (short_resolve (modules s) (request_of q) ≡ failed ran_out → ⊥) → Ended s q (resolve_at w) (short_resolve (modules s) (request_of q))
  unfolding resolve_at then_rounds short_resolve short_started short_rounds answer_at answer_on first_at
  ends k = turned (roots_at w) _ refl roots_are k
    where
      S : List Descriptor
      S = modules s

      rq : Request
      rq = request_of q

      started : Lined
      started = short_enqueue false never S rq root [] (map as_requirement rq.roots) 0 (short_base rq S (mem_name java_base rq.roots))

      rounds : Line → Line
      rounds l = rounds_at (in_rounds w l.order) (suc n) l

      ran : (l : Line) (z : Result Short Refusal) → ((u : Short) (ps : List ℕ) → z ≡ done u → u ≡ short_state s ps [] none → Room S (length S) (modules_at s ps))
          → Ended s q l z → (short_rounds S rq z ≡ failed ran_out → ⊥) → Ended s q (rounds l) (short_rounds S rq z)
      ran l (failed x) room e h = rw (rounds-refused s q n t ws g true l.order (suc n) l (error_of s q x) e) e
      ran l (done u) room e h =
          let ps : List ℕ = e.resolved in
          rw e.line_is
          (subst (λ (v : Short). Ended s q (rounds (line_at ps [] Halt.Open)) (short_rounds S rq (done v))) (sym e.state_is)
          (subst (λ (m : ℕ). Ended s q (rounds_at (inputs s q n t ws true (ps ++ [])) (suc m) (line_at ps [] Halt.Open)) (short_rounds S rq (done (short_state s ps [] none)))) (set-length s n t g.good)
          (rounds_are s q n t ws g (ps ++ []) (met_before rq (modules_at s ps))
          (λ x. met-is s q n t ws g true (ps ++ []) (subst (Within s) (sym (append-nil ps)) e.within) x ∙ ap (λ (z : List ℕ). met_before rq (modules_at s z) x) (append-nil ps))
          (suc (length S)) ps e.within (room u ps refl e.state_is) (λ y. h (subst (λ (v : Short). short_rounds S rq (done v) ≡ failed ran_out) (sym e.state_is) y)))))

      turned : (l : Line) (z : Lined) → started ≡ z → Follows s q false [] l z → (short_started S rq z ≡ failed ran_out → ⊥)
          → Ended s q (rounds (run_at w (suc n) l)) (short_started S rq z)
      turned l (fault x o) e f h =
          let a : answer_at l ≡ refused_with (error_of s q (module_not_found x o)) = rw f in
          rw (run-refused s q n t ws g false [] never not_round (suc n) l (error_of s q (module_not_found x o)) f, rounds-refused s q n t ws g true l.order (suc n) l (error_of s q (module_not_found x o)) a) a
      turned l (lined y) e f h =
          let st : Short = short_state s [] f.queue f.absent in
          let room : Room S (length S) (modules_at s f.queue) = subst (λ (z : Short.Line). Room S (length S) z.todo) f.short_is (room-seeds S rq y e) in
          let fuel : waiting S st < suc n = omega (arith, room_waits S st room, set-length s n t g.good) in
          let same = fuel_is S rq false never st (suc n) room fuel in
          rw (f.line_is, f.short_is, same)
          (ran (run_at w (suc n) (line_at [] f.queue (halt_of s q f.absent))) (loop (short_turn false never S rq) ran_out (suc n) st)
          (λ u ps i c. run_room s q false never (suc n) st u room i ps c)
          (run_is s q n t ws g false [] never not_round (suc n) [] f.queue f.absent nothing f.within f.calm fuel)
          (λ x. h (rw (f.short_is, same) x)))

-- what `resolve` says, told by positions
unfoldable pub answer_of : List ℕ → List ℕ → Result State Refusal → Answer
answer_of s q (failed r) = refused_with (error_of s q r)
answer_of s q (done st) = positions (map (λ (m : Descriptor). index_of m.name (modules s)) st.resolved)

-- the line at the end, where all is resolved: no refusal, none waits, and the positions are those of the modules resolved
pub record Accepts (s : List ℕ) (n : ℕ) (l : Line) (ms : List Descriptor) : Type 0 where
  pub accepts : l.halt ≡ Halt.Open
  pub all : l.head ≡ length l.order
  pub within : (p : ℕ) → Mem p l.order → p < n
  pub visible : (p : ℕ) → Mem p l.order → is_visible (modules s) p ≡ true
  pub once : all_differ l.order ≡ true
  pub few : length l.order ≤ n
  pub modules_are : ms ≡ map (module_at (modules s)) l.order
  pub order_is : l.order ≡ map (λ (m : Descriptor). index_of m.name (modules s)) ms

module _ (s q : List ℕ) (n : ℕ) (t : List ℕ) (e : check_set s ≡ Ok (record { count = n; starts = t }))
    (ws : List ℕ) (permits : (i : ℕ) → i < n → holds ws i ≡ is_visible (modules s) i && is_permitted (request_of q) (module_at (modules s) i).name) where
  given : Given s q n t ws
  given = record { good = good-set s n t e; table = ap starts_in e; permits = permits }

  -- a position is that of its module
  own-positions : (ps : List ℕ) → Within s ps → map (λ (m : Descriptor). index_of m.name (modules s)) (modules_at s ps) ≡ ps
  own-positions [] a = refl
  own-positions (p ∷ ps) a = rw (index_at (modules s) p (a p (Memᴰ.head refl)), own-positions ps (λ x m. a x (Memᴰ.tail m)))

  resolve-ends : Ended s q (resolve_at (start_on s q n t ws)) (map_done (short_of (modules s) (request_of q)) (resolve (modules s) (request_of q)))
  resolve-ends = subst (Ended s q (resolve_at (start_on s q n t ws))) (short-resolve (modules s) (request_of q)) (ends s q n t ws given real)
    where
      out : (r : Result State Refusal) → resolve (modules s) (request_of q) ≡ r → map_done (short_of (modules s) (request_of q)) r ≡ failed ran_out → ⊥
      out (failed a) k h = unfold map_done in never-out (modules s) (request_of q) (k ∙ ap failed (cc))
      out (done st) k h = unfold map_done in failed≠done (sym h)

      real : short_resolve (modules s) (request_of q) ≡ failed ran_out → ⊥
      real h = out (resolve (modules s) (request_of q)) refl (sym (short-resolve (modules s) (request_of q)) ∙ h)

  accepts-of : (l : Line) (st : State) → InOrder n l → Rests s l (short_of (modules s) (request_of q) st) → Accepts s n l st.resolved
  accepts-of l st o r =
      let same : st.resolved ≡ modules_at s r.resolved = ap (λ (u : Short). u.resolved) r.state_is in
      let order : l.order ≡ r.resolved = ap (λ (x : Line). x.order) r.line_is ∙ append-nil r.resolved in
      record {
        accepts = ap (λ (x : Line). x.halt) r.line_is;
        all = ap (λ (x : Line). x.head) r.line_is ∙ ap length (sym order);
        within = o.within;
        visible = λ p m. r.within p (subst (λ (x : List ℕ). Mem p x) order m);
        once = o.once;
        few = in-order-room n l o;
        modules_are = rw (same, order);
        order_is = rw (same, order) (sym (own-positions r.resolved r.within));
      }

  -- where the definition accepts
  pub resolver_accepts : (st : State) → resolve (modules s) (request_of q) ≡ done st → Accepts s n (resolve_at (start_on s q n t ws)) st.resolved
  unfolding map_done
  resolver_accepts st h = accepts-of (resolve_at (start_on s q n t ws)) st (in-order-resolve (start_on s q n t ws))
      (subst (λ (r : Result State Refusal). Ended s q (resolve_at (start_on s q n t ws)) (map_done (short_of (modules s) (request_of q)) r)) h resolve-ends)

  -- the positional form gives what the definition gives
  pub resolver_is : answer_at (resolve_at (start_on s q n t ws)) ≡ answer_of s q (resolve (modules s) (request_of q))
  unfolding answer_of answer_at answer_on map_done
  resolver_is = turned (resolve (modules s) (request_of q)) (resolve_at (start_on s q n t ws)) (in-order-resolve (start_on s q n t ws)) resolve-ends
    where
      turned : (r : Result State Refusal) (l : Line) → InOrder n l → Ended s q l (map_done (short_of (modules s) (request_of q)) r) → answer_at l ≡ answer_of s q r
      turned (failed a) l o k = k
      turned (done st) l o k = let a = accepts-of l st o k in rw a.accepts (ap positions a.order_is)
