-- A turn of the short form follows a turn of the queue, and so do their runs.
use mathlib.Core.Path.{◌≡◌, refl, sym, ap, ◌∙◌, subst}
use Prim.Native.Nat.{◌≤◌}
use native.Mathlib.Omega.{arith}
use mathlib.Core.Bool.{Bool, true, false}
use mathlib.Core.Option.{Option, none, some}
use mathlib.Core.List.Memᴰ
use mathlib.Core.List.{List, [], ◌∷◌, ◌++◌}
use mathlib.Core.Logic.{inl, inr, ⊎_elim}
use lib.ListN.{length}
use Rattle.records.specs.Descriptor.{Descriptor}
use Rattle.records.specs.Name.{mem_name}
use Rattle.records.specs.Request.{Request, is_permitted}
use Rattle.resolution.specs.Lists.{Name}
use Rattle.resolution.specs.Loop.{Step, done, go, map_done}
use Rattle.resolution.specs.Owner.{least, shared}
use Rattle.resolution.specs.Resolution.{Enqueued, Item, Refusal, State, candidates, enqueue, enqueued, find, found, handled, has_module, index_of, missing, passed, queue_fuel, ran_out, required, run_queue, taken, tested, turn, leads}
use Rattle.resolution.specs.Short.{Lined, Short, empty, line_of, put, short_handled, short_of, short_run, short_taken, short_tested, short_turn}
use Rattle.resolution.proofs.Accepted.{trivial}
use Rattle.resolution.proofs.Enqueue.{enqueue-inv}
use Rattle.resolution.proofs.Find.{find-mem}
use Rattle.resolution.proofs.Fuel.{queue_fuel_lem, size}
use Rattle.resolution.proofs.Line.{Ready, Whatever, round-observable, past-add, short-enqueue-view, view}
use Rattle.resolution.proofs.Loop.{Follow, loop-inv, loop-view, stop≠go}
use Rattle.resolution.proofs.Queue.{Invariant, Turned, front-take, keeps, passed-inv, skipped, took}

module _ (s : List Descriptor) (rq : Request) (in_round : Bool) (old : Name → Bool) where
  -- what was absent and met before the rounds is just that
  abbrev pub Past : List Name → Type 0
  Past met = in_round ≡ true → (n : Name) → has_module s n ≡ false → mem_name n met ≡ old n

  abbrev pub Good : State → Type 0
  Good st = Invariant s rq Whatever st × Past st.met

  past-turned : (ms : List Descriptor) (met : List Name) (e : Item) (q : List Item) (t : State) → Past met → Turned in_round s rq ms met e q t
      → Past t.met
  past-turned ms met e q t p (skipped x) = p
  past-turned ms met e q t p (took m met₂ q₂ x f l k) =
      enqueue-inv in_round s rq (required (index_of m.name s)) (λ mt w. Past mt) m.requires 0 met q met₂ q₂
      (λ r i mt w h new c g lt. past-add s old r.name mt (round-observable (leads rq r) in_round (has_module s r.name) r.static lt c) (g lt)) p k

  past-taken : (ms : List Descriptor) (met : List Name) (q : List Item) (t : State) → Past met → taken in_round s rq ms met q ≡ go t → Past t.met
  unfolding taken
  past-taken ms met [] t p h = stop≠go h
  past-taken ms met (e ∷ q) t p h = past-turned ms met e q t p (passed-inv in_round s rq ms met e q t (is_permitted rq e.name) refl h)

  good-keeps : (st t : State) → Good st → turn in_round s rq st ≡ go t → Good t
  unfolding turn
  good-keeps st t g h = (unfold turn in keeps s rq Whatever (trivial s rq) in_round st t g.0 h, past-taken st.resolved st.met st.queue t g.1 h)

  abbrev Follows : Short → Step Short Refusal → Step State Refusal → Type 0
  Follows w z r = Follow (short_of s rq) w z r

  module _ (ms : List Descriptor) (met : List Name) (e : Item) (q : List Item) (g : Good (record { resolved = ms; met = met; queue = e ∷ q })) (w : Short) where
    handled-follows : (l : List Descriptor) (z : Lined) (r : Enqueued) → z ≡ view s rq r → Follows w (short_handled l z) (handled l r)
    unfolding handled view short_handled
    handled-follows l z (missing n o) h = rw h
    handled-follows l z (enqueued a b) h = inr (rw h)

    ready : (m : Descriptor) → find e.name s ≡ some m → Ready in_round old s rq (ms ++ (m ∷ [])) met q
    ready m f =
        record {
          front = front-take s rq Whatever ms met e q m f g.0.front;
          resolved_met = λ k h. ⊎_elim (λ a. (g.0.sound k a).2)
              (λ a. subst (λ (x : Name). mem_name x met ≡ true) (sym (find-mem e.name s m f).1 ∙ ap (λ (x : Descriptor). x.name) (sym (Memᴰ.eq_of_singleton a))) (g.0.front.queued e (Memᴰ.head refl)))
              (Memᴰ.append_cases ms h);
          past = g.1;
        }

    tested-follows : (m : Descriptor) → find e.name s ≡ some m → (o : Option Name)
        → Follows w (short_tested in_round old s rq ms m (line_of s rq q) o) (tested in_round s rq ms m met q o)
    unfolding tested short_tested
    tested-follows m f (some p) = refl
    tested-follows m f none =
        handled-follows (ms ++ (m ∷ [])) _ (enqueue in_round s rq (required (index_of m.name s)) m.requires 0 met q)
        (short-enqueue-view in_round old s rq (required (index_of m.name s)) (ms ++ (m ∷ [])) m.requires 0 met q (ready m f))

    found-follows : (o : Option Descriptor) → find e.name s ≡ o
        → Follows w (short_taken in_round old s rq ms (put true o e (line_of s rq q)).todo (put true o e (line_of s rq q)).halt) (found in_round s rq e ms met q o)
    unfolding found put short_taken
    found-follows none f = refl
    found-follows (some m) f = tested-follows m f (least (shared ms m))

  passed-follows : (ms : List Descriptor) (met : List Name) (e : Item) (q : List Item) → Good (record { resolved = ms; met = met; queue = e ∷ q })
      → (b : Bool)
      → Follows (record { resolved = ms; line = put b (find e.name s) e (line_of s rq q) }) (short_taken in_round old s rq ms (put b (find e.name s) e (line_of s rq q)).todo (put b (find e.name s) e (line_of s rq q)).halt) (passed in_round s rq e ms met q b)
  unfolding passed put
  passed-follows ms met e q g false = inl refl
  passed-follows ms met e q g true = found-follows ms met e q g _ (find e.name s) refl

  turn-follows : (st : State) → Good st
      → Follow (short_of s rq) (short_of s rq st) (short_turn in_round old s rq (short_of s rq st)) (turn in_round s rq st)
  unfolding turn short_turn
  turn-follows st g = turned st.resolved st.met st.queue g
    where
      turned : (ms : List Descriptor) (met : List Name) (q : List Item) → Good (record { resolved = ms; met = met; queue = q })
          → Follows (record { resolved = ms; line = line_of s rq q }) (short_taken in_round old s rq ms (line_of s rq q).todo (line_of s rq q).halt) (taken in_round s rq ms met q)
      turned ms met [] g₂ = unfold taken line_of empty short_taken in refl
      turned ms met (e ∷ q) g₂ = unfold taken line_of in passed-follows ms met e q g₂ (is_permitted rq e.name)

  pub run-follows : (st : State) → Good st → size s rq st ≤ length (candidates s rq)
      → short_run in_round old s rq (short_of s rq st) ≡ map_done (short_of s rq) (run_queue in_round s rq st)
  unfolding short_run run_queue
  run-follows st g b =
      loop-view (turn in_round s rq) (short_turn in_round old s rq) ran_out (short_of s rq) Good good-keeps turn-follows (queue_fuel s rq) (queue_fuel s rq) (omega arith) st g (queue_fuel_lem s rq in_round st b)

  pub run_past : (st t : State) → Past st.met → run_queue in_round s rq st ≡ done t → Past t.met
  unfolding run_queue turn
  run_past st t p e = (loop-inv (turn in_round s rq) ran_out (λ u. Past u.met) (λ u v x h. past-taken u.resolved u.met u.queue v x h) (queue_fuel s rq) st t p e).0
