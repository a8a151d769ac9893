-- The queue of the roots, and the whole.
use Prim.Native.Nat.{ℕ, suc, ◌+◌, ◌-◌, ◌≤◌}
use mathlib.Core.Path.{◌≡◌, refl, sym, ◌∙◌, ap}
use mathlib.Core.Bool.{Bool, true, false, not}
use mathlib.Core.List.{List, [], map}
use native.Mathlib.Omega.{arith}
use lib.ListN.{length, take, drop, set, replicate, length-replicate, get_or-replicate}
use lib.Seq.{length-take-le}
use Rattle.records.specs.Name.{java_base, mem_name, name_of}
use Rattle.records.specs.Record.{records, bodies}
use Rattle.records.specs.Request.{request_of}
use Rattle.records.specs.declared.error.Input.TheVariants as Input
use Rattle.records.specs.declared.error.ModuleError.TheVariants.{JavaBaseNotFound}
use Rattle.records.specs.declared.record.Kind.TheVariants as Kind
use Rattle.records.proofs.Logic.{clash}
use Rattle.resolution.specs.Lists.{any}
use Rattle.resolution.specs.Row.{one}
use Rattle.resolution.specs.Resolver.{Inputs, inputs_of, want, Line, line_at, is_one_of, pick_line, queued, queue_in, run_at, rounds_at, front_at, roots_at, first_at, then_rounds, start_on, resolve_at, Ready, Fresh, Unused, FirstOf, Moved}
use Rattle.resolution.specs.Filter.{asked}
use Rattle.resolution.specs.Lookup.{Lookup}
use Rattle.resolution.specs.Known.{Limited, LimitTold, Tables, Later}
use Rattle.resolution.specs.Runs.{Running, Ran}
use Rattle.std.specs.Prelude.{Option, Some, None, is_some, unwrap_or}
use Rattle.resolution.specs.declared.resolver.Halt.{Halt}
use Rattle.resolution.specs.declared.resolver.Phase.{Phase}
use Rattle.resolution.specs.declared.resolver.Queue.{Queue}
use Rattle.resolution.specs.declared.resolver.Resolver.{Resolver}
use Rattle.resolution.specs.declared.resolver.Wanted.{Wanted}
use Rattle.resolution.proofs.row.Counts.{count-le}
use Rattle.resolution.proofs.filter.Covers.{covers-none}
use Rattle.resolution.proofs.resolver.Turns.{longer_queued, longer_records, tail-long, tail-few}

module _ (set request starts old : List ℕ) (phase : Phase) where
  abbrev w : Inputs
  w = inputs_of set request starts old phase

  -- ---- java.base

  module _ (order : List ℕ) (q : Queue) (u : Unused phase.count order q) where
    empty_ready : Ready phase.count order (record { head = 0; tail = 0; halt = Halt.Open })
    unfolding one is_one_of any
    empty_ready = let h = u.fresh in record {
      long = h.long;
      few = h.few;
      waits = omega arith;
      room = omega (arith, count-le (λ k. not (is_one_of k (take 0 order))) phase.count);
      marked = h.unmarked;
    }

    pub front-ready : Ready phase.count order q
    front-ready = rw u.empty empty_ready

    empty_line : line_at order q ≡ record { order = []; head = 0; halt = Halt.Open }
    unfolding line_at
    empty_line = rw u.empty

    module _ (r : Bool) (er : r ≡ mem_name java_base (map name_of (bodies Kind.Root request))) where
      pub front-root : r ≡ true → Moved phase.count order q (front_at w)
      unfolding front_at inputs_of request_of
      front-root e = record { line = empty_line ∙ sym (ap (λ (b : Bool). pick_line b (record { order = []; head = 0; halt = Halt.Open }) (queued (want w java_base false JavaBaseNotFound) (record { order = []; head = 0; halt = Halt.Open }))) (sym er ∙ e)); ready = front-ready }

      pub front-base : r ≡ false → (wanted : Wanted) (order₂ : List ℕ) (q₂ : Queue) → wanted ≡ want w java_base false JavaBaseNotFound
          → Moved phase.count order₂ q₂ (queued wanted (line_at order q)) → Moved phase.count order₂ q₂ (front_at w)
      unfolding front_at inputs_of request_of
      front-base e wanted order₂ q₂ ew m = record {
        line =
            m.line ∙ ap (queued wanted) empty_line ∙ ap (λ (v : Wanted). queued v (record { order = []; head = 0; halt = Halt.Open })) ew
            ∙ sym (ap (λ (b : Bool). pick_line b (record { order = []; head = 0; halt = Halt.Open }) (queued (want w java_base false JavaBaseNotFound) (record { order = []; head = 0; halt = Halt.Open }))) (sym er ∙ e));
        ready = m.ready;
      }

  front-head : (front_at w).head ≡ 0
  unfolding front_at
  front-head = go (mem_name java_base (request_of w.request).roots)
    where
      go : (b : Bool) → (pick_line b (record { order = []; head = 0; halt = Halt.Open }) (queued (want w java_base false JavaBaseNotFound) (record { order = []; head = 0; halt = Halt.Open }))).head ≡ 0
      go true = refl
      go false = (longer_queued (want w java_base false JavaBaseNotFound) (record { order = []; head = 0; halt = Halt.Open })).head

  -- ---- the roots

  module _ (order : List ℕ) (q : Queue) (m : Moved phase.count order q (front_at w)) where
    pub roots-ready : Ready phase.count order q
    roots-ready = m.ready

    pub roots-moved : (order₂ : List ℕ) (r : Queue) → Moved phase.count order₂ r (queue_in w Input.Request 0 (records (drop 0 request)) (line_at order q)) → Moved phase.count order₂ r (roots_at w)
    unfolding roots_at inputs_of
    roots-moved order₂ r n = record { line = n.line ∙ ap (queue_in w Input.Request 0 (records request)) m.line; ready = n.ready }

  roots-head : (roots_at w).head ≡ 0
  unfolding roots_at
  roots-head = (longer_records w Input.Request 0 (records w.request) (front_at w)).head ∙ front-head

  -- ---- what they lead to

  module _ (order packages : List ℕ) (q : Queue) (m : Moved phase.count order q (roots_at w)) where
    starts-at : q.head ≡ 0
    unfolding line_at
    starts-at = ap (λ (l : Line). l.head) m.line ∙ roots-head

    pub first_running : length set ≤ 65535 → length packages ≡ 1024 → Running phase.count set starts order packages q
    first_running s l = record {
      ready = m.ready;
      short = s;
      wide = l;
      covers = rw starts-at (covers-none (asked set starts) Kind.Package packages);
    }

    pub first-ran : (order₂ packages₂ : List ℕ) (r : Queue) → Ran phase.count set starts order₂ packages₂ r (run_at w (suc phase.count - q.head) (line_at order q)) → Ran phase.count set starts order₂ packages₂ r (first_at w)
    unfolding first_at inputs_of
    first-ran order₂ packages₂ r n =
        let e : suc phase.count - q.head ≡ suc phase.count = omega (arith, starts-at) in
        record { line = n.line ∙ rw (e, m.line); running = n.running }

pub ruleset front_laws = (front-ready, front-root, front-base)

pub ruleset roots_laws = (roots-ready, roots-moved)

pub ruleset first_laws = (first_running, first-ran)

-- ---- the first entries

module _ (order : List ℕ) (n : ℕ) where
  pub first_room : n ≤ 512 → n ≤ length (replicate {A = ℕ} 512 0)
  first_room l = rw (length-replicate {A = ℕ} 512 0) l

pub ruleset first_of_laws = (first_room)

-- ---- the whole

pub order-fresh : (count : ℕ) → count ≤ 512 → Fresh count (replicate 1024 0)
order-fresh count h = record { long = length-replicate {A = ℕ} 1024 0; few = h; unmarked = λ i l. get_or-replicate 1024 (512 + i) 0 0 (omega (arith, l)) }

pub order-unused : (count : ℕ) → count ≤ 512 → (r : Resolver) → r ≡ record { order = replicate 1024 0; queue = record { head = 0; tail = 0; halt = Halt.Open } } → Unused count r.order r.queue
order-unused count h r e = rw e (record { fresh = order-fresh count h; empty = refl })

module _ (set request starts : List ℕ) (phase : Phase) (index names : List ℕ) (h : Tables set request starts starts phase index names names) where
  pub order-later : length request ≤ 65535 → (order old : List ℕ) (before : ℕ) → before ≤ 512 → FirstOf order before old
      → Later set request starts old (record { count = phase.count; permitted = phase.permitted; in_round = true; before = before; statics = phase.statics; limited = phase.limited; known = false }) index
  order-later s order old before l f = record {
    lookup = h.lookup;
    short = s;
    within = omega (arith, l, f.long);
    later = refl;
    unknown = refl;
    free = h.limits.free;
    statics = h.statics;
  }

module _ (set request starts : List ℕ) (phase : Phase) (order packages : List ℕ) (q : Queue)
    (m : Ran phase.count set starts order packages q (first_at (inputs_of set request starts starts phase))) where
  pub order_running : Running phase.count set starts order packages q
  order_running = m.running

  pub order-within : q.tail ≤ length order
  order-within = tail-long phase.count order q m.running.ready

  pub order-few : q.tail ≤ 512
  order-few = omega (arith, tail-few phase.count order q m.running.ready, m.running.ready.few)

  pub order_is : (old : List ℕ) → FirstOf order q.tail old → (order₂ : List ℕ) (r : Queue)
      → Moved phase.count order₂ r
      (rounds_at (inputs_of set request starts old (record { count = phase.count; permitted = phase.permitted; in_round = true; before = q.tail; statics = phase.statics; limited = phase.limited; known = false })) (suc phase.count) (line_at order q))
      → line_at order₂ r ≡ resolve_at (inputs_of set request starts starts phase)
  unfolding resolve_at then_rounds inputs_of line_at
  order_is old f order₂ r n =
      n.line
      ∙ ap (λ (l : List ℕ). rounds_at (record { set = set; request = request; starts = starts; count = phase.count; permitted = phase.permitted; in_round = true; before = l }) (suc phase.count) (line_at order q)) f.same
      ∙ ap (λ (l : Line). rounds_at (record { set = set; request = request; starts = starts; count = phase.count; permitted = phase.permitted; in_round = true; before = l.order }) (suc phase.count) l) m.line

pub ruleset order_laws = (order-later, order_running, order-within, order-few, order_is)

-- ---- with and without an LM

module _ (set request starts words : List ℕ) (count : ℕ) (index : List ℕ) (k : Lookup set starts count index) where
  pub listed-tables : (st : Bool) → st ≡ (request_of request).has_static → (table : List ℕ) (r : Option ℕ) → LimitTold request table r
      → (known : Bool) (m : ℕ) → known ≡ is_some r → m ≡ unwrap_or r 0
      → Tables set request starts starts (record { count = count; permitted = words; in_round = false; before = 0; statics = st; limited = true; known = known }) index (take m table) (take m table)
  listed-tables st es table None h known m ek em =
      let unknown : known ≡ false = ek in
      record {
        lookup = k;
        limits = record { free = λ e. clash (cc); sorted = λ e b. clash (cc); permits = λ e b. clash (cc) };
        met = record { sorted = λ e b. clash (cc); sorted_needed = λ e b. clash (cc); met = λ e b. clash (cc) };
        statics = es;
      }
  listed-tables st es table (Some n) h known m ek em =
      let q : m ≡ n = em in
      record {
        lookup = k;
        limits = record { free = λ e. clash (cc); sorted = λ e b. rw q (h.sorted n refl); permits = λ e b. rw q (h.permits n refl) };
        met = record { sorted = λ e b. clash (cc); sorted_needed = λ e b. clash (cc); met = λ e b. clash (cc) };
        statics = es;
      }

  pub free-tables : (st : Bool) → st ≡ (request_of request).has_static → (l : Bool) → Limited request l → l ≡ false → (names : List ℕ)
      → Tables set request starts starts (record { count = count; permitted = words; in_round = false; before = 0; statics = st; limited = false; known = false }) index names names
  free-tables st es l h e names = record {
    lookup = k;
    limits = record { free = λ z. h.free e; sorted = λ z. clash (cc); permits = λ z. clash (cc) };
    met = record { sorted = λ z. clash (cc); sorted_needed = λ z. clash (cc); met = λ z. clash (cc) };
    statics = es;
  }

listed-inside : (request table : List ℕ) (r : Option ℕ) → LimitTold request table r → unwrap_or r 0 ≤ length table
listed-inside request table None h = omega arith
listed-inside request table (Some n) h = h.room n refl

pub listed-room : (request table : List ℕ) (r : Option ℕ) → LimitTold request table r → (m : ℕ) → m ≡ unwrap_or r 0 → m ≤ length table
listed-room request table r h m e = rw e (listed-inside request table r h)

pub listed-part : (request table : List ℕ) (r : Option ℕ) → LimitTold request table r → (m : ℕ) → m ≡ unwrap_or r 0 → m ≡ length (take m table)
listed-part request table r h m e = sym (length-take-le m table (listed-room request table r h m e))

pub started : (set request starts words : List ℕ) (count : ℕ) (statics limited known : Bool) (l : Line)
    → l ≡ resolve_at (inputs_of set request starts starts (record { count = count; permitted = words; in_round = false; before = 0; statics = statics; limited = limited; known = known })) → l ≡ resolve_at (start_on set request count starts words)
unfolding inputs_of
started set request starts words count statics limited known l e = e

pub ruleset listed_laws = (listed-tables, listed-room, listed-part, started)

pub ruleset free_laws = (free-tables, started)
