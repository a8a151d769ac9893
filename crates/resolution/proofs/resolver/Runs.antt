-- The queue until none waits, turn by turn.
use Prim.Native.Nat.{ℕ, zero, suc, ◌+◌, ◌-◌, ◌≤◌, ◌<◌}
use mathlib.Core.Path.{◌≡◌, refl, sym, ◌∙◌, ap}
use mathlib.Core.Bool.{Bool, true, false, not, ◌&&◌}
use mathlib.Core.List.{List}
use native.Mathlib.Omega.{arith}
use lib.Dec.{eqb}
use lib.ListN.{length, get_or, take}
use lib.Seq.{length-take-le}
use borrow.Author.Tests.{eqb-false, not-true}
use Rattle.records.specs.Record.{records}
use Rattle.records.specs.declared.error.Input.TheVariants as Input
use Rattle.records.proofs.Logic.{clash, and_left, and_right}
use Rattle.resolution.specs.Row.{one}
use Rattle.resolution.specs.Resolver.{Inputs, inputs_of, start_of, block_of, Line, line_at, Ready, split_at, advanced_at, handled_at, handle_at, is_open, goes_on, run_at}
use Rattle.resolution.specs.Known.{Tables}
use Rattle.resolution.specs.Runs.{Running, Ran}
use Rattle.resolution.specs.declared.resolver.Halt.{Halt}
use Rattle.resolution.specs.declared.resolver.Phase.{Phase}
use Rattle.resolution.specs.declared.resolver.Queue.{Queue}
use Rattle.resolution.proofs.resolver.Turns.{longer_records, tail-few, tail-long}

-- a line that does not go on stays, whatever the fuel
pub run-ended : (w : Inputs) (f : ℕ) (l : Line) → goes_on l ≡ false → run_at w f l ≡ l
unfolding run_at
run-ended w zero l e = refl
run-ended w (suc f) l e = rw e

run-turn : (w : Inputs) (f : ℕ) (l : Line) → goes_on l ≡ true → run_at w (suc f) l ≡ run_at w f (handle_at w l)
unfolding run_at
run-turn w f l e = rw e

-- a turn resolves a module, or refuses
turned : (w : Inputs) (l : Line) → is_open (handle_at w l).halt ≡ true → (handle_at w l).head ≡ suc l.head
unfolding handle_at handled_at advanced_at is_open
turned w l t = go (split_at w (take l.head l.order) p) t
  where
    p : ℕ
    p = get_or l.order l.head 0

    go : (h : Halt) → is_open (handled_at w l p h).halt ≡ true → (handled_at w l p h).head ≡ suc l.head
    go Halt.Open k = (longer_records w Input.Set (start_of w p) (records (block_of w p)) (record { order = l.order; head = suc l.head; halt = l.halt })).head
    go (Halt.Stop x) k = clash (cc)
    go (Halt.Refused x) k = clash (cc)

-- and never takes one back
pub not_back : (w : Inputs) (l : Line) → l.head ≤ (handle_at w l).head
unfolding handle_at handled_at advanced_at
not_back w l = go (split_at w (take l.head l.order) p)
  where
    p : ℕ
    p = get_or l.order l.head 0

    go : (h : Halt) → l.head ≤ (handled_at w l p h).head
    go Halt.Open = omega (arith, (longer_records w Input.Set (start_of w p) (records (block_of w p)) (record { order = l.order; head = suc l.head; halt = l.halt })).head)
    go (Halt.Stop x) = omega arith
    go (Halt.Refused x) = omega arith

ended : (l : Line) → is_open l.halt ≡ false → goes_on l ≡ false
unfolding goes_on
ended l e = rw e

open_on : (l : Line) → goes_on l ≡ true → is_open l.halt ≡ true
unfolding goes_on
open_on l e = and_left (is_open l.halt) (not (eqb l.head (length l.order))) e

module _ (set request starts old : List ℕ) (phase : Phase) (index names needed : List ℕ) where
  abbrev w : Inputs
  w = inputs_of set request starts old phase

  -- the queue so far: what is left of the run
  pub record RunAt (start : Line) (from : ℕ) (order packages : List ℕ) (q : Queue) : Type 0 where
    pub tables : Tables set request starts old phase index names needed
    pub running : Running phase.count set starts order packages q
    pub left : run_at w (suc phase.count - from) start ≡ run_at w (suc phase.count - q.head) (line_at order q)

  pub run_start : (order packages : List ℕ) (q : Queue) → Tables set request starts old phase index names needed → Running phase.count set starts order packages q
      → RunAt (line_at order q) q.head order packages q
  run_start order packages q k h = record { tables = k; running = h; left = refl }

  module _ (start : Line) (from : ℕ) (order packages : List ℕ) (q : Queue) (h : RunAt start from order packages q)
      (on : Bool) (eo : on ≡ (is_open q.halt && not (eqb q.head q.tail))) where
    ready : Ready phase.count order q
    ready = h.running.ready

    same_on : goes_on (line_at order q) ≡ on
    unfolding goes_on line_at
    same_on = rw (length-take-le q.tail order (tail-long phase.count order q ready)) (sym eo)

    pub run_done : on ≡ false → Ran phase.count set starts order packages q (run_at w (suc phase.count - from) start)
    run_done e = record { line = sym (h.left ∙ run-ended w (suc phase.count - q.head) (line_at order q) (same_on ∙ e)); running = h.running }

    pub run_off : on ≡ false → (is_open q.halt && not (eqb q.head q.tail)) ≡ false
    run_off e = sym eo ∙ e

    module _ (e : on ≡ true) where
      both : (is_open q.halt && not (eqb q.head q.tail)) ≡ true
      both = sym eo ∙ e

      pub run_waits : q.head < q.tail
      run_waits =
          let n : q.head ≡ q.tail → ⊥ = eqb-false q.head q.tail (not-true (eqb q.head q.tail) (and_right (is_open q.halt) (not (eqb q.head q.tail)) both)) in
          go q.head q.tail n ready.waits
        where
          go : (a b : ℕ) → (a ≡ b → ⊥) → a ≤ b → a < b
          go a b n l = omega (arith, n, l)

      pub run_tables : Tables set request starts old phase index names needed
      run_tables = h.tables

      pub run_running : Running phase.count set starts order packages q
      run_running = h.running

      module _ (order₂ packages₂ : List ℕ) (r : Queue) (m : Ran phase.count set starts order₂ packages₂ r (handle_at w (line_at order q))) where
        fuel : suc phase.count - q.head ≡ suc (phase.count - q.head)
        fuel = omega (arith, run_waits, tail-few phase.count order q ready)

        one_turn : run_at w (suc phase.count - from) start ≡ run_at w (phase.count - q.head) (line_at order₂ r)
        one_turn = h.left ∙ rw fuel (run-turn w (phase.count - q.head) (line_at order q) (same_on ∙ e)) ∙ ap (run_at w (phase.count - q.head)) (sym m.line)

        halt_is : (b : Bool) → is_open r.halt ≡ b → is_open (handle_at w (line_at order q)).halt ≡ b
        unfolding line_at
        halt_is b k = sym (ap (λ (l : Line). is_open l.halt) m.line) ∙ k

        next_head : is_open r.halt ≡ true → r.head ≡ suc q.head
        unfolding line_at
        next_head k = ap (λ (l : Line). l.head) m.line ∙ turned w (line_at order q) (halt_is true k)

        pub run_again : RunAt start from order₂ packages₂ r
        run_again = record { tables = h.tables; running = m.running; left = one_turn ∙ go (is_open r.halt) refl }
          where
            go : (b : Bool) → is_open r.halt ≡ b → run_at w (phase.count - q.head) (line_at order₂ r) ≡ run_at w (suc phase.count - r.head) (line_at order₂ r)
            go true k = let f : phase.count - q.head ≡ suc phase.count - r.head = omega (arith, next_head k) in ap (λ (n : ℕ). run_at w n (line_at order₂ r)) f
            go false k =
                let z : goes_on (line_at order₂ r) ≡ false = ended (line_at order₂ r) (unfold line_at in k) in
                run-ended w (phase.count - q.head) (line_at order₂ r) z ∙ sym (run-ended w (suc phase.count - r.head) (line_at order₂ r) z)

        pub run_less : (513 - r.head) + one (is_open r.halt) < (513 - q.head) + one (is_open q.halt)
        unfolding one
        run_less = rw was (go (is_open r.halt) refl)
          where
            was : is_open q.halt ≡ true
            was = and_left (is_open q.halt) (not (eqb q.head q.tail)) both

            on_or_same : q.head ≤ r.head
            on_or_same = unfold line_at in omega (arith, ap (λ (l : Line). l.head) m.line, not_back w (line_at order q))

            go : (b : Bool) → is_open r.halt ≡ b → (513 - r.head) + one b < (513 - q.head) + 1
            go true k = omega (arith, next_head k, run_waits, tail-few phase.count order q ready, ready.few)
            go false k = omega (arith, on_or_same)

pub ruleset run_laws = (run_start, run_done, run_off, run_waits, run_tables, run_running, run_again, run_less)
