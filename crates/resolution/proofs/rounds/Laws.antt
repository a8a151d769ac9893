-- Round after round.
use Prim.Native.Nat.{ℕ, zero, suc, ◌+◌, ◌-◌, ◌≤◌, ◌<◌}
use mathlib.Core.Path.{◌≡◌, refl, sym, ◌∙◌, ap, subst}
use mathlib.Core.Bool.{Bool, true, false, not, ◌&&◌, and-false}
use mathlib.Core.List.{List, [], ◌∷◌, ◌++◌}
use native.Mathlib.Omega.{arith}
use lib.Dec.{eqb}
use lib.ListN.{length, get_or, take, replicate, length-append, length-replicate}
use lib.Seq.{length-take-le, take-take}
use borrow.Author.Tests.{eqb-true, eqb-false, eq-eqb}
use Rattle.records.specs.Record.{records}
use Rattle.records.specs.declared.error.Input.TheVariants as Input
use Rattle.records.proofs.Logic.{clash, true≠false}
use Rattle.resolution.specs.Row.{one}
use Rattle.resolution.specs.Resolver.{Inputs, inputs_of, start_of, block_of, Line, line_at, is_one_of, pick_line, Ready, Moved, split_at, advanced_at, handled_at, handle_at, is_open, goes_on, run_at, is_provider_at, provide_at, is_done, round_at, rounds_at, is_met_before}
use Rattle.resolution.specs.Filter.{requires_in, is_required}
use Rattle.resolution.specs.Known.{RootsTold, Tables, Later}
use Rattle.resolution.specs.Table.{NamesTold}
use Rattle.resolution.specs.Runs.{Running, Ran, Unbound, Between, Rounded}
use Rattle.std.specs.Prelude.{Option, Some, None, is_some, unwrap_or}
use Rattle.resolution.specs.declared.table.Told.TheVariants.{Requirements}
use Rattle.resolution.specs.declared.resolver.Halt.{Halt}
use Rattle.resolution.specs.declared.resolver.Phase.{Phase}
use Rattle.resolution.specs.declared.resolver.Queue.{Queue}
use Rattle.resolution.proofs.table.Laws.{tells-required}
use Rattle.resolution.proofs.resolver.Turns.{append-nil, Grown, Longer, grown-same, grown-then, longer_records, front_same, tail-grows, tail-few, tail-long}
use Rattle.resolution.proofs.resolver.Runs.{not_back, run-ended}
use Rattle.resolution.proofs.providers.Laws.{one-grown, provider_none, longer_provided, halt-provided, provided_in, provide_same}

-- ---- before the rounds

-- no module was asked yet
pub rounds-fresh : (set starts order packages : List ℕ) (phase : Phase) (q : Queue) → Running phase.count set starts order packages q → Between phase set starts order packages 0 q
rounds-fresh set starts order packages phase q h = record {
  running = h;
  bound_is = record { each = λ i l e. true≠false e (provider_none (inputs_of set [] starts [] phase) i) };
  behind = omega arith;
}

-- ---- what the queue keeps

grown-handled : (w : Inputs) (l : Line) → Grown l (handle_at w l)
unfolding handle_at handled_at advanced_at
grown-handled w l = go (split_at w (take l.head l.order) p)
  where
    p : ℕ
    p = get_or l.order l.head 0

    go : (h : Halt) → Grown l (handled_at w l p h)
    go Halt.Open =
        let g = (longer_records w Input.Set (start_of w p) (records (block_of w p)) (record { order = l.order; head = suc l.head; halt = l.halt })).grown in
        record { more = g.more; order = g.order }
    go (Halt.Stop x) = grown-same l (record { order = l.order; head = l.head; halt = Halt.Refused x }) refl
    go (Halt.Refused x) = grown-same l (record { order = l.order; head = l.head; halt = Halt.Refused x }) refl

grown-run : (w : Inputs) (f : ℕ) (l : Line) → Grown l (run_at w f l)
unfolding run_at
grown-run w zero l = grown-same l l refl
grown-run w (suc f) l = go (goes_on l) (grown-then l (handle_at w l) (run_at w f (handle_at w l)) (grown-handled w l) (grown-run w f (handle_at w l)))
  where
    go : (b : Bool) → Grown l (run_at w f (handle_at w l)) → Grown l (pick_line b (run_at w f (handle_at w l)) l)
    go true g = g
    go false g = grown-same l l refl

never_back : (w : Inputs) (f : ℕ) (l : Line) → l.head ≤ (run_at w f l).head
unfolding run_at
never_back w zero l = omega arith
never_back w (suc f) l = go (goes_on l) (never_back w f (handle_at w l))
  where
    go : (b : Bool) → (handle_at w l).head ≤ (run_at w f (handle_at w l)).head → l.head ≤ (pick_line b (run_at w f (handle_at w l)) l).head
    go true k = omega (arith, k, not_back w l)
    go false k = omega arith

-- ---- the rounds

done-is_open : (h : Halt) → is_done h ≡ true → is_open h ≡ true
unfolding is_done is_open
done-is_open Halt.Open e = refl
done-is_open (Halt.Stop x) e = clash (cc)
done-is_open (Halt.Refused x) e = clash (cc)

not_done : (w : Inputs) (f : ℕ) (l : Line) → is_done l.halt ≡ false → rounds_at w f l ≡ l
unfolding rounds_at
not_done w zero l e = refl
not_done w (suc f) l e = rw e

module _ (set request starts old : List ℕ) (phase : Phase) where
  abbrev w : Inputs
  w = inputs_of set request starts old phase

  -- ---- one round

  module _ (order packages : List ℕ) (bound : ℕ) (q : Queue) (h : Between phase set starts order packages bound q) where
    ready : Ready phase.count order q
    ready = h.running.ready

    pub round-unbound : Unbound phase set starts order bound q
    round-unbound = record { short = h.running.short; ready = ready; bound_is = h.bound_is; behind = h.behind }

    module _ (order₂ : List ℕ) (r : Queue) (m : Moved phase.count order₂ r (provide_at (inputs_of set [] starts [] phase) (line_at order q))) where
      line_is : line_at order₂ r ≡ provide_at w (line_at order q)
      line_is = m.line ∙ provide_same set request starts old phase (line_at order q)

      longer : Longer (line_at order q) (line_at order₂ r)
      unfolding provide_at
      longer = subst (Longer (line_at order q)) (sym line_is) (longer_provided w (take (line_at order q).head (line_at order q).order) w.count 0 (line_at order q))

      same_head : r.head ≡ q.head
      unfolding line_at
      same_head = longer.head

      grows : q.tail ≤ r.tail
      grows = tail-grows phase.count order order₂ q r ready m.ready longer.grown

      pub round_running : Running phase.count set starts order₂ packages r
      round_running = record {
        ready = m.ready;
        short = h.running.short;
        wide = h.running.wide;
        covers = rw (same_head, front_same phase.count order order₂ q r q.head ready m.ready longer.grown ready.waits) h.running.covers;
      }

      module _ (d : is_done q.halt ≡ true) where
        -- the providers are in the queue
        all_in : (i : ℕ) → i < phase.count → is_provider_at (inputs_of set [] starts [] phase) (take q.head order₂) i ≡ true → is_one_of i (take r.tail order₂) ≡ true
        unfolding line_at provide_at inputs_of
        all_in i l e =
            let f : take q.head order₂ ≡ take q.head (take q.tail order) =
            front_same phase.count order order₂ q r q.head ready m.ready longer.grown ready.waits ∙ sym (take-take q.head q.tail order ready.waits) in
            ap (λ (k : Line). is_one_of i k.order) m.line
            ∙ provided_in (inputs_of set [] starts [] phase) (take q.head (take q.tail order)) phase.count 0 (line_at order q) d i (omega arith) (omega (arith, l))
            (ap (λ (ps : List ℕ). is_provider_at (inputs_of set [] starts [] phase) ps i) (sym f) ∙ e)

        -- the queue of the round
        pub round-ran : (order₃ packages₃ : List ℕ) (r₃ : Queue) → Ran phase.count set starts order₃ packages₃ r₃ (run_at w (suc phase.count - r.head) (line_at order₂ r))
            → (is_open r₃.halt && not (eqb r₃.head r₃.tail)) ≡ false → Rounded phase set starts order₃ packages₃ q.head r₃ (round_at w (line_at order q))
        unfolding round_at line_at inputs_of
        round-ran order₃ packages₃ r₃ n off = record {
          line = n.line ∙ ap (λ (x : ℕ). run_at w (suc phase.count - x) (line_at order₂ r)) same_head ∙ ap (run_at w (suc phase.count - q.head)) line_is;
          between = record {
            running = n.running;
            bound_is = record {
              each = λ i l e.
                  one-grown (line_at order₂ r) (line_at order₃ r₃) i grown
                  (all_in i l (ap (λ (ps : List ℕ). is_provider_at (inputs_of set [] starts [] phase) ps i) (sym same) ∙ e));
            };
            behind = omega (arith, ap (λ (l : Line). l.head) n.line, never_back w (suc phase.count - r.head) (line_at order₂ r), same_head);
          };
          off = off;
        }
          where
            grown : Grown (line_at order₂ r) (line_at order₃ r₃)
            grown = subst (Grown (line_at order₂ r)) (sym n.line) (grown-run w (suc phase.count - r.head) (line_at order₂ r))

            same : take q.head order₃ ≡ take q.head order₂
            same = front_same phase.count order₂ order₃ r r₃ q.head m.ready n.running.ready grown (omega (arith, ready.waits, grows))

  -- ---- round after round

  -- no provider is new
  abbrev none_new : Line → Bool
  none_new l = eqb l.head (length (provide_at w l).order)

  -- that stays so, whatever the fuel
  stays : (f : ℕ) (l : Line) → none_new l ≡ true → rounds_at w f l ≡ l
  unfolding rounds_at
  stays zero l e = refl
  stays (suc f) l e =
      let k : (is_done l.halt && not (none_new l)) ≡ false = rw e (and-false (is_done l.halt)) in
      ap (λ (b : Bool). pick_line b (rounds_at w f (round_at w l)) l) k

  -- and the round changes nothing
  idle : (l : Line) → l.head ≤ length l.order → none_new l ≡ true → round_at w l ≡ l
  unfolding round_at provide_at goes_on
  idle l b e =
      let p : Longer l (provide_at w l) = longer_provided w (take l.head l.order) w.count 0 l in
      let n : l.head ≡ length (provide_at w l).order = eqb-true l.head (length (provide_at w l).order) e in
      let z : length p.grown.more ≡ 0 = omega (arith, b, n, ap length p.grown.order, length-append l.order p.grown.more) in
      let o : (provide_at w l).order ≡ l.order = p.grown.order ∙ ap (λ (r : List ℕ). l.order ++ r) (none p.grown.more z) ∙ append-nil l.order in
      let same : provide_at w l ≡ l = line_same (provide_at w l) l o p.head (halt-provided w (take l.head l.order) w.count 0 l) in
      let ends : goes_on l ≡ false = rw (eq-eqb l.head (length l.order) (n ∙ ap length o)) (and-false (is_open l.halt)) in
      ap (run_at w (suc w.count - l.head)) same ∙ run-ended w (suc w.count - l.head) l ends
    where
      none : (r : List ℕ) → length r ≡ 0 → r ≡ []
      none [] k = refl
      none (x ∷ r) k = absurd (omega (arith, k))

      line_same : (a c : Line) → a.order ≡ c.order → a.head ≡ c.head → a.halt ≡ c.halt → a ≡ c
      line_same a c x y t = ap (λ (r : List ℕ). record { order = r; head = a.head; halt = a.halt }) x ∙ ap (λ (r : ℕ). record { order = c.order; head = r; halt = a.halt }) y ∙ ap (λ (r : Halt). record { order = c.order; head = c.head; halt = r }) t

  once_more : (f : ℕ) (l : Line) → l.head ≤ length l.order → is_done l.halt ≡ true → rounds_at w (suc f) l ≡ rounds_at w f (round_at w l)
  unfolding rounds_at
  once_more f l b e = go (none_new l) refl
    where
      go : (c : Bool) → none_new l ≡ c → pick_line (is_done l.halt && not (none_new l)) (rounds_at w f (round_at w l)) l ≡ rounds_at w f (round_at w l)
      go true k =
          let z : (is_done l.halt && not (none_new l)) ≡ false = rw (e, k) in
          ap (λ (c : Bool). pick_line c (rounds_at w f (round_at w l)) l) z ∙ sym (ap (rounds_at w f) (idle l b k) ∙ stays f l k)
      go false k =
          let z : (is_done l.halt && not (none_new l)) ≡ true = rw (e, k) in
          ap (λ (c : Bool). pick_line c (rounds_at w f (round_at w l)) l) z

  -- so many rounds are left at most
  pub record RoundsAt (index names needed order₀ packages₀ table₀ : List ℕ) (start : Line) (order packages table : List ℕ) (bound : ℕ) (q : Queue) : Type 0 where
    pub tables : Tables set request starts old phase index names needed
    pub order_long : length order₀ ≡ 1024
    pub packages_long : length packages₀ ≡ 1024
    pub table_long : length table ≡ length table₀
    pub between : Between phase set starts order packages bound q
    pub fuel : ℕ
    pub enough : is_done q.halt ≡ true → phase.count < fuel + q.head
    pub left : rounds_at w (suc phase.count) start ≡ rounds_at w fuel (line_at order q)

  pub rounds_start : (index names needed order packages table : List ℕ) (q : Queue) → Tables set request starts old phase index names needed → Between phase set starts order packages 0 q
      → RoundsAt index names needed order packages table (line_at order q) order packages table 0 q
  rounds_start index names needed order packages table q k h = record { tables = k; order_long = h.running.ready.long; packages_long = h.running.wide; table_long = refl; between = h; fuel = suc phase.count; enough = λ e. omega arith; left = refl }

  module _ (index names needed order₀ packages₀ table₀ : List ℕ) (start : Line) (order packages table : List ℕ) (bound : ℕ) (q : Queue) (h : RoundsAt index names needed order₀ packages₀ table₀ start order packages table bound q) (d : Bool) (ed : d ≡ is_done q.halt) where
    was_ready : Ready phase.count order q
    was_ready = h.between.running.ready

    pub rounds_ended : d ≡ false → Moved phase.count order q (rounds_at w (suc phase.count) start)
    unfolding line_at
    rounds_ended e = record { line = sym (h.left ∙ not_done w h.fuel (line_at order q) (sym ed ∙ e)); ready = was_ready }

    pub rounds_tables : Tables set request starts old phase index names needed
    rounds_tables = h.tables

    pub rounds_between : Between phase set starts order packages bound q
    rounds_between = h.between

    pub rounds_open : d ≡ true → is_done q.halt ≡ true
    rounds_open e = sym ed ∙ e

    module _ (e : d ≡ true) (order₂ packages₂ : List ℕ) (r : Queue) (m : Rounded phase set starts order₂ packages₂ q.head r (round_at w (line_at order q))) where
      some_fuel : (n : ℕ) × (h.fuel ≡ suc n)
      some_fuel = go h.fuel (h.enough (sym ed ∙ e))
        where
          go : (f : ℕ) → phase.count < f + q.head → (n : ℕ) × (f ≡ suc n)
          go zero l = absurd (omega (arith, l, was_ready.waits, tail-few phase.count order q was_ready))
          go (suc n) l = (n, refl)

      first_long : (line_at order q).head ≤ length (line_at order q).order
      unfolding line_at
      first_long = omega (arith, was_ready.waits, length-take-le q.tail order (tail-long phase.count order q was_ready))

      one_round : rounds_at w (suc phase.count) start ≡ rounds_at w some_fuel.0 (line_at order₂ r)
      unfolding line_at
      one_round =
          h.left ∙ ap (λ (f : ℕ). rounds_at w f (line_at order q)) some_fuel.1 ∙ once_more some_fuel.0 (line_at order q) first_long (sym ed ∙ e)
          ∙ ap (rounds_at w some_fuel.0) (sym m.line)

      pub rounds_none : r.head ≡ q.head → Moved phase.count order₂ r (rounds_at w (suc phase.count) start)
      rounds_none k = record { line = sym (one_round ∙ go (is_done r.halt) refl); ready = m.between.running.ready }
        where
          handled : is_done r.halt ≡ true → (b : Bool) → eqb r.head r.tail ≡ b → r.tail ≡ q.head
          handled x true y = sym (eqb-true r.head r.tail y) ∙ k
          handled x false y = open_ends (is_open r.halt) (eqb r.head r.tail) (done-is_open r.halt x) y m.off
            where
              open_ends : (a b : Bool) → a ≡ true → b ≡ false → (a && not b) ≡ false → r.tail ≡ q.head
              open_ends a b p t o = let z : true ≡ false = rw (p, t) at o in clash (cc)

          head_is : (line_at order q).head ≡ q.head
          head_is = unfold line_at in refl

          long : length (line_at order₂ r).order ≡ r.tail
          long = unfold line_at in length-take-le r.tail order₂ (tail-long phase.count order₂ r m.between.running.ready)

          settled : is_done r.halt ≡ true → (b : Bool) → none_new (line_at order q) ≡ b → rounds_at w some_fuel.0 (line_at order₂ r) ≡ line_at order₂ r
          settled x true y =
              let same : line_at order₂ r ≡ line_at order q = m.line ∙ idle (line_at order q) first_long y in
              ap (rounds_at w some_fuel.0) same ∙ stays some_fuel.0 (line_at order q) y ∙ sym same
          settled x false y =
              let same : line_at order₂ r ≡ run_at w (suc w.count - (line_at order q).head) (provide_at w (line_at order q)) = m.line ∙ unfold round_at in refl in
              let g : Grown (provide_at w (line_at order q)) (run_at w (suc w.count - (line_at order q).head) (provide_at w (line_at order q))) = grown-run w (suc w.count - (line_at order q).head) (provide_at w (line_at order q)) in
              let p : Longer (line_at order q) (provide_at w (line_at order q)) = unfold provide_at in longer_provided w (take (line_at order q).head (line_at order q).order) w.count 0 (line_at order q) in
              let n : (line_at order q).head ≡ length (provide_at w (line_at order q)).order → ⊥ = eqb-false (line_at order q).head (length (provide_at w (line_at order q)).order) y in
              let few : length (provide_at w (line_at order q)).order ≤ (line_at order q).head =
              omega (
                arith,
                head_is,
                handled x (eqb r.head r.tail) refl,
                long,
                ap (λ (z : Line). length z.order) same,
                ap length g.order,
                length-append (provide_at w (line_at order q)).order g.more,
              ) in
              let many : (line_at order q).head ≤ length (provide_at w (line_at order q)).order = omega (arith, first_long, ap length p.grown.order, length-append (line_at order q).order p.grown.more) in
              absurd (apart (line_at order q).head (length (provide_at w (line_at order q)).order) n few many)
            where
              apart : (a b : ℕ) → (a ≡ b → ⊥) → b ≤ a → a ≤ b → ⊥
              apart a b z u v = z (omega (arith, u, v))

          go : (b : Bool) → is_done r.halt ≡ b → rounds_at w some_fuel.0 (line_at order₂ r) ≡ line_at order₂ r
          go false x = not_done w some_fuel.0 (line_at order₂ r) (unfold line_at in x)
          go true x = settled x (eqb (line_at order q).head (length (provide_at w (line_at order q)).order)) refl

      module _ (k : r.head ≡ q.head → ⊥) where
        on : q.head < r.head
        on = go q.head r.head k m.between.behind
          where
            go : (a b : ℕ) → (b ≡ a → ⊥) → a ≤ b → a < b
            go a b x l = omega (arith, x, l)

        pub rounds_again : (table₂ : List ℕ) → length table₂ ≡ length table → RoundsAt index names needed order₀ packages₀ table₀ start order₂ packages₂ table₂ q.head r
        rounds_again table₂ g = record {
          tables = h.tables;
          order_long = h.order_long;
          packages_long = h.packages_long;
          table_long = g ∙ h.table_long;
          between = m.between;
          fuel = some_fuel.0;
          enough = λ x. omega (arith, on, h.enough (sym ed ∙ e), some_fuel.1);
          left = one_round;
        }

        pub rounds_less : (513 - r.head) + one (is_done r.halt) < (513 - q.head) + one (is_done q.halt)
        unfolding one
        rounds_less = rw (← ed, e) (go (is_done r.halt))
          where
            go : (b : Bool) → (513 - r.head) + one b < (513 - q.head) + 1
            go true = omega (arith, on, was_ready.waits, tail-few phase.count order q was_ready, was_ready.few)
            go false = omega (arith, on)

pub ruleset round-laws = (round-unbound, round_running, round-ran)

pub ruleset rounds_laws = (rounds_start, rounds_ended, rounds_tables, rounds_between, rounds_open, rounds_none, rounds_again, rounds_less)

-- ---- what is known of the names met before

module _ (set request starts old : List ℕ) (phase : Phase) (index : List ℕ) (h : Later set request starts old phase index) where
  pub later-short : length request ≤ 65535
  later-short = h.short

  pub later-within : phase.before ≤ length old
  later-within = h.within

  -- without an LM
  pub later-free : (names needed : List ℕ) → Tables set request starts old phase index names needed
  later-free names needed = record {
    lookup = h.lookup;
    limits = record { free = h.free; sorted = λ e. clash (cc); permits = λ e. clash (cc) };
    met = record { sorted = λ e. clash (cc); sorted_needed = λ e. clash (cc); met = λ e. clash (cc) };
    statics = h.statics;
  }
    where
      unknown : phase.known ≡ false
      unknown = h.unknown

  -- with one
  pub later-told : (roots needed : List ℕ) (n : ℕ) (r : Option ℕ) → RootsTold request roots n → NamesTold Requirements set starts (take phase.before old) needed r
      → (known : Bool) (m : ℕ) → known ≡ is_some r → m ≡ unwrap_or r 0
      → Tables set request starts old (record { count = phase.count; permitted = phase.permitted; in_round = phase.in_round; before = phase.before; statics = phase.statics; limited = true; known = known }) index (take n roots) (take m needed)
  unfolding is_met_before inputs_of is_required requires_in block_of
  later-told roots needed n None a b known m ek em =
      let unknown : known ≡ false = ek in
      record {
        lookup = h.lookup;
        limits = record { free = λ e. clash (cc); sorted = λ e k. clash (cc); permits = λ e k. clash (cc) };
        met = record { sorted = λ e k. clash (cc); sorted_needed = λ e k. clash (cc); met = λ e k. clash (cc) };
        statics = h.statics;
      }
  later-told roots needed n (Some i) a b known m ek em =
      let t : phase.in_round ≡ true = h.later in
      let q : m ≡ i = em in
      record {
        lookup = h.lookup;
        limits = record { free = λ e. clash (cc); sorted = λ e k. clash (cc); permits = λ e k. clash (cc) };
        met = record { sorted = λ e k. a.sorted; sorted_needed = λ e k. rw q (b.sorted i refl); met = λ e k x. rw q (rw (a.told x, b.told i refl x, tells-required set starts (take phase.before old) x)) };
        statics = h.statics;
      }

pub roots-room : (request table : List ℕ) (n : ℕ) → RootsTold request table n → n ≤ length table
roots-room request table n h = h.room

pub roots-part : (request table : List ℕ) (n : ℕ) → RootsTold request table n → n ≡ length (take n table)
roots-part request table n h = sym (length-take-le n table h.room)

needed-inside : (set starts ps table : List ℕ) (r : Option ℕ) → NamesTold Requirements set starts ps table r → unwrap_or r 0 ≤ length table
needed-inside set starts ps table None h = omega arith
needed-inside set starts ps table (Some i) h = h.room i refl

pub needed_room : (set starts ps table : List ℕ) (r : Option ℕ) → NamesTold Requirements set starts ps table r → (m : ℕ) → m ≡ unwrap_or r 0 → m ≤ length table
needed_room set starts ps table r h m e = rw e (needed-inside set starts ps table r h)

pub needed_part : (set starts ps table : List ℕ) (r : Option ℕ) → NamesTold Requirements set starts ps table r → (m : ℕ) → m ≡ unwrap_or r 0 → m ≡ length (take m table)
needed_part set starts ps table r h m e = sym (length-take-le m table (needed_room set starts ps table r h m e))

pub roots-wide : 16384 ≤ length (replicate {A = ℕ} 16384 0)
roots-wide = rw (length-replicate {A = ℕ} 16384 0) (omega arith)

pub later-set : (count : ℕ) (set starts order packages : List ℕ) (q : Queue) → Running count set starts order packages q → length set ≤ 65535
later-set count set starts order packages q h = h.short

-- whether names are known does not matter for what the rounds give
pub told_moved : (set request starts old : List ℕ) (phase : Phase) (known : Bool) (order : List ℕ) (r : Queue) (l : Line)
    → Moved phase.count order r
    (rounds_at (inputs_of set request starts old (record { count = phase.count; permitted = phase.permitted; in_round = phase.in_round; before = phase.before; statics = phase.statics; limited = true; known = known })) (suc phase.count) l)
    → Moved phase.count order r (rounds_at (inputs_of set request starts old phase) (suc phase.count) l)
unfolding inputs_of
told_moved set request starts old phase known order r l m = m

pub ruleset told_laws = (later-short, later-within, later-told, roots-room, roots-part, needed_room, needed_part, later-set, told_moved)
