-- One turn of the queue, and the queue until none waits.
use Prim.Native.Nat.{ℕ, suc, ◌+◌, ◌≤◌, ◌<◌}
use mathlib.Core.Path.{◌≡◌, refl, sym, ◌∙◌, ap, subst}
use mathlib.Core.Bool.{Bool, true, false, not, ◌&&◌}
use mathlib.Core.List.{List, [], ◌∷◌, ◌++◌}
use native.Mathlib.Omega.{arith}
use lib.Dec.{eqb}
use lib.ListN.{length, get_or, take, drop, length-append}
use lib.Seq.{take-take, get_or-take, length-take-le, take-append-le}
use Rattle.records.specs.Record.{records, body_of, is_of}
use Rattle.records.specs.Set.{block_at}
use Rattle.records.specs.declared.error.Input.{Input}
use Rattle.records.specs.declared.error.ModuleError.{ModuleError}
use Rattle.records.specs.declared.record.Kind.TheVariants as Kind
use Rattle.resolution.specs.Resolver.{Inputs, inputs_of, start_of, block_of, names_of, want_record, kind_for, Line, line_at, is_one_of, pick_line, queued_at, queued_on, queued, queue_in, Ready, Moved, split_at, advanced_at, handled_at, handle_at, is_open, is_done}
use Rattle.resolution.specs.Filter.{MarkedAll, Covers, asked}
use Rattle.resolution.specs.Runs.{Running, Ran}
use Rattle.resolution.specs.declared.resolver.Halt.{Halt}
use Rattle.resolution.specs.declared.resolver.Phase.{Phase}
use Rattle.resolution.specs.declared.resolver.Queue.{Queue}
use Rattle.resolution.specs.declared.resolver.Wanted.{Wanted}
use Rattle.resolution.specs.declared.resolver.Wanted.TheVariants.{Pass, Add, Stop, Refuse}
use Rattle.resolution.proofs.filter.Covers.{covers-next}
use Rattle.resolution.proofs.modules.Asked.{split-asked}
use Rattle.records.proofs.order.Laws.{drop-take}
use Rattle.resolution.proofs.modules.Shared.{take-few}

-- ---- queueing leaves what is resolved as it is

pub append-nil : (ps : List ℕ) → ps ++ [] ≡ ps
append-nil [] = refl
append-nil (p ∷ ps) = ap {B = List ℕ} (λ r. p ∷ r) (append-nil ps)

append_assoc : (x y z : List ℕ) → (x ++ y) ++ z ≡ x ++ (y ++ z)
append_assoc [] y z = refl
append_assoc (p ∷ x) y z = ap {B = List ℕ} (λ r. p ∷ r) (append_assoc x y z)

-- l₂ has the positions of l in front
pub record Grown (l l₂ : Line) : Type 0 where
  pub more : List ℕ
  pub order : l₂.order ≡ l.order ++ more

-- and as many of them are resolved
pub record Longer (l l₂ : Line) : Type 0 where
  pub head : l₂.head ≡ l.head
  pub grown : Grown l l₂

pub grown-same : (l l₂ : Line) → l₂.order ≡ l.order → Grown l l₂
grown-same l l₂ e = record { more = []; order = e ∙ sym (append-nil l.order) }

pub grown-then : (l l₂ l₃ : Line) → Grown l l₂ → Grown l₂ l₃ → Grown l l₃
grown-then l l₂ l₃ a b = record { more = a.more ++ b.more; order = b.order ∙ ap (λ (r : List ℕ). r ++ b.more) a.order ∙ append_assoc l.order a.more b.more }

pub longer_same : (l : Line) → Longer l l
longer_same l = record { head = refl; grown = grown-same l l refl }

pub longer_then : (l l₂ l₃ : Line) → Longer l l₂ → Longer l₂ l₃ → Longer l l₃
longer_then l l₂ l₃ a b = record { head = b.head ∙ a.head; grown = grown-then l l₂ l₃ a.grown b.grown }

pub longer_queued : (wanted : Wanted) (l : Line) → Longer l (queued wanted l)
unfolding queued queued_on queued_at
longer_queued wanted l = go l.halt wanted
  where
    added : (i : ℕ) (b : Bool) → Longer l (pick_line b l (record { order = l.order ++ (i ∷ []); head = l.head; halt = l.halt }))
    added i true = longer_same l
    added i false = record { head = refl; grown = record { more = i ∷ []; order = refl } }

    halts : (h : Halt) → Longer l (record { order = l.order; head = l.head; halt = h })
    halts h = record { head = refl; grown = grown-same l (record { order = l.order; head = l.head; halt = h }) refl }

    go : (h : Halt) (v : Wanted) → Longer l (queued_on h v l)
    go Halt.Open Pass = longer_same l
    go Halt.Open (Add i) = added i (is_one_of i l.order)
    go Halt.Open (Stop e) = halts (Halt.Stop e)
    go Halt.Open (Refuse e) = halts (Halt.Refused e)
    go (Halt.Stop e) v = longer_same l
    go (Halt.Refused e) v = longer_same l

pub longer_records : (w : Inputs) (i : Input) (at : ℕ) (rs : List (List ℕ)) (l : Line) → Longer l (queue_in w i at rs l)
unfolding queue_in
longer_records w i at [] l = longer_same l
longer_records w i at (r ∷ rs) l = longer_then l (pick_line b q l) (queue_in w i (at + length r) rs (pick_line b q l)) (picked b) (longer_records w i (at + length r) rs (pick_line b q l))
  where
    b : Bool
    b = is_of (kind_for i) r

    q : Line
    q = queued (want_record w i (body_of r) (at + 4)) l

    picked : (c : Bool) → Longer l (pick_line c q l)
    picked true = longer_queued (want_record w i (body_of r) (at + 4)) l
    picked false = longer_same l

-- ---- the array and the line

module _ (count : ℕ) (order : List ℕ) (q : Queue) (h : Ready count order q) where
  pub tail-few : q.tail ≤ count
  tail-few = omega (arith, h.room)

  pub tail-long : q.tail ≤ length order
  tail-long = omega (arith, h.room, h.few, h.long)

  line-length : length (take q.tail order) ≡ q.tail
  line-length = length-take-le q.tail order tail-long

  resolved-part : take q.head (take q.tail order) ≡ take q.head order
  resolved-part = take-take q.head q.tail order h.waits

-- what is resolved stays in front
pub front_same : (count : ℕ) (order order₂ : List ℕ) (q r : Queue) (n : ℕ) → Ready count order q → Ready count order₂ r → Grown (line_at order q) (line_at order₂ r)
    → n ≤ q.tail → take n order₂ ≡ take n order
unfolding line_at
front_same count order order₂ q r n h k g b =
    let a : length (take q.tail order) ≡ q.tail = line-length count order q h in
    let t : q.tail ≤ r.tail = omega (arith, sym (line-length count order₂ r k), ap length g.order, length-append (take q.tail order) g.more, a) in
    sym (take-take n r.tail order₂ (omega (arith, b, t))) ∙ rw g.order
    (take-append-le n (take q.tail order) g.more (omega (arith, a, b)) ∙ take-take n q.tail order b)

pub tail-grows : (count : ℕ) (order order₂ : List ℕ) (q r : Queue) → Ready count order q → Ready count order₂ r → Grown (line_at order q) (line_at order₂ r) → q.tail ≤ r.tail
unfolding line_at
tail-grows count order order₂ q r h k g =
    omega (arith, sym (line-length count order₂ r k), ap length g.order, length-append (take q.tail order) g.more, line-length count order q h)

-- ---- the module at the head is resolved

module _ (count : ℕ) (set starts order : List ℕ) (q : Queue) (h : Ready count order q) (l : q.head < q.tail) where
  pub head-index : q.head < length order
  head-index = omega (arith, l, tail-long count order q h)

  pub head-fits : q.head < 512
  head-fits = omega (arith, l, tail-few count order q h, h.few)

  pub source-short : (s : List ℕ) (n : ℕ) → length set ≤ 65535 → s ≡ take n set → length s ≤ 65535
  source-short s n k e = rw e (omega (arith, take-few n set, k))

  pub next-ready : Ready count order (record { head = q.head + 1; tail = q.tail; halt = q.halt })
  next-ready = record { long = h.long; few = h.few; waits = omega (arith, l); room = h.room; marked = h.marked }

  -- the line that the records of its block make
  pub advance-moved : (request old : List ℕ) (phase : Phase) (from to : ℕ) (source order₂ : List ℕ) (r : Queue)
      → to ≡ get_or starts (get_or order q.head 0 + 1) 0 → source ≡ take to set → from ≡ get_or starts (get_or order q.head 0) 0
      → Moved count order₂ r (queue_in (inputs_of set request starts old phase) Input.Set from (records (drop from source)) (line_at order (record { head = q.head + 1; tail = q.tail; halt = q.halt })))
      → Moved count order₂ r (advanced_at (inputs_of set request starts old phase) (line_at order q) (get_or order q.head 0))
  unfolding advanced_at start_of block_of inputs_of block_at line_at
  advance-moved request old phase from to source order₂ r et es ef mv =
      let cut : drop from source ≡ block_at set starts (get_or order q.head 0) =
      rw (es, ef, et) (drop-take (get_or starts (get_or order q.head 0) 0) (get_or starts (get_or order q.head 0 + 1) 0) set) in
      let one_more : q.head + 1 ≡ suc q.head = omega arith in
      record { line = mv.line ∙ rw (cut, ef, one_more); ready = mv.ready }

pub ruleset advance_laws = (head-index, head-fits, source-short, next-ready, advance-moved)

-- ---- the module at the head, its packages first

module _ (count : ℕ) (set starts order packages : List ℕ) (q : Queue) (h : Running count set starts order packages q) (l : q.head < q.tail) where
  pub turn-index : q.head < length order
  turn-index = head-index count set starts order q h.ready l

  pub turn-ready : Ready count order q
  turn-ready = h.ready

  pub turn-wide : length packages ≡ 1024
  turn-wide = h.wide

  pub turn-short : length set ≤ 65535
  turn-short = h.short

  pub turn-covers : Covers (asked set starts) Kind.Package packages (take q.head order)
  turn-covers = h.covers

  module _ (request old : List ℕ) (phase : Phase) (split : Halt) (es : split ≡ split_at (asked set starts) (take q.head order) (get_or order q.head 0))
      (packages₂ : List ℕ) (wide : length packages₂ ≡ length packages)
      (m : MarkedAll packages (names_of (asked set starts) Kind.Package (get_or order q.head 0)) packages₂) where
    abbrev at : ℕ
    at = get_or order q.head 0

    abbrev v : Inputs
    v = inputs_of set request starts old phase

    at_head : get_or (take q.tail order) q.head 0 ≡ at
    at_head = get_or-take q.tail order q.head 0 l

    same-split : split_at v (take q.head (take q.tail order)) at ≡ split
    same-split = rw (resolved-part count order q h.ready) (split-of ∙ sym es)
      where
        split-of : split_at v (take q.head order) at ≡ split_at (asked set starts) (take q.head order) at
        split-of = unfold inputs_of in split-asked v (take q.head order) at

    handled-is : handle_at v (line_at order q) ≡ handled_at v (line_at order q) at split
    unfolding handle_at line_at
    handled-is = rw (at_head, same-split)

    -- the module at the head is covered too
    next-covers : Covers (asked set starts) Kind.Package packages₂ (take (q.head + 1) order)
    unfolding names_of block_of
    next-covers = covers-next set starts Kind.Package packages packages₂ order (block_at set starts at) q.head at turn-index refl refl h.covers m

    -- and is in front after the turn
    next-front : (order₂ : List ℕ) (r : Queue) → Moved count order₂ r (advanced_at v (line_at order q) at) → take r.head order₂ ≡ take (q.head + 1) order
    unfolding advanced_at line_at
    next-front order₂ r mv =
        let one_more : q.head + 1 ≡ suc q.head = omega arith in
        let g : Longer (line_at order (record { head = suc q.head; tail = q.tail; halt = q.halt })) (line_at order₂ r) =
        subst (Longer (line_at order (record { head = suc q.head; tail = q.tail; halt = q.halt }))) (sym mv.line)
        (longer_records v Input.Set (start_of v at) (records (block_of v at)) (line_at order (record { head = suc q.head; tail = q.tail; halt = q.halt }))) in
        let ready : Ready count order (record { head = suc q.head; tail = q.tail; halt = q.halt }) = rw one_more at (next-ready count set starts order q h.ready l) in
        rw one_more
        (ap (λ (n : ℕ). take n order₂) g.head
        ∙ front_same count order order₂ (record { head = suc q.head; tail = q.tail; halt = q.halt }) r (suc q.head) ready mv.ready g.grown (omega (arith, l)))

    pub handle_open : (order₂ : List ℕ) (r : Queue) → split ≡ Halt.Open
        → Moved count order₂ r (advanced_at (inputs_of set request starts old phase) (line_at order q) (get_or order q.head 0))
        → Ran count set starts order₂ packages₂ r (handle_at (inputs_of set request starts old phase) (line_at order q))
    unfolding handled_at
    handle_open order₂ r e mv = record {
      line = mv.line ∙ sym (handled-is ∙ rw e);
      running = record { ready = mv.ready; short = h.short; wide = wide ∙ h.wide; covers = rw (next-front order₂ r mv) next-covers };
    }

    refused-ran : (e : ModuleError) → handled_at v (line_at order q) at split ≡ record { order = take q.tail order; head = q.head; halt = Halt.Refused e }
        → Ran count set starts order packages₂ (record { head = q.head; tail = q.tail; halt = Halt.Refused e }) (handle_at v (line_at order q))
    unfolding line_at
    refused-ran e k = record {
      line = sym (handled-is ∙ k);
      running = record {
        ready = record { long = h.ready.long; few = h.ready.few; waits = h.ready.waits; room = h.ready.room; marked = h.ready.marked };
        short = h.short;
        wide = wide ∙ h.wide;
        covers = record { each = λ i p n t. m.kept n (h.covers.each i p n t) };
      };
    }

    pub handle-stop : (e : ModuleError) → split ≡ Halt.Stop e
        → Ran count set starts order packages₂ (record { head = q.head; tail = q.tail; halt = Halt.Refused e }) (handle_at (inputs_of set request starts old phase) (line_at order q))
    unfolding handled_at line_at
    handle-stop e k = refused-ran e (rw k)

    pub handle-refused : (e : ModuleError) → split ≡ Halt.Refused e
        → Ran count set starts order packages₂ (record { head = q.head; tail = q.tail; halt = Halt.Refused e }) (handle_at (inputs_of set request starts old phase) (line_at order q))
    unfolding handled_at line_at
    handle-refused e k = refused-ran e (rw k)

pub ruleset handle_laws = (turn-index, turn-ready, turn-wide, turn-short, turn-covers, handle_open, handle-stop, handle-refused)

-- ---- the queue goes on

-- there is no refusal
module _ (q : Queue) (e : ModuleError) (h : q.halt ≡ Halt.Refused e) where
  pub on_refused : false ≡ (is_open q.halt && not (eqb q.head q.tail))
  unfolding is_open
  on_refused = sym (rw h)

pub on_open : (q : Queue) → q.halt ≡ Halt.Open → not (eqb q.head q.tail) ≡ (is_open q.halt && not (eqb q.head q.tail))
unfolding is_open
on_open q t = sym (rw t)

pub on_stop : (q : Queue) (e : ModuleError) → q.halt ≡ Halt.Stop e → not (eqb q.head q.tail) ≡ (is_open q.halt && not (eqb q.head q.tail))
unfolding is_open
on_stop q e t = sym (rw t)

pub ruleset on_laws = (on_refused, on_open, on_stop)

-- ---- nothing ends the queue

pub done_open : (q : Queue) → q.halt ≡ Halt.Open → true ≡ is_done q.halt
unfolding is_done
done_open q e = sym (rw e)

pub done-stop : (q : Queue) (x : ModuleError) → q.halt ≡ Halt.Stop x → false ≡ is_done q.halt
unfolding is_done
done-stop q x e = sym (rw e)

pub done_refused : (q : Queue) (x : ModuleError) → q.halt ≡ Halt.Refused x → false ≡ is_done q.halt
unfolding is_done
done_refused q x e = sym (rw e)

pub ruleset done_laws = (done_open, done-stop, done_refused)
