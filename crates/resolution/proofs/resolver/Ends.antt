-- A position comes to the end of the array, which has room for it.
use Prim.Native.Nat.{ℕ, suc, ◌+◌, ◌<◌}
use mathlib.Core.Path.{◌≡◌, refl, sym, ◌∙◌, ap}
use mathlib.Core.Bool.{Bool, true, false, not, ◌||◌, or-false, or-true, or_assoc}
use mathlib.Core.List.{List, [], ◌∷◌, ◌++◌}
use native.Mathlib.Omega.{arith}
use lib.Dec.{eqb}
use lib.ListN.{length, get_or, take, set, length-set}
use lib.Seq.{take-suc-set, take-set-le, get_or-set_same, get_or-set_other}
use borrow.Author.Tests.{eq-eqb, eqb-true, eqb-false}
use Rattle.records.specs.declared.error.ModuleError.{ModuleError}
use Rattle.records.proofs.Logic.{clash, or_right}
use Rattle.resolution.specs.Lists.{any}
use Rattle.resolution.specs.Row.{one, count_below}
use Rattle.resolution.specs.Resolver.{line_at, is_one_of, queued_at, queued_on, queued, is_done, Ready, Within, Moved}
use Rattle.resolution.specs.declared.resolver.Halt.{Halt}
use Rattle.resolution.specs.declared.resolver.Queue.{Queue}
use Rattle.resolution.specs.declared.resolver.Wanted.{Wanted}
use Rattle.resolution.specs.declared.resolver.Wanted.TheVariants.{Pass, Add, Stop, Refuse}
use Rattle.resolution.proofs.row.Counts.{count-strict}

-- ---- one position more

pub one-of-end : (k i : ℕ) (ps : List ℕ) → is_one_of k (ps ++ (i ∷ [])) ≡ (is_one_of k ps || eqb k i)
unfolding is_one_of any
one-of-end k i [] = or-false (eqb k i)
one-of-end k i (p ∷ ps) = rw (one-of-end k i ps) (sym (or_assoc (eqb k p) (any (eqb k) ps) (eqb k i)))

left_out : (a b : Bool) → not (a || b) ≡ true → not a ≡ true
left_out true b e = e
left_out false b e = refl

-- those that may come are fewer by one
module _ (count i : ℕ) (ps : List ℕ) (l : i < count) (new : is_one_of i ps ≡ false) where
  pub fewer : count_below (λ k. not (is_one_of k (ps ++ (i ∷ [])))) count < count_below (λ k. not (is_one_of k ps)) count
  fewer =
      count-strict (λ k. not (is_one_of k (ps ++ (i ∷ [])))) (λ k. not (is_one_of k ps)) count i l
      (λ k b h. left_out (is_one_of k ps) (eqb k i) (rw (one-of-end k i ps) at h))
      (rw (one-of-end i i ps, eq-eqb i i refl, or-true (is_one_of i ps)))
      (rw new)

-- ---- the marks

one-is : (n : ℕ) (b : Bool) → n ≡ one b → eqb n 1 ≡ b
unfolding one
one-is n true e = rw e
one-is n false e = rw e

module _ (count : ℕ) (order : List ℕ) (q : Queue) (h : Ready count order q) (i : ℕ) (l : i < count) where
  pub queued-index : 512 + i < length order
  queued-index = omega (arith, h.long, h.few, l)

  pub queued-is : eqb (get_or order (512 + i) 0) 1 ≡ is_one_of i (take q.tail order)
  queued-is = one-is (get_or order (512 + i) 0) (is_one_of i (take q.tail order)) (h.marked i (omega (arith, h.few, l)))

pub ruleset queued_laws = (queued-index, queued-is)

module _ (count : ℕ) (order : List ℕ) (q : Queue) (h : Ready count order q) (i : ℕ) (l : i < count) (r : Bool) (er : r ≡ is_one_of i (take q.tail order)) where
  pub push-there : r ≡ true → Moved count order q (queued_at i (line_at order q))
  unfolding queued_at line_at
  push-there t = record { line = sym (rw (← er, t)); ready = h }

  module _ (t : r ≡ false) where
    pub push-room : q.tail < 512
    push-room = omega (arith, h.few, h.room, fewer count i (take q.tail order) l (sym er ∙ t))

    pub push-index : q.tail < length order
    push-index = omega (arith, h.long, push-room)

    pub push-mark : 512 + i < length (set order q.tail i)
    push-mark = rw (length-set order q.tail i) (queued-index count order q h i l)

    ends : take (suc q.tail) (set (set order q.tail i) (512 + i) 1) ≡ take q.tail order ++ (i ∷ [])
    ends = take-set-le (suc q.tail) (set order q.tail i) (512 + i) 1 (omega (arith, push-room)) ∙ take-suc-set order q.tail i push-index

    marks : (j : ℕ) → j < 512 → get_or (set (set order q.tail i) (512 + i) 1) (512 + j) 0 ≡ one (is_one_of j (take q.tail order ++ (i ∷ [])))
    unfolding one
    marks j b = rw (one-of-end j i (take q.tail order)) (go (eqb j i) refl)
      where
        go : (c : Bool) → eqb j i ≡ c → get_or (set (set order q.tail i) (512 + i) 1) (512 + j) 0 ≡ one (is_one_of j (take q.tail order) || c)
        go true k =
            rw (eqb-true j i k)
            (get_or-set_same (set order q.tail i) (512 + i) 1 0 push-mark ∙ sym (ap one (or_right (is_one_of i (take q.tail order)) true refl)))
        go false k =
            let n : j ≡ i → ⊥ = eqb-false j i k in
            get_or-set_other (set order q.tail i) (512 + i) (512 + j) 1 0 (omega (arith, n))
            ∙ (get_or-set_other order q.tail (512 + j) i 0 (omega (arith, push-room)) ∙ (h.marked j b ∙ sym (ap one (or-false (is_one_of j (take q.tail order))))))

    pub push-moved : (o : List ℕ) → o ≡ set (set order q.tail i) (512 + i) 1
        → Moved count o (record { head = q.head; tail = q.tail + 1; halt = q.halt }) (queued_at i (line_at order q))
    unfolding queued_at line_at
    push-moved o e = record {
      line = rw (add-one q.tail, e, ends, ← er, t);
      ready = record {
        long = rw (e, length-set (set order q.tail i) (512 + i) 1, length-set order q.tail i) h.long;
        few = h.few;
        waits = omega (arith, h.waits);
        room = rw (add-one q.tail, e, ends) (omega (arith, h.room, fewer count i (take q.tail order) l (sym er ∙ t)));
        marked = rw (add-one q.tail, e, ends) marks;
      };
    }
      where
        add-one : (n : ℕ) → n + 1 ≡ suc n
        add-one n = omega arith

    pub push-ready : Ready count (set (set order q.tail i) (512 + i) 1) (record { head = q.head; tail = q.tail + 1; halt = q.halt })
    push-ready = (push-moved (set (set order q.tail i) (512 + i) 1) refl).ready

pub ruleset push_laws = (push-ready, push-there, push-room, push-index, push-mark, push-moved)

-- ---- what is wanted

module _ (count : ℕ) (order : List ℕ) (q : Queue) (h : Ready count order q) (wanted : Wanted) (d : Bool) (ed : d ≡ is_done q.halt) where
  pub enqueue-ended : d ≡ false → Moved count order q (queued wanted (line_at order q))
  unfolding queued queued_on is_done line_at
  enqueue-ended t = record { line = sym (go q.halt (sym ed ∙ t)); ready = h }
    where
      go : (halt : Halt) → is_done halt ≡ false → queued_on halt wanted (record { order = take q.tail order; head = q.head; halt = q.halt }) ≡ record { order = take q.tail order; head = q.head; halt = q.halt }
      go Halt.Open k = clash (cc)
      go (Halt.Stop x) k = refl
      go (Halt.Refused x) k = refl

  module _ (t : d ≡ true) where
    open_is : q.halt ≡ Halt.Open
    unfolding is_done
    open_is = go q.halt (sym ed ∙ t)
      where
        go : (halt : Halt) → is_done halt ≡ true → halt ≡ Halt.Open
        go Halt.Open k = refl
        go (Halt.Stop x) k = clash (cc)
        go (Halt.Refused x) k = clash (cc)

    pub enqueue-pass : wanted ≡ Pass → Moved count order q (queued wanted (line_at order q))
    unfolding queued queued_on line_at
    enqueue-pass e = record { line = sym (rw (open_is, e)); ready = h }

    pub enqueue-within : (i : ℕ) → wanted ≡ Add i → Within count wanted → i < count
    unfolding Within
    enqueue-within i e b = rw e at b

    pub enqueue-add : (i : ℕ) (o : List ℕ) (r : Queue) → wanted ≡ Add i → Moved count o r (queued_at i (line_at order q)) → Moved count o r (queued wanted (line_at order q))
    unfolding queued queued_on line_at
    enqueue-add i o r e m = record { line = m.line ∙ sym (rw (open_is, e)); ready = m.ready }

    same-ready : (halt : Halt) → Ready count order (record { head = q.head; tail = q.tail; halt = halt })
    same-ready halt = record { long = h.long; few = h.few; waits = h.waits; room = h.room; marked = h.marked }

    pub enqueue-stop : (e : ModuleError) → wanted ≡ Stop e → Moved count order (record { head = q.head; tail = q.tail; halt = Halt.Stop e }) (queued wanted (line_at order q))
    unfolding queued queued_on line_at
    enqueue-stop e k = record { line = sym (rw (open_is, k)); ready = same-ready (Halt.Stop e) }

    pub enqueue-refuse : (e : ModuleError) → wanted ≡ Refuse e → Moved count order (record { head = q.head; tail = q.tail; halt = Halt.Refused e }) (queued wanted (line_at order q))
    unfolding queued queued_on line_at
    enqueue-refuse e k = record { line = sym (rw (open_is, k)); ready = same-ready (Halt.Refused e) }

pub ruleset enqueue_laws = (enqueue-ended, enqueue-pass, enqueue-within, enqueue-add, enqueue-stop, enqueue-refuse)
