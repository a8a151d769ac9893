-- The names that the records of one kind queue, one record after the other, until something ends the queue.
use Prim.Native.Nat.{ℕ, suc, ◌+◌, ◌-◌, ◌≤◌, ◌<◌}
use mathlib.Core.Path.{◌≡◌, refl, sym, ◌∙◌, ap, subst}
use mathlib.Core.Bool.{Bool, true, false}
use mathlib.Core.List.{List, [], ◌∷◌}
use native.Mathlib.Omega.{arith}
use lib.Dec.{ltb}
use lib.ListN.{length, take, drop}
use lib.Seq.{drop-drop}
use borrow.Author.Tests.{ltb-true, ltb-false}
use Rattle.records.specs.Record.{body_of, records, record_more, whole, is_of, next_in, next_of, pick_next}
use Rattle.records.specs.declared.error.Input.{Input}
use Rattle.records.specs.declared.record.Cursor.{Cursor}
use Rattle.records.specs.declared.record.Kind.{Kind}
use Rattle.records.specs.Record.{Next}
use Rattle.records.proofs.Logic.{clash}
use Rattle.records.proofs.record.Laws.{Front, front_of, records-cons, records-none, records-end, records-ind, body-front, some_span}
use Rattle.records.proofs.record.Bodies.{next-less, body-room}
use Rattle.resolution.specs.Resolver.{Inputs, inputs_of, want_record, kind_for, Line, pick_line, line_at, queued, queued_on, queue_in, is_done, Ready, Moved}
use Rattle.resolution.specs.Known.{Tables}
use Rattle.resolution.specs.declared.resolver.Halt.{Halt}
use Rattle.resolution.specs.declared.resolver.Phase.{Phase}
use Rattle.resolution.specs.declared.resolver.Queue.{Queue}
use Rattle.resolution.specs.declared.resolver.Wanted.{Wanted}
use Rattle.std.specs.Prelude.{Some, None}
use Rattle.records.specs.declared.record.Span.{Span}

-- after a halt a name is not queued
queued-ended : (wanted : Wanted) (l : Line) → is_done l.halt ≡ false → queued wanted l ≡ l
unfolding queued queued_on is_done
queued-ended wanted l e = go l.halt e
  where
    go : (h : Halt) → is_done h ≡ false → queued_on h wanted l ≡ l
    go Halt.Open k = clash (cc)
    go (Halt.Stop x) k = refl
    go (Halt.Refused x) k = refl

module _ (w : Inputs) (i : Input) where
  abbrev K : Kind
  K = kind_for i

  of-kind : (off : ℕ) (r : List ℕ) (rs : List (List ℕ)) (l : Line) → is_of K r ≡ true
      → queue_in w i off (r ∷ rs) l ≡ queue_in w i (off + length r) rs (queued (want_record w i (body_of r) (off + 4)) l)
  unfolding queue_in
  of-kind off r rs l e = ap (λ (b : Bool). queue_in w i (off + length r) rs (pick_line b (queued (want_record w i (body_of r) (off + 4)) l) l)) e

  of_other : (off : ℕ) (r : List ℕ) (rs : List (List ℕ)) (l : Line) → is_of K r ≡ false → queue_in w i off (r ∷ rs) l ≡ queue_in w i (off + length r) rs l
  unfolding queue_in
  of_other off r rs l e = ap (λ (b : Bool). queue_in w i (off + length r) rs (pick_line b (queued (want_record w i (body_of r) (off + 4)) l) l)) e

  -- the line after the record found in t, whose first byte has the offset `off`, and then those behind it
  record Turns (t : List ℕ) : Type 0 where
    turns : (off start len : ℕ) (next : Cursor) (l : Line) → next_in K off (records t) ≡ Some (record { start = start; len = len; next = next })
        → (off + 4 ≤ start) × (next.at ≡ start + len)
        × (queue_in w i off (records t) l ≡ queue_in w i next.at (records (drop (next.at - off) t)) (queued (want_record w i (take len (drop (start - off) t)) start) l))

  turns_stop : (t : List ℕ) → whole t ≡ false → Turns t
  unfolding next_in
  turns_stop t e = record {
    turns = λ off start len next l h. let n : next_in K off (records t) ≡ None = rw (records-none t e) in clash (cc);
  }

  turns_more : (t : List ℕ) → whole t ≡ true → Turns (drop (suc (record_more t)) t) → Turns t
  unfolding next_in whole record_more body_of
  turns_more t e ih = record { turns = λ off start len next l h. go off start len next l (is_of K f) refl (sym (ap (next_in K off) (records-cons t e)) ∙ h) }
    where
      n : ℕ
      n = suc (record_more t)

      head : Front t
      head = front_of t e

      f : List ℕ
      f = take n t

      u : List ℕ
      u = drop n t

      go : (off start len : ℕ) (next : Cursor) (l : Line) (c : Bool) → is_of K f ≡ c
          → pick_next (is_of K f) (Some (record { start = off + 4; len = length (body_of f); next = record { at = off + length f } })) (next_in K (off + length f) (records u)) ≡ Some (record { start = start; len = len; next = next })
          → (off + 4 ≤ start) × (next.at ≡ start + len)
          × (queue_in w i off (records t) l ≡ queue_in w i next.at (records (drop (next.at - off) t)) (queued (want_record w i (take len (drop (start - off) t)) start) l))
      go off start len next l true ec h =
          let q : Some (record { start = off + 4; len = length (body_of f); next = record { at = off + length f } }) ≡ Some (record { start = start; len = len; next = next }) = rw ec at h in
          let es : off + 4 ≡ start = (some_span _ _ q).start in
          let el : length (body_of f) ≡ len = (some_span _ _ q).len in
          let en : record { at = off + length f } ≡ next = (some_span _ _ q).next in
          let ea : next.at ≡ off + length f = sym (ap (λ (c : Cursor). c.at) en) in
          let d : start - off ≡ 4 = omega arith in
          let g : next.at - off ≡ n = omega (arith, head.long) in
          (omega arith, omega (arith, ea, head.long, head.size), rw (records-cons t e, of-kind off f (records u) l ec, d, g, ← es, ← el, head.size, body-front t, ea))
      go off start len next l false ec h =
          let p = ih.turns (off + length f) start len next l (rw ec at h) in
          let d : n + (start - (off + n)) ≡ start - off = omega (arith, p.0, head.long) in
          let g : n + (next.at - (off + n)) ≡ next.at - off = omega (arith, p.0, p.1, head.long) in
          (omega (arith, p.0), p.1, rw (records-cons t e, of_other off f (records u) l ec) (p.2 ∙ rw (head.long, drop-drop (start - (off + n)) n t, drop-drop (next.at - (off + n)) n t, d, g)))

  turn : (t : List ℕ) → Turns t
  turn = records-ind Turns turns_stop turns_more

  none_in : (off : ℕ) (rs : List (List ℕ)) (l : Line) → next_in K off rs ≡ None → queue_in w i off rs l ≡ l
  unfolding next_in queue_in
  none_in off [] l e = refl
  none_in off (r ∷ rs) l e = go (is_of K r) refl (none_in (off + length r) rs)
    where
      go : (b : Bool) → is_of K r ≡ b → ((k : Line) → next_in K (off + length r) rs ≡ None → queue_in w i (off + length r) rs k ≡ k) → queue_in w i off (r ∷ rs) l ≡ l
      go true eb ih = clash (cc)
      go false eb ih = of_other off r rs l eb ∙ ih l (rw eb at e)

  -- nothing more is queued once something ended the queue
  ended : (off : ℕ) (rs : List (List ℕ)) (l : Line) → is_done l.halt ≡ false → queue_in w i off rs l ≡ l
  unfolding queue_in
  ended off [] l e = refl
  ended off (r ∷ rs) l e = ap (queue_in w i (off + length r) rs) (go (is_of K r)) ∙ ended (off + length r) rs l e
    where
      go : (b : Bool) → pick_line b (queued (want_record w i (body_of r) (off + 4)) l) l ≡ l
      go true = queued-ended (want_record w i (body_of r) (off + 4)) l e
      go false = refl

module _ (set request starts old : List ℕ) (phase : Phase) (index names needed : List ℕ) (i : Input) where
  abbrev w : Inputs
  w = inputs_of set request starts old phase

  -- the records of source from `from` to `at` are done
  pub record RecordsAt (k : Kind) (source : List ℕ) (from at : ℕ) (start : Line) (order : List ℕ) (q : Queue) : Type 0 where
    pub tables : Tables set request starts old phase index names needed
    pub kind_is : k ≡ kind_for i
    pub short : length source ≤ 65535
    pub ready : Ready phase.count order q
    pub left : queue_in w i from (records (drop from source)) start ≡ queue_in w i at (records (drop at source)) (line_at order q)

  pub records_start : (k : Kind) (source : List ℕ) (from : ℕ) (order : List ℕ) (q : Queue) → Tables set request starts old phase index names needed → k ≡ kind_for i → length source ≤ 65535
      → Ready phase.count order q → RecordsAt k source from from (line_at order q) order q
  records_start k source from order q o e b h = record { tables = o; kind_is = e; short = b; ready = h; left = refl }

  module _ (k : Kind) (source : List ℕ) (from at : ℕ) (start : Line) (order : List ℕ) (q : Queue) (h : RecordsAt k source from at start order q) where
    pub records_ended : (d : Bool) → d ≡ is_done q.halt → d ≡ false → Moved phase.count order q (queue_in w i from (records (drop from source)) start)
    unfolding line_at
    records_ended d ed e = record { line = sym (h.left ∙ ended w i at (records (drop at source)) (line_at order q) (sym ed ∙ e)); ready = h.ready }

    pub records_tables : Tables set request starts old phase index names needed
    records_tables = h.tables

    pub records_ready : Ready phase.count order q
    records_ready = h.ready

    module _ (r : Next) (er : r ≡ next_of k source at) where
      module _ (span : Span) (e : r ≡ Some span) where
        here : next_of (kind_for i) source at ≡ Some span
        here = sym (ap (λ (z : Kind). next_of z source at) h.kind_is) ∙ sym er ∙ e

        inside : at ≤ length source
        unfolding next_of next_in
        inside = go (ltb at (length source)) refl
          where
            go : (b : Bool) → ltb at (length source) ≡ b → at ≤ length source
            go true t = omega (arith, ltb-true at (length source) t)
            go false t =
                let z : next_of (kind_for i) source at ≡ None = rw (records-end source at (ltb-false at (length source) t)) in
                clash (cc)

        pub records_fits : span.start ≤ 65535
        records_fits = omega (arith, h.short, body-room k source at r er span.start span.len span.next e inside)

        pub records_less : length source - span.next.at < length source - at
        records_less = next-less k source at r er span.start span.len span.next e inside

        pub records_turn : (b : List ℕ) (wanted : Wanted) (o : List ℕ) (q₂ : Queue) → b ≡ take span.len (drop span.start source) → wanted ≡ want_record w i b span.start
            → Moved phase.count o q₂ (queued wanted (line_at order q)) → RecordsAt k source from span.next.at start o q₂
        unfolding next_of
        records_turn b wanted o q₂ eb ew m =
            let z = (turn w i (drop at source)).turns at span.start span.len span.next (line_at order q) here in
            let d : at + (span.start - at) ≡ span.start = omega (arith, z.0) in
            let g : at + (span.next.at - at) ≡ span.next.at = omega (arith, z.0, z.1) in
            record {
              tables = h.tables;
              kind_is = h.kind_is;
              short = h.short;
              ready = m.ready;
              left = h.left ∙ z.2 ∙ rw (drop-drop (span.start - at) at source, drop-drop (span.next.at - at) at source, d, g, m.line, ew, eb);
            }

        pub records_more : (b : List ℕ) (wanted : Wanted) (o : List ℕ) (q₂ : Queue) (count : ℕ) → b ≡ take span.len (drop span.start source) → wanted ≡ want_record w i b span.start
            → line_at o q₂ ≡ queued wanted (line_at order q) → Ready count o q₂ → count ≡ phase.count → RecordsAt k source from span.next.at start o q₂
        records_more b wanted o q₂ count eb ew l y ec = records_turn b wanted o q₂ eb ew (record { line = l; ready = subst (λ (n : ℕ). Ready n o q₂) ec y })

      pub records_done : r ≡ None → Moved phase.count order q (queue_in w i from (records (drop from source)) start)
      unfolding next_of
      records_done e = record {
        line = sym (h.left ∙ none_in w i at (records (drop at source)) (line_at order q) (sym (ap (λ (z : Kind). next_of z source at) h.kind_is) ∙ sym er ∙ e));
        ready = h.ready;
      }

pub ruleset records_laws = (records_start, records_ended, records_tables, records_ready, records_fits, records_less, records_turn, records_done)
