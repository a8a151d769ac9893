-- The records of one kind, one after the other: what a cursor finds of them, and record number i.
use Prim.Native.Nat.{ℕ, zero, suc, ◌+◌, ◌-◌, ◌≤◌, ◌<◌}
use mathlib.Core.Path.{◌≡◌, refl, sym, ◌∙◌, ap}
use mathlib.Core.List.{List, [], ◌∷◌, map}
use mathlib.Core.Bool.{Bool, true, false, cond}
use native.Mathlib.Omega.{arith}
use native.Mathlib.Numerals.{sub-one}
use lib.ListN.{length, get_or, take, drop, length-drop, get_or-map}
use lib.Seq.{length-take-le, drop-drop}
use borrow.Author.Tests.{eq-eqb, ne_eqb}
use Rattle.records.specs.Name.{name_of}
use Rattle.records.specs.Record.{mark_of, body_of, records, record_more, size_of, whole, step_at, mark_for, is_of, bodies_in, bodies, next_in, next_of, nth_in, nth_of, pick_next, begins, first_in}
use Rattle.records.specs.declared.record.Cursor.{Cursor}
use Rattle.records.specs.declared.record.Span.{Span}
use Rattle.records.specs.declared.record.Step.{Step}
use Rattle.records.specs.declared.record.Step.TheVariants.{Record, Bad, End}
use Rattle.records.specs.Record.{Next}
use Rattle.records.specs.declared.record.Kind.{Kind}
use Rattle.records.proofs.Logic.{clash}
use Rattle.records.proofs.record.Laws.{Stepped, stepped, stepped-bad, stepped-end, Front, front, front_of, records-next, front-mark, front-body, front_length, records-cons, records-none, records-end, records-ind, body-front, step_less, some_span}
use Rattle.std.specs.Prelude.{Some, None}

-- ---- the next record of a kind

cursor-at : (c : Cursor) (n : ℕ) → c.at ≡ n → c ≡ record { at = n }
cursor-at c n e = ap (λ (m : ℕ). record { at = m }) e

-- no record from `from` to `at` has the wanted mark
pub record NextAt (wanted : ℕ) (s : List ℕ) (from at : ℕ) : Type 0 where
  pub left : (k : Kind) → wanted ≡ mark_for k → next_of k s from ≡ next_of k s at

pub next_start : (wanted : ℕ) (s : List ℕ) (from : ℕ) → NextAt wanted s from from
next_start wanted s from = record { left = λ k e. refl }

module _ (wanted : ℕ) (s : List ℕ) (from at : ℕ) (h : NextAt wanted s from at) (step : Step) (es : step ≡ step_at s at) where
  module _ (mark start len : ℕ) (next : Cursor) (er : step ≡ Record mark start len next) where
    p : Stepped s at mark start len next
    p = stepped s at step es mark start len next er

    abbrev f : List ℕ
    f = front s at mark start len next p

    is-of : (k : Kind) → mark ≡ mark_for k → is_of k f ≡ true
    unfolding is_of
    is-of k e = eq-eqb (mark_of f) (mark_for k) (front-mark s at mark start len next p ∙ e)

    not-of : (k : Kind) → (mark ≡ mark_for k → ⊥) → is_of k f ≡ false
    unfolding is_of
    not-of k e = ne_eqb (mark_of f) (mark_for k) (λ h. e (sym (front-mark s at mark start len next p) ∙ h))

    long : length (body_of f) ≡ len
    long = rw (front-body s at mark start len next p) (length-take-le len (drop start s) (rw length-drop (omega (arith, p.room, p.start_is))))

    pub next-found : (k : Kind) → wanted ≡ mark_for k → mark ≡ wanted → Some (record { start = start; len = len; next = next }) ≡ next_of k s from
    unfolding next_of next_in
    next-found k ew e =
        let n : next ≡ record { at = at + length f } = cursor-at next (at + length f) (sym (front_length s at mark start len next p)) in
        sym (h.left k ew ∙ rw (records-next s at mark start len next p, is-of k (e ∙ ew), long, ← n, p.start_is))

    pub next-pass : (mark ≡ wanted → ⊥) → NextAt wanted s from next.at
    unfolding next_of next_in
    next-pass e = record {
      left = λ k ew. h.left k ew ∙ rw (records-next s at mark start len next p, not-of k (λ q. e (q ∙ sym ew)), front_length s at mark start len next p);
    }

  pub next-bad : (k : Kind) → wanted ≡ mark_for k → step ≡ Bad → None ≡ next_of k s from
  unfolding next_of next_in
  next-bad k ew e = sym (h.left k ew ∙ rw (records-none (drop at s) (stepped-bad s at step es e)))

  pub next-end : (k : Kind) → wanted ≡ mark_for k → step ≡ End → None ≡ next_of k s from
  unfolding next_of next_in
  next-end k ew e = sym (h.left k ew ∙ rw (records-end s at (stepped-end s at step es e)))

pub ruleset next_laws = (next_start, next-found, next-pass, next-bad, next-end, step_less)

-- ---- a row of records of one kind, one after the other

-- what the search finds in t, whose first byte has the offset `off`
record Found (k : Kind) (off : ℕ) (t : List ℕ) (start len : ℕ) (next : Cursor) : Type 0 where
  later : off + 4 ≤ start
  next_is : next.at ≡ start + len
  room : start + len ≤ off + length t
  bodies_are : bodies k t ≡ take len (drop (start - off) t) ∷ bodies k (drop (next.at - off) t)
  nth_here : nth_in k 0 off (records t) ≡ Some (record { start = start; len = len; next = next })
  nth_later : (i : ℕ) → nth_in k (suc i) off (records t) ≡ nth_in k i next.at (records (drop (next.at - off) t))
  first-is : (ns : List (List ℕ)) → first_in k ns off (records t)
      ≡ pick_next (begins ns (take len (drop (start - off) t))) (Some (record { start = start; len = len; next = next })) (first_in k ns next.at (records (drop (next.at - off) t)))

record Finds (k : Kind) (t : List ℕ) : Type 0 where
  finds : (off start len : ℕ) (next : Cursor) → next_in k off (records t) ≡ Some (record { start = start; len = len; next = next }) → Found k off t start len next

finds-stop : (k : Kind) (t : List ℕ) → whole t ≡ false → Finds k t
unfolding next_in
finds-stop k t e = record {
  finds = λ off start len next h. let n : next_in k off (records t) ≡ None = rw (records-none t e) in clash (cc);
}

finds-more : (k : Kind) (t : List ℕ) → whole t ≡ true → Finds k (drop (suc (record_more t)) t) → Finds k t
unfolding next_in nth_in bodies bodies_in whole record_more body_of first_in
finds-more k t e ih = record { finds = λ off start len next h. go off start len next (is_of k f) refl (sym (ap (next_in k off) (records-cons t e)) ∙ h) }
  where
    n : ℕ
    n = suc (record_more t)

    head : Front t
    head = front_of t e

    f : List ℕ
    f = take n t

    u : List ℕ
    u = drop n t

    here : (off start len : ℕ) (next : Cursor) → is_of k f ≡ true → start ≡ off + 4 → len ≡ length (body_of f) → next.at ≡ off + length f → Found k off t start len next
    here off start len next eb es el en =
        let d : start - off ≡ 4 = omega arith in
        let g : next.at - off ≡ n = omega (arith, head.long) in
        let c : next ≡ record { at = off + length f } = cursor-at next (off + length f) en in
        record {
          later = omega arith;
          next_is = omega (arith, head.long, head.size, es, el, en);
          room = omega (arith, head.inside, head.size);
          bodies_are = rw (records-cons t e, eb, d, g, el, head.size, body-front t);
          nth_here = rw (records-cons t e, eb, es, el, ← c);
          nth_later = λ i. rw (records-cons t e, eb, g, en);
          first-is = λ ns. rw (records-cons t e, eb, d, g, es, el, head.size, body-front t, en, ← c);
        }

    there : (off start len : ℕ) (next : Cursor) → is_of k f ≡ false → Found k (off + length f) u start len next → Found k off t start len next
    there off start len next eb p =
        let d : n + (start - (off + n)) ≡ start - off = omega (arith, p.later, head.long) in
        let g : n + (next.at - (off + n)) ≡ next.at - off = omega (arith, p.later, p.next_is, head.long) in
        record {
          later = omega (arith, p.later);
          next_is = p.next_is;
          room = omega (arith, p.room, head.long, length-drop n t);
          bodies_are = rw (records-cons t e, eb) (p.bodies_are ∙ rw (head.long, drop-drop (start - (off + n)) n t, drop-drop (next.at - (off + n)) n t, d, g));
          nth_here = rw (records-cons t e, eb) p.nth_here;
          nth_later = λ i. rw (records-cons t e, eb) (p.nth_later i ∙ rw (head.long, drop-drop (next.at - (off + n)) n t, g));
          first-is = λ ns. rw (records-cons t e, eb) (p.first-is ns ∙ rw (head.long, drop-drop (start - (off + n)) n t, drop-drop (next.at - (off + n)) n t, d, g));
        }

    go : (off start len : ℕ) (next : Cursor) (b : Bool) → is_of k f ≡ b
        → pick_next (is_of k f) (Some (record { start = off + 4; len = length (body_of f); next = record { at = off + length f } })) (next_in k (off + length f) (records u)) ≡ Some (record { start = start; len = len; next = next })
        → Found k off t start len next
    go off start len next true eb h =
        let q : Some (record { start = off + 4; len = length (body_of f); next = record { at = off + length f } }) ≡ Some (record { start = start; len = len; next = next }) = rw eb at h in
        let es : off + 4 ≡ start = (some_span _ _ q).start in
        let el : length (body_of f) ≡ len = (some_span _ _ q).len in
        let en : record { at = off + length f } ≡ next = (some_span _ _ q).next in
        here off start len next eb (sym es) (sym el) (sym (ap (λ (c : Cursor). c.at) en))
    go off start len next false eb h = there off start len next eb (ih.finds (off + length f) start len next (rw eb at h))

found : (k : Kind) (t : List ℕ) → Finds k t
found k = records-ind (Finds k) (finds-stop k) (finds-more k)

no-bodies : (k : Kind) (off : ℕ) (rs : List (List ℕ)) → next_in k off rs ≡ None → bodies_in k rs ≡ []
unfolding next_in bodies_in
no-bodies k off [] e = refl
no-bodies k off (r ∷ rs) e = go (is_of k r) refl (no-bodies k (off + length r) rs)
  where
    go : (b : Bool) → is_of k r ≡ b → (next_in k (off + length r) rs ≡ None → bodies_in k rs ≡ []) → cond (is_of k r) (body_of r ∷ bodies_in k rs) (bodies_in k rs) ≡ []
    go true eb ih = clash (cc)
    go false eb ih = rw eb (ih (rw eb at e))

no-first : (k : Kind) (ns : List (List ℕ)) (off : ℕ) (rs : List (List ℕ)) → next_in k off rs ≡ None → first_in k ns off rs ≡ None
unfolding next_in first_in
no-first k ns off [] e = refl
no-first k ns off (r ∷ rs) e = go (is_of k r) refl (no-first k ns (off + length r) rs)
  where
    go : (b : Bool) → is_of k r ≡ b → (next_in k (off + length r) rs ≡ None → first_in k ns (off + length r) rs ≡ None) → first_in k ns off (r ∷ rs) ≡ None
    go true eb ih = clash (cc)
    go false eb ih = rw eb (ih (rw eb at e))

no-nth : (k : Kind) (i off : ℕ) (rs : List (List ℕ)) → next_in k off rs ≡ None → nth_in k i off rs ≡ None
unfolding next_in nth_in
no-nth k i off [] e = refl
no-nth k zero off (r ∷ rs) e = go (is_of k r) refl (no-nth k zero (off + length r) rs)
  where
    go : (b : Bool) → is_of k r ≡ b → (next_in k (off + length r) rs ≡ None → nth_in k zero (off + length r) rs ≡ None) → nth_in k zero off (r ∷ rs) ≡ None
    go true eb ih = clash (cc)
    go false eb ih = rw eb (ih (rw eb at e))
no-nth k (suc i) off (r ∷ rs) e = go (is_of k r) refl (no-nth k (suc i) (off + length r) rs)
  where
    go : (b : Bool) → is_of k r ≡ b → (next_in k (off + length r) rs ≡ None → nth_in k (suc i) (off + length r) rs ≡ None) → nth_in k (suc i) off (r ∷ rs) ≡ None
    go true eb ih = clash (cc)
    go false eb ih = rw eb (ih (rw eb at e))

-- what a loop over the records of one kind knows of each turn
module _ (k : Kind) (s : List ℕ) (at : ℕ) (r : Next) (er : r ≡ next_of k s at) where
  module _ (start len : ℕ) (next : Cursor) (e : r ≡ Some (record { start = start; len = len; next = next })) where
    q : Found k at (drop at s) start len next
    unfolding next_of
    q = (found k (drop at s)).finds at start len next (sym er ∙ e)

    -- the record found, then those behind it
    pub bodies-next : at ≤ length s → bodies k (drop at s) ≡ take len (drop start s) ∷ bodies k (drop next.at s)
    bodies-next l =
        let d : at + (start - at) ≡ start = omega (arith, q.later) in
        let g : at + (next.at - at) ≡ next.at = omega (arith, q.later, q.next_is) in
        q.bodies_are ∙ rw (drop-drop (start - at) at s, drop-drop (next.at - at) at s, d, g)

    -- it is the first that begins with these names, or the first is behind it
    pub first_next : (ns : List (List ℕ)) → at ≤ length s → first_in k ns at (records (drop at s))
        ≡ pick_next (begins ns (take len (drop start s))) (Some (record { start = start; len = len; next = next })) (first_in k ns next.at (records (drop next.at s)))
    first_next ns l =
        let d : at + (start - at) ≡ start = omega (arith, q.later) in
        let g : at + (next.at - at) ≡ next.at = omega (arith, q.later, q.next_is) in
        q.first-is ns ∙ rw (drop-drop (start - at) at s, drop-drop (next.at - at) at s, d, g)

    -- it is record 0 from here on, and those behind it count from there
    pub nth-zero : nth_in k 0 at (records (drop at s)) ≡ Some (record { start = start; len = len; next = next })
    nth-zero = q.nth_here

    pub nth_suc : (i : ℕ) → nth_in k (suc i) at (records (drop at s)) ≡ nth_in k i next.at (records (drop next.at s))
    nth_suc i = let g : at + (next.at - at) ≡ next.at = omega (arith, q.later, q.next_is) in q.nth_later i ∙ rw (drop-drop (next.at - at) at s, g)

    pub next-room : at ≤ length s → next.at ≤ length s
    next-room l = omega (arith, q.next_is, q.room, length-drop at s)

    -- a record takes four bytes at least
    pub next-later : at + 4 ≤ next.at
    next-later = omega (arith, q.later, q.next_is)

    -- and it is found where something is left
    pub next-within : at ≤ length s
    next-within = omega (arith, q.later, q.room, length-drop at s)

    pub body-room : at ≤ length s → start + len ≤ length s
    body-room l = omega (arith, q.room, length-drop at s)

    pub next-less : at ≤ length s → length s - next.at < length s - at
    next-less l = omega (arith, q.later, q.next_is, q.room, length-drop at s)

  -- no record of the kind is left
  pub bodies-end : r ≡ None → bodies k (drop at s) ≡ []
  unfolding next_of bodies
  bodies-end e = no-bodies k at (records (drop at s)) (sym er ∙ e)

  pub nth_end : (i : ℕ) → r ≡ None → nth_in k i at (records (drop at s)) ≡ None
  unfolding next_of
  nth_end i e = no-nth k i at (records (drop at s)) (sym er ∙ e)

  pub first-end : (ns : List (List ℕ)) → r ≡ None → first_in k ns at (records (drop at s)) ≡ None
  unfolding next_of
  first-end ns e = no-first k ns at (records (drop at s)) (sym er ∙ e)

-- ---- record number i of a kind

pub take-front : (n : ℕ) (l : List ℕ) → take (length (take n l)) l ≡ take n l
take-front zero l = refl
take-front (suc n) [] = refl
take-front (suc n) (x ∷ l) = ap {B = List ℕ} (λ r. x ∷ r) (take-front n l)

pred-suc : (n : ℕ) → (n ≡ 0 → ⊥) → n ≡ suc (n - 1)
pred-suc zero z = absurd (z refl)
pred-suc (suc n) z = rw (sub-one (suc n))

-- `passed` records of the kind stand before `at`, and record k is that many fewer on from there
pub record NthAt (kind : Kind) (s : List ℕ) (k at passed : ℕ) : Type 0 where
  pub within : at ≤ length s
  pub rest : (left : ℕ) → k ≡ passed + left → nth_of kind k s ≡ nth_in kind left at (records (drop at s))

pub nth_start : (kind : Kind) (s : List ℕ) (k : ℕ) → NthAt kind s k 0 0
unfolding nth_of
nth_start kind s k = record { within = omega arith; rest = λ left e. ap (λ (m : ℕ). nth_in kind m 0 (records s)) (let q : k ≡ left = omega arith in q) }

module _ (kind : Kind) (s : List ℕ) (k at passed : ℕ) (h : NthAt kind s k at passed) (r : Next) (er : r ≡ next_of kind s at) where
  pub nth_more : (b : Span) → r ≡ Some b → NthAt kind s k b.next.at (passed + 1)
  nth_more b e = record {
    within = next-room kind s at r er b.start b.len b.next e h.within;
    rest = λ left ek. h.rest (suc left) (omega arith) ∙ nth_suc kind s at r er b.start b.len b.next e left;
  }

  pub nth_none : r ≡ None → passed < k → (x : Next) → x ≡ None → x ≡ nth_of kind k s
  nth_none e l x ex = ex ∙ sym (h.rest (k - passed) (omega arith) ∙ nth_end kind s at r er (k - passed) e)

  nth-first : (x : Next) → r ≡ x → r ≡ nth_in kind 0 at (records (drop at s))
  nth-first (Some b) e = e ∙ sym (nth-zero kind s at r er b.start b.len b.next e)
  nth-first None e = e ∙ sym (nth_end kind s at r er 0 e)

  pub nth_found : passed ≤ k → k ≤ passed → r ≡ nth_of kind k s
  nth_found l m = nth-first r refl ∙ sym (h.rest 0 (omega arith))

pub ruleset nth_laws = (nth_start, nth_more, nth_none, nth_found)

-- where record i stands in t, whose first byte has the offset `off`, its body stands
record Stands (k : Kind) (i off : ℕ) (t : List ℕ) (start len : ℕ) : Type 0 where
  later : off + 4 ≤ start
  body_is : get_or (bodies k t) i [] ≡ take len (drop (start - off) t)

record Numbered (k : Kind) (t : List ℕ) : Type 0 where
  stands : (i off start len : ℕ) (next : Cursor) → nth_in k i off (records t) ≡ Some (record { start = start; len = len; next = next }) → Stands k i off t start len
  none : (i off : ℕ) → nth_in k i off (records t) ≡ None → get_or (bodies k t) i [] ≡ []

numbered-stop : (k : Kind) (t : List ℕ) → whole t ≡ false → Numbered k t
unfolding nth_in bodies bodies_in
numbered-stop k t e = record {
  stands = λ i off start len next h. let n : nth_in k i off (records t) ≡ None = rw (records-none t e) in clash (cc);
  none = λ i off h. rw (records-none t e);
}

numbered_more : (k : Kind) (t : List ℕ) → whole t ≡ true → Numbered k (drop (suc (record_more t)) t) → Numbered k t
unfolding nth_in bodies bodies_in whole
numbered_more k t e ih = record {
  stands = λ i off start len next h. rw-stands i off start len (go i off start len next (is_of k f) refl (sym (ap (nth_in k i off) (records-cons t e)) ∙ h));
  none = λ i off h. rw (records-cons t e) (lacks i off (is_of k f) refl (sym (ap (nth_in k i off) (records-cons t e)) ∙ h));
}
  where
    n : ℕ
    n = suc (record_more t)

    head : Front t
    head = front_of t e

    f : List ℕ
    f = take n t

    u : List ℕ
    u = drop n t

    At : ℕ → ℕ → ℕ → ℕ → Type 0
    At i off start len = (off + 4 ≤ start) × (get_or (cond (is_of k f) (body_of f ∷ bodies_in k (records u)) (bodies_in k (records u))) i [] ≡ take len (drop (start - off) t))

    rw-stands : (i off start len : ℕ) → At i off start len → Stands k i off t start len
    rw-stands i off start len p = record { later = p.0; body_is = rw (records-cons t e) p.1 }

    deeper : (j off start len : ℕ) → Stands k j (off + length f) u start len → (off + 4 ≤ start) × (get_or (bodies_in k (records u)) j [] ≡ take len (drop (start - off) t))
    deeper j off start len p =
        let d : n + (start - (off + n)) ≡ start - off = omega (arith, p.later, head.long) in
        (omega (arith, p.later), p.body_is ∙ rw (head.long, drop-drop (start - (off + n)) n t, d))

    go : (i off start len : ℕ) (next : Cursor) (b : Bool) → is_of k f ≡ b → nth_in k i off (f ∷ records u) ≡ Some (record { start = start; len = len; next = next }) → At i off start len
    go zero off start len next true eb h =
        let q : Some (record { start = off + 4; len = length (body_of f); next = record { at = off + length f } }) ≡ Some (record { start = start; len = len; next = next }) = rw eb at h in
        let es : off + 4 ≡ start = (some_span _ _ q).start in
        let el : length (body_of f) ≡ len = (some_span _ _ q).len in
        let d : start - off ≡ 4 = omega arith in
        (omega arith, rw (eb, d, ← el, body-front t) (sym (take-front (size_of t) (drop 4 t))))
    go (suc i) off start len next true eb h = rw eb (deeper i off start len (ih.stands i (off + length f) start len next (rw eb at h)))
    go zero off start len next false eb h = rw eb (deeper zero off start len (ih.stands zero (off + length f) start len next (rw eb at h)))
    go (suc i) off start len next false eb h = rw eb (deeper (suc i) off start len (ih.stands (suc i) (off + length f) start len next (rw eb at h)))

    lacks : (i off : ℕ) (b : Bool) → is_of k f ≡ b → nth_in k i off (f ∷ records u) ≡ None → get_or (cond (is_of k f) (body_of f ∷ bodies_in k (records u)) (bodies_in k (records u))) i [] ≡ []
    lacks zero off true eb h = let z : Some (record { start = off + 4; len = length (body_of f); next = record { at = off + length f } }) ≡ None = rw eb at h in clash (cc)
    lacks (suc i) off true eb h = rw eb (ih.none i (off + length f) (rw eb at h))
    lacks zero off false eb h = rw eb (ih.none zero (off + length f) (rw eb at h))
    lacks (suc i) off false eb h = rw eb (ih.none (suc i) (off + length f) (rw eb at h))

numbered : (k : Kind) (t : List ℕ) → Numbered k t
numbered k = records-ind (Numbered k) (numbered-stop k) (numbered_more k)

-- record i of a kind: where it stands, its body stands
module _ (kind : Kind) (s : List ℕ) (i : ℕ) (r : Next) (er : r ≡ nth_of kind i s) where
  pub nth-body : (span : Span) (b : List ℕ) → r ≡ Some span → b ≡ take span.len (drop span.start s) → b ≡ get_or (bodies kind s) i []
  unfolding nth_of
  nth-body span b e eb =
      let z : span.start - 0 ≡ span.start = omega arith in
      eb ∙ sym (((numbered kind s).stands i 0 span.start span.len span.next (sym er ∙ e)).body_is ∙ rw z)

  pub nth-nothing : r ≡ None → [] ≡ get_or (bodies kind s) i []
  unfolding nth_of
  nth-nothing e = sym ((numbered kind s).none i 0 (sym er ∙ e))

-- the name in front of it
pub nth-name : (kind : Kind) (s : List ℕ) (k : ℕ) (b r : List ℕ) → b ≡ get_or (bodies kind s) k [] → r ≡ name_of b → r ≡ get_or (map name_of (bodies kind s)) k []
unfolding name_of
nth-name kind s k b r eb er = er ∙ ap name_of eb ∙ sym (get_or-map name_of (bodies kind s) k [])

pub ruleset body_laws = (nth-body, nth-nothing)

pub ruleset nth_name_laws = (nth-name)
