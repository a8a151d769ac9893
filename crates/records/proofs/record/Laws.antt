-- Laws of the records of a byte string, and what each step of a cursor shows.
use Prim.Native.Nat.{ℕ, zero, suc, ◌+◌, ◌-◌, ◌≤◌, ◌<◌}
use mathlib.Core.Path.{◌≡◌, refl, sym, ◌∙◌, ap}
use mathlib.Core.List.{List, [], ◌∷◌, ◌++◌, flatten}
use mathlib.Core.Bool.{Bool, true, false, cond}
use native.Mathlib.Omega.{arith}
use native.Mathlib.Nat.{add-zero, zero-add, suc-add}
use lib.ListN.{length, take, drop, length-drop, length-append, drop_of_length-le, get_or-append}
use lib.Seq.{get_or-take, drop-drop, take-nil, length-take-le, take-append-le, drop-append-le, take_at, drop_at}
use lib.Dec.{ltb}
use borrow.Author.Tests.{lt-leb, le-leb, lt-ltb, le-ltb, leb-true, ltb-true, ltb-false}
use Rattle.records.specs.Bytes.{u16_at}
use Rattle.records.specs.Record.{mark_of, size_of, body_of, record_more, whole, records_from, records, step_at}
use Rattle.records.specs.declared.record.Cursor.{Cursor}
use Rattle.records.specs.declared.record.Step.{Step}
use Rattle.records.specs.declared.record.Step.TheVariants.{Record, Bad, End}
use Rattle.records.proofs.Logic.{clash}
use Rattle.records.proofs.bytes.Laws.{u16-drop}
use Rattle.records.specs.declared.record.Span.{Span}
use Rattle.std.specs.Prelude.{Some}

-- ---- unrolling

skipped : (k : ℕ) (s : List ℕ) → records_from k s ≡ records_from 0 (drop k s)
unfolding records_from
skipped zero [] = refl
skipped (suc k) [] = refl
skipped zero (x ∷ xs) = refl
skipped (suc k) (x ∷ xs) = skipped k xs

none-whole : whole [] ≡ false
unfolding whole
none-whole = lt-leb (suc (record_more [])) 0 (omega arith)

unrolled : (s : List ℕ) → records s ≡ cond (whole s) (take (suc (record_more s)) s ∷ records (drop (suc (record_more s)) s)) []
unfolding records records_from
unrolled [] = rw none-whole
unrolled (x ∷ xs) = rw (skipped (record_more (x ∷ xs)) xs)

-- the record at the front, and the rest
pub records-cons : (s : List ℕ) → whole s ≡ true → records s ≡ take (suc (record_more s)) s ∷ records (drop (suc (record_more s)) s)
records-cons s e = rw (unrolled s, e)

pub records-none : (s : List ℕ) → whole s ≡ false → records s ≡ []
records-none s e = rw (unrolled s, e)

pub records-end : (s : List ℕ) (at : ℕ) → length s ≤ at → records (drop at s) ≡ []
records-end s at h = rw (drop_of_length-le s h) (records-none [] none-whole)

-- what holds where no record stands, and of a record and the rest where it holds of the rest, holds of every byte string
module _ (P : List ℕ → Type 0) (stop : (t : List ℕ) → whole t ≡ false → P t) (more : (t : List ℕ) → whole t ≡ true → P (drop (suc (record_more t)) t) → P t) where
  none_left : (t : List ℕ) → length t ≤ 0 → (b : Bool) → whole t ≡ b → P t
  unfolding whole
  none_left t l true e = absurd (omega (arith, leb-true (suc (record_more t)) (length t) e))
  none_left t l false e = stop t e

  some_left : (n : ℕ) (t : List ℕ) → length t ≤ suc n → ((u : List ℕ) → length u ≤ n → P u) → (b : Bool) → whole t ≡ b → P t
  unfolding whole
  some_left n t l ih true e =
      more t e (ih (drop (suc (record_more t)) t) (rw length-drop (omega (arith, leb-true (suc (record_more t)) (length t) e))))
  some_left n t l ih false e = stop t e

  up_to : (n : ℕ) (t : List ℕ) → length t ≤ n → P t
  up_to zero t l = none_left t l (whole t) refl
  up_to (suc n) t l = some_left n t l (up_to n) (whole t) refl

  pub records-ind : (t : List ℕ) → P t
  records-ind t = up_to (length t) t (omega arith)

-- ---- a step of a cursor

mark-at : (s : List ℕ) (at : ℕ) → mark_of (drop at s) ≡ u16_at s at
unfolding mark_of
mark-at s at = rw (u16-drop, add-zero)

size-at : (s : List ℕ) (at : ℕ) → size_of (drop at s) ≡ u16_at s (at + 2)
unfolding size_of
size-at s at = rw u16-drop

module _ (s : List ℕ) (at : ℕ) where
  pub step_end : length s ≤ at → End ≡ step_at s at
  unfolding step_at
  step_end h = rw (le-ltb at (length s) h)

  pub step-short : at < length s → length s - at < 4 → Bad ≡ step_at s at
  unfolding step_at whole record_more
  step-short h l =
      rw (lt-ltb at (length s) h, lt-leb (suc (3 + size_of (drop at s))) (length (drop at s)) (rw length-drop (omega arith)))

  pub step-long : (len : ℕ) → at < length s → 4 ≤ length s - at → len ≡ u16_at s (at + 2) → length s - (at + 4) < len → Bad ≡ step_at s at
  unfolding step_at whole record_more
  step-long len h h4 e l =
      rw (lt-ltb at (length s) h, lt-leb (suc (3 + size_of (drop at s))) (length (drop at s)) (rw (length-drop, size-at) (omega arith)))

  pub step-whole : (mark len : ℕ) → at < length s → 4 ≤ length s - at → mark ≡ u16_at s at → len ≡ u16_at s (at + 2) → len ≤ length s - (at + 4)
      → Record mark (at + 4) len (record { at = at + 4 + len }) ≡ step_at s at
  unfolding step_at whole record_more
  step-whole mark len h h4 em el l =
      rw (em, el, lt-ltb at (length s) h, le-leb (suc (3 + size_of (drop at s))) (length (drop at s)) (rw (length-drop, size-at) (omega arith)), size-at, mark-at)

-- a step that found a record: what the record is
pub record Stepped (s : List ℕ) (at mark start len : ℕ) (next : Cursor) : Type 0 where
  pub here : whole (drop at s) ≡ true
  pub mark_is : mark ≡ mark_of (drop at s)
  pub start_is : start ≡ at + 4
  pub len_is : len ≡ size_of (drop at s)
  pub next_is : next.at ≡ at + 4 + len
  pub room : at + 4 + len ≤ length s

module _ (s : List ℕ) (at : ℕ) (r : Step) (er : r ≡ step_at s at) where
  pub stepped : (mark start len : ℕ) (next : Cursor) → r ≡ Record mark start len next → Stepped s at mark start len next
  unfolding step_at whole record_more
  stepped mark start len next e = go (ltb at (length s)) refl (whole (drop at s)) refl
    where
      fits : whole (drop at s) ≡ true → at < length s → at + 4 + size_of (drop at s) ≤ length s
      fits w l = omega (arith, leb-true (suc (3 + size_of (drop at s))) (length (drop at s)) w, length-drop at s)

      go : (b : Bool) → ltb at (length s) ≡ b → (w : Bool) → whole (drop at s) ≡ w → Stepped s at mark start len next
      go true eb true ew =
          let f : Record mark start len next ≡ Record (mark_of (drop at s)) (at + 4) (size_of (drop at s)) (record { at = at + 4 + size_of (drop at s) }) = cc in
          let el : len ≡ size_of (drop at s) = cc in
          let en : next ≡ record { at = at + 4 + size_of (drop at s) } = cc in
          record {
            here = ew;
            mark_is = cc;
            start_is = cc;
            len_is = el;
            next_is = ap (λ (n : Cursor). n.at) en ∙ rw el;
            room = rw el (fits ew (ltb-true at (length s) eb));
          }
      go true eb false ew = clash (cc)
      go false eb w ew = clash (cc)

  pub stepped-bad : r ≡ Bad → whole (drop at s) ≡ false
  unfolding step_at
  stepped-bad e = go (ltb at (length s)) refl (whole (drop at s)) refl
    where
      go : (b : Bool) → ltb at (length s) ≡ b → (w : Bool) → whole (drop at s) ≡ w → whole (drop at s) ≡ false
      go true eb true ew = clash (cc)
      go true eb false ew = ew
      go false eb w ew = clash (cc)

  pub stepped-end : r ≡ End → length s ≤ at
  unfolding step_at
  stepped-end e = go (ltb at (length s)) refl (whole (drop at s)) refl
    where
      go : (b : Bool) → ltb at (length s) ≡ b → (w : Bool) → whole (drop at s) ≡ w → length s ≤ at
      go true eb true ew = clash (cc)
      go true eb false ew = clash (cc)
      go false eb w ew = ltb-false at (length s) eb

  pub stepped_in : r ≡ Bad → at < length s
  unfolding step_at
  stepped_in e = go (ltb at (length s)) refl (whole (drop at s)) refl
    where
      go : (b : Bool) → ltb at (length s) ≡ b → (w : Bool) → whole (drop at s) ≡ w → at < length s
      go true eb w ew = ltb-true at (length s) eb
      go false eb w ew = clash (cc)

pub ruleset step_laws = (step_end, step-short, step-long, step-whole)

-- ---- the record that a step finds

drop-take : (m n : ℕ) (l : List ℕ) → drop m (take (m + n) l) ≡ take n (drop m l)
drop-take zero n l = rw (zero-add n)
drop-take (suc m) n [] = rw (suc-add m n, take-nil n)
drop-take (suc m) n (x ∷ l) = rw (suc-add m n, drop-take m n l)

mark-take : (s : List ℕ) (n : ℕ) → 2 ≤ n → mark_of (take n s) ≡ mark_of s
unfolding mark_of u16_at
mark-take s n h = rw (get_or-take n s 0 0 (omega arith), get_or-take n s (0 + 1) 0 (omega arith))

pub body-front : (t : List ℕ) → body_of (take (suc (record_more t)) t) ≡ take (size_of t) (drop 4 t)
unfolding body_of record_more
body-front t = let e : suc (3 + size_of t) ≡ 4 + size_of t = omega arith in rw (e, drop-take 4 (size_of t) t)

-- the record in front of t, where it is whole
pub record Front (t : List ℕ) : Type 0 where
  pub inside : suc (record_more t) ≤ length t
  pub long : length (take (suc (record_more t)) t) ≡ suc (record_more t)
  pub size : length (body_of (take (suc (record_more t)) t)) ≡ size_of t

pub front_of : (t : List ℕ) → whole t ≡ true → Front t
unfolding whole record_more
front_of t e = record { inside = inside; long = length-take-le (suc (record_more t)) t inside; size = rw (body-front t) (length-take-le (size_of t) (drop 4 t) (rw length-drop (omega (arith, inside)))) }
  where
    inside : suc (record_more t) ≤ length t
    inside = leb-true (suc (record_more t)) (length t) e

module _ (s : List ℕ) (at mark start len : ℕ) (next : Cursor) (p : Stepped s at mark start len next) where
  -- the record that was found, with its mark and length
  abbrev pub front : List ℕ
  front = take (suc (record_more (drop at s))) (drop at s)

  pub records-next : records (drop at s) ≡ front ∷ records (drop next.at s)
  unfolding record_more
  records-next =
      let e : at + suc (3 + size_of (drop at s)) ≡ next.at = omega (arith, p.next_is, p.len_is) in
      rw (records-cons (drop at s) p.here, drop-drop (suc (3 + size_of (drop at s))) at s, e)

  pub front-mark : mark_of front ≡ mark
  unfolding record_more
  front-mark = mark-take (drop at s) (suc (3 + size_of (drop at s))) (omega arith) ∙ sym p.mark_is

  pub front-body : body_of front ≡ take len (drop start s)
  front-body = rw (body-front (drop at s), p.len_is, p.start_is, drop-drop 4 at s)

  pub front_length : at + length front ≡ next.at
  unfolding record_more
  front_length =
      let e : length (take (suc (3 + size_of (drop at s))) (drop at s)) ≡ suc (3 + size_of (drop at s)) =
      length-take-le (suc (3 + size_of (drop at s))) (drop at s) (rw length-drop (omega (arith, p.room, p.len_is))) in
      omega (arith, e, p.next_is, p.len_is)

-- a step goes forward
pub step_less : (s : List ℕ) (at : ℕ) (st : Step) → st ≡ step_at s at → (mark start len : ℕ) (next : Cursor) → st ≡ Record mark start len next → length s - next.at < length s - at
step_less s at st es mark start len next e =
    let p : Stepped s at mark start len next = stepped s at st es mark start len next e in
    omega (arith, p.next_is, p.room)

-- ---- two strings in a row, where the first is used up exactly

more-append : (a b : List ℕ) → 4 ≤ length a → record_more (a ++ b) ≡ record_more a
unfolding record_more size_of u16_at
more-append a b l = rw (get_or-append a b 0 2 (omega arith), get_or-append a b 0 (2 + 1) (omega arith))

-- r is one record, with its mark and length
pub record IsRecord (r : List ℕ) : Type 0 where
  pub long : suc (record_more r) ≡ length r

size-take : (t : List ℕ) (n : ℕ) → 4 ≤ n → size_of (take n t) ≡ size_of t
unfolding size_of u16_at
size-take t n l = rw (get_or-take n t 2 0 (omega arith), get_or-take n t (2 + 1) 0 (omega arith))

-- the record in front of t, where it is whole
pub front_record : (t : List ℕ) → whole t ≡ true → IsRecord (take (suc (record_more t)) t)
unfolding record_more
front_record t e = record { long = ap (λ (n : ℕ). suc (3 + n)) (size-take t (suc (3 + size_of t)) (omega arith)) ∙ sym (front_of t e).long }

module _ (r x : List ℕ) (h : IsRecord r) where
  first_more : record_more (r ++ x) ≡ record_more r
  unfolding record_more
  first_more = more-append r x (omega (arith, h.long))

  pub first-whole : whole (r ++ x) ≡ true
  unfolding whole
  first-whole = rw first_more (le-leb (suc (record_more r)) (length (r ++ x)) (rw length-append (omega (arith, h.long))))

  pub first-front : take (suc (record_more (r ++ x))) (r ++ x) ≡ r
  first-front = rw first_more (take_at r x (suc (record_more r)) (sym h.long))

  pub record_first : records (r ++ x) ≡ r ∷ records x
  record_first = records-cons (r ++ x) first-whole ∙ rw (first-front, first_more, drop_at r x (suc (record_more r)) (sym h.long))

pub record Splits (a : List ℕ) : Type 0 where
  pub in_two : (b : List ℕ) → flatten (records a) ≡ a → records (a ++ b) ≡ records a ++ records b

splits_stop : (a : List ℕ) → whole a ≡ false → Splits a
unfolding flatten
splits_stop a e = record { in_two = λ b j. let z : [] ≡ a = rw (records-none a e) at j in rw (records-none a e, ← z) }

splits_more : (a : List ℕ) → whole a ≡ true → Splits (drop (suc (record_more a)) a) → Splits a
unfolding flatten whole record_more
splits_more a e ih = record { in_two = two }
  where
    n : ℕ
    n = suc (record_more a)

    l : n ≤ length a
    l = leb-true n (length a) e

    two : (b : List ℕ) → flatten (records a) ≡ a → records (a ++ b) ≡ records a ++ records b
    two b j =
        let m : record_more (a ++ b) ≡ record_more a = more-append a b (omega (arith, l)) in
        let w : whole (a ++ b) ≡ true = rw m (le-leb n (length (a ++ b)) (rw length-append (omega (arith, l)))) in
        let r : List ℕ = flatten (records (drop n a)) in
        let j' : take n a ++ r ≡ a = rw (records-cons a e) at j in
        let k : r ≡ drop n a = sym (drop_at (take n a) r n (length-take-le n a l)) ∙ ap (drop n) j' in
        rw (records-cons (a ++ b) w, m, take-append-le n a b l, drop-append-le n a b l, records-cons a e, ih.in_two b k)

pub splits : (a : List ℕ) → Splits a
splits = records-ind Splits splits_stop splits_more

-- ---- where a body stands

pub record SameSpan (a b : Span) : Type 0 where
  pub start : a.start ≡ b.start
  pub len : a.len ≡ b.len
  pub next : a.next ≡ b.next

pub some_span : (a b : Span) → Some a ≡ Some b → SameSpan a b
some_span a b h =
    let e : a ≡ b = cc in
    record { start = ap (λ (x : Span). x.start) e; len = ap (λ (x : Span). x.len) e; next = ap (λ (x : Span). x.next) e }
