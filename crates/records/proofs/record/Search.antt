-- The first record of a kind that begins with given names.
use Prim.Native.Nat.{ℕ, suc, ◌+◌, ◌-◌, ◌≤◌, ◌<◌}
use mathlib.Core.Path.{◌≡◌, refl, sym, ◌∙◌, ap}
use mathlib.Core.List.{List, [], ◌∷◌, map}
use mathlib.Core.Bool.{Bool, true, false, cond, ◌&&◌}
use mathlib.Core.Option.{Option, none, some}
use native.Mathlib.Omega.{arith}
use native.Mathlib.Numerals.{add-one}
use lib.ListN.{length, get_or, take, drop, length-drop, length-map, get_or-map, drop_of_length-le}
use lib.Seq.{drop-cons, drop-drop}
use Rattle.records.specs.Bytes.{same_bytes}
use Rattle.records.specs.Name.{name_of, after_name}
use Rattle.records.specs.Record.{body_of, records, record_more, whole, is_of, bodies_in, bodies, next_of, pick_next, begins, first_in, first_of}
use Rattle.records.specs.declared.record.Cursor.{Cursor}
use Rattle.records.specs.Record.{Next}
use Rattle.records.specs.declared.record.Kind.{Kind}
use Rattle.records.proofs.Logic.{clash}
use Rattle.records.proofs.record.Laws.{Front, front_of, records-cons, records-none, records-ind, body-front, some_span}
use Rattle.records.proofs.record.Bodies.{first_next, first-end, next-room, next-less}
use Rattle.std.specs.Prelude.{Some, None, is_some}
use Rattle.records.specs.declared.record.Span.{Span}

-- ---- a body begins with names

-- what is left of the body from t on has to begin with the names from i on
pub record BeginsAt (ns : List (List ℕ)) (b : List ℕ) (i : ℕ) (t : List ℕ) : Type 0 where
  pub left : begins ns b ≡ begins (drop i ns) t

pub begins_start : (ns : List (List ℕ)) (b : List ℕ) → BeginsAt ns b 0 b
begins_start ns b = record { left = refl }

module _ {A : Type 0} (f : A → List ℕ) (ns : List A) (b t : List ℕ) (i : ℕ) (h : BeginsAt (map f ns) b i t) where
  module _ (l : i < length ns) (d : A) (n : List ℕ) (en : n ≡ name_of t) (r : Bool) (er : r ≡ same_bytes n (f (get_or ns i d))) where
    told : begins (map f ns) b ≡ (r && begins (drop (suc i) (map f ns)) (after_name t))
    unfolding begins
    told = h.left ∙ rw (drop-cons (map f ns) i (f d) (omega (arith, l, length-map ns f)), get_or-map f ns i d, er, en)

    pub begins_not : r ≡ false → false ≡ begins (map f ns) b
    begins_not e = sym (told ∙ rw e)

    pub begins_more : r ≡ true → (u : List ℕ) → u ≡ after_name t → (j : ℕ) → j ≡ i + 1 → BeginsAt (map f ns) b j u
    begins_more e u eu j ej = record { left = told ∙ rw (e, eu, ej, add-one i) }

  pub begins_done : length ns ≤ i → true ≡ begins (map f ns) b
  unfolding begins
  begins_done l = sym (h.left ∙ rw (drop_of_length-le (map f ns) {i = i} (omega (arith, l, length-map ns f))))

pub ruleset begins_laws = (begins_start, begins_not, begins_more, begins_done)

-- ---- the search

-- no record before `at` is of the kind and begins with these names
pub record FirstAt (k : Kind) (ns : List (List ℕ)) (s : List ℕ) (at : ℕ) : Type 0 where
  pub within : at ≤ length s
  pub left : first_of k ns s ≡ first_in k ns at (records (drop at s))

pub first-start : (k : Kind) (ns : List (List ℕ)) (s : List ℕ) → FirstAt k ns s 0
unfolding first_of
first-start k ns s = record { within = omega arith; left = refl }

module _ (k : Kind) (ns : List (List ℕ)) (s : List ℕ) (at : ℕ) (h : FirstAt k ns s at) (r : Next) (er : r ≡ next_of k s at) where
  module _ (span : Span) (e : r ≡ Some span) where
    module _ (b : List ℕ) (eb : b ≡ take span.len (drop span.start s)) (q : Bool) (eq : q ≡ begins ns b) where
      turn : first_of k ns s ≡ pick_next q (Some span) (first_in k ns span.next.at (records (drop span.next.at s)))
      turn = h.left ∙ first_next k s at r er span.start span.len span.next e ns h.within ∙ rw (eq, eb)

      pub first-here : q ≡ true → Some span ≡ first_of k ns s
      first-here t = sym (turn ∙ rw t)

      pub first_more : q ≡ false → FirstAt k ns s span.next.at
      first_more t = record { within = next-room k s at r er span.start span.len span.next e h.within; left = turn ∙ rw t }

    pub first-less : length s - span.next.at < length s - at
    first-less = next-less k s at r er span.start span.len span.next e h.within

  pub first-none : r ≡ None → None ≡ first_of k ns s
  first-none e = sym (h.left ∙ first-end k s at r er ns e)

pub ruleset first_laws = (first-start, first-here, first_more, first-less, first-none)

-- ---- what was found

-- the first of these bodies that begins with these names
unfoldable pub first_body : List (List ℕ) → List (List ℕ) → Option (List ℕ)
first_body ns [] = none
first_body ns (b ∷ bs) = cond (begins ns b) (some b) (first_body ns bs)

nothing-first : (k : Kind) (ns : List (List ℕ)) (off : ℕ) (rs : List (List ℕ)) → first_in k ns off rs ≡ None → first_body ns (bodies_in k rs) ≡ none
unfolding first_in bodies_in first_body
nothing-first k ns off [] e = refl
nothing-first k ns off (r ∷ rs) e = go (is_of k r) refl (begins ns (body_of r)) refl (nothing-first k ns (off + length r) rs)
  where
    go : (b : Bool) → is_of k r ≡ b → (q : Bool) → begins ns (body_of r) ≡ q
        → (first_in k ns (off + length r) rs ≡ None → first_body ns (bodies_in k rs) ≡ none) → first_body ns (bodies_in k (r ∷ rs)) ≡ none
    go true eb true eq ih = clash (cc)
    go true eb false eq ih = rw (eb, eq) (ih (rw (eb, eq) at e))
    go false eb q eq ih = rw eb (ih (rw eb at e))

-- what the search finds in t, whose first byte has the offset `off`
record First (k : Kind) (ns : List (List ℕ)) (off : ℕ) (t : List ℕ) (start len : ℕ) : Type 0 where
  later : off + 4 ≤ start
  room : start + len ≤ off + length t
  body_is : first_body ns (bodies k t) ≡ some (take len (drop (start - off) t))

record Firsts (k : Kind) (ns : List (List ℕ)) (t : List ℕ) : Type 0 where
  firsts : (off start len : ℕ) (next : Cursor) → first_in k ns off (records t) ≡ Some (record { start = start; len = len; next = next }) → First k ns off t start len

firsts-stop : (k : Kind) (ns : List (List ℕ)) (t : List ℕ) → whole t ≡ false → Firsts k ns t
unfolding first_in
firsts-stop k ns t e = record {
  firsts = λ off start len next h. let n : first_in k ns off (records t) ≡ None = rw (records-none t e) in clash (cc);
}

firsts_more : (k : Kind) (ns : List (List ℕ)) (t : List ℕ) → whole t ≡ true → Firsts k ns (drop (suc (record_more t)) t) → Firsts k ns t
unfolding first_in bodies bodies_in first_body whole record_more body_of
firsts_more k ns t e ih = record {
  firsts = λ off start len next h. go off start len next (is_of k f) refl (begins ns (body_of f)) refl (sym (ap (first_in k ns off) (records-cons t e)) ∙ h);
}
  where
    n : ℕ
    n = suc (record_more t)

    head : Front t
    head = front_of t e

    f : List ℕ
    f = take n t

    u : List ℕ
    u = drop n t

    here : (off start len : ℕ) → is_of k f ≡ true → begins ns (body_of f) ≡ true → start ≡ off + 4 → len ≡ length (body_of f) → First k ns off t start len
    here off start len eb eq es el =
        let d : start - off ≡ 4 = omega arith in
        record {
          later = omega arith;
          room = omega (arith, head.inside, head.size);
          body_is = rw (records-cons t e, eb, eq, d, el, head.size, body-front t);
        }

    there : (off start len : ℕ) → first_body ns (bodies k t) ≡ first_body ns (bodies k u) → First k ns (off + length f) u start len → First k ns off t start len
    there off start len eb p =
        let d : n + (start - (off + n)) ≡ start - off = omega (arith, p.later, head.long) in
        record {
          later = omega (arith, p.later);
          room = omega (arith, p.room, head.long, length-drop n t);
          body_is = eb ∙ p.body_is ∙ rw (head.long, drop-drop (start - (off + n)) n t, d);
        }

    go : (off start len : ℕ) (next : Cursor) (b : Bool) → is_of k f ≡ b → (q : Bool) → begins ns (body_of f) ≡ q
        → pick_next (is_of k f && begins ns (body_of f)) (Some (record { start = off + 4; len = length (body_of f); next = record { at = off + length f } })) (first_in k ns (off + length f) (records u)) ≡ Some (record { start = start; len = len; next = next })
        → First k ns off t start len
    go off start len next true eb true eq h =
        let q : Some (record { start = off + 4; len = length (body_of f); next = record { at = off + length f } }) ≡ Some (record { start = start; len = len; next = next }) = rw (eb, eq) at h in
        let es : off + 4 ≡ start = (some_span _ _ q).start in
        let el : length (body_of f) ≡ len = (some_span _ _ q).len in
        here off start len eb eq (sym es) (sym el)
    go off start len next true eb false eq h =
        there off start len (rw (records-cons t e, eb, eq)) (ih.firsts (off + length f) start len next (rw (eb, eq) at h))
    go off start len next false eb q eq h =
        there off start len (rw (records-cons t e, eb)) (ih.firsts (off + length f) start len next (rw eb at h))

-- what a caller of the search knows
module _ (k : Kind) (ns : List (List ℕ)) (s : List ℕ) (r : Next) (er : r ≡ first_of k ns s) where
  module _ (span : Span) (e : r ≡ Some span) where
    p : First k ns 0 s span.start span.len
    unfolding first_of
    p = (records-ind (Firsts k ns) (firsts-stop k ns) (firsts_more k ns) s).firsts 0 span.start span.len span.next (sym er ∙ e)

    pub first_body_lem : first_body ns (bodies k s) ≡ some (take span.len (drop span.start s))
    first_body_lem = let d : span.start - 0 ≡ span.start = omega arith in p.body_is ∙ rw d

    pub first-room : span.start + span.len ≤ length s
    first-room = omega (arith, p.room)

  pub first-nothing : r ≡ None → first_body ns (bodies k s) ≡ none
  unfolding first_of bodies
  first-nothing e = nothing-first k ns 0 (records s) (sym er ∙ e)

-- a body was found
unfoldable pub is_found : Option (List ℕ) → Bool
is_found none = false
is_found (some b) = true

module _ (k : Kind) (ns : List (List ℕ)) (s : List ℕ) (r : Next) (er : r ≡ first_of k ns s) where
  pub found-yes : (span : Span) → r ≡ Some span → true ≡ is_found (first_body ns (bodies k s))
  unfolding is_found
  found-yes span e = sym (rw (first_body_lem k ns s r er span e))

  pub found-no : r ≡ None → false ≡ is_found (first_body ns (bodies k s))
  unfolding is_found
  found-no e = sym (rw (first-nothing k ns s r er e))

  pub found-told : (q : Bool) → q ≡ is_some r → q ≡ is_found (first_body ns (bodies k s))
  found-told q e = e ∙ go r refl
    where
      go : (x : Next) → r ≡ x → is_some r ≡ is_found (first_body ns (bodies k s))
      go (Some b) h = ap is_some h ∙ found-yes b h
      go None h = ap is_some h ∙ found-no h
