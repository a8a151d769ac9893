-- Modules at positions: what each turn and each return of the questions shows, and that only the set and its table matter.
use mathlib.Core.Path.{◌≡◌, refl, sym, ap, ◌∙◌}
use mathlib.Core.Bool.{Bool, true, false, ◌||◌, cond}
use mathlib.Core.Option.{Option, none, some}
use mathlib.Core.List.{List, [], ◌∷◌, map}
use Prim.Native.Nat.{ℕ, ◌+◌, ◌-◌, ◌≤◌, ◌<◌}
use native.Mathlib.Omega.{arith}
use native.Mathlib.Numerals.{add-one}
use Rattle.std.specs.List.{list_any}
use lib.ListN.{length, get_or, take, drop, drop_of_length-le}
use lib.Seq.{drop-cons}
use Rattle.records.specs.Bytes.{same_bytes}
use Rattle.records.specs.Name.{mem_name, name_of}
use Rattle.records.specs.Record.{bodies, next_of}
use Rattle.records.specs.Descriptor.{requirement_of}
use Rattle.records.specs.Request.{request_of}
use Rattle.records.specs.Set.{block_at}
use Rattle.records.specs.Finder.{Found}
use Rattle.records.specs.Record.{Next}
use Rattle.records.specs.declared.record.Kind.{Kind}
use Rattle.records.proofs.Logic.{clash, by}
use Rattle.records.proofs.record.Bodies.{bodies-next, bodies-end, next-room, next-less}
use Rattle.resolution.specs.Lists.{Name, any, first}
use Rattle.resolution.specs.Resolver.{Inputs, block_of, names_of, has_named, requires_name, is_met_before, owner_at}
use Rattle.resolution.specs.Filter.{is_marked, Covers, asked, asked_before, found_of, first_named, requires_in, is_required}
use Rattle.resolution.proofs.Lists.{any_in, any_out, first_in, first_out}
use Rattle.resolution.proofs.filter.Covers.{covers-not}
use Rattle.std.specs.Prelude.{Some, None}
use Rattle.records.specs.declared.record.Span.{Span}

-- ---- the positions from k on

module _ (ps : List ℕ) (k : ℕ) where
  pub rest-next : k < length ps → drop k ps ≡ get_or ps k 0 ∷ drop (k + 1) ps
  rest-next m = drop-cons ps k 0 m ∙ rw (add-one k)

  pub rest-end : length ps ≤ k → drop k ps ≡ []
  rest-end l = drop_of_length-le ps {i = k} l

-- ---- the first module with a name

-- none of those before k has it
pub record WithAt (set starts ps : List ℕ) (kind : Kind) (name : Name) (k : ℕ) : Type 0 where
  pub left : first_named (asked set starts) kind ps name ≡ first_named (asked set starts) kind (drop k ps) name

pub with-start : (set starts ps : List ℕ) (kind : Kind) (name : Name) → WithAt set starts ps kind name 0
with-start set starts ps kind name = record { left = refl }

module _ (set starts ps : List ℕ) (kind : Kind) (name : Name) (k : ℕ) (h : WithAt set starts ps kind name k) where
  module _ (m : k < length ps) (b : List ℕ) (eb : b ≡ block_at set starts (get_or ps k 0)) (r : Bool)
      (er : r ≡ mem_name name (map name_of (bodies kind b))) where
    with-turn : first_named (asked set starts) kind ps name
        ≡ cond r (some (get_or ps k 0)) (first_named (asked set starts) kind (drop (k + 1) ps) name)
    unfolding first_named first names_of block_of
    with-turn = h.left ∙ rw (rest-next ps k m, ← eb, ← er)

    pub with-here : r ≡ true → Some (get_or ps k 0) ≡ found_of (first_named (asked set starts) kind ps name)
    unfolding found_of
    with-here t = sym (rw (with-turn, t))

    pub with-more : r ≡ false → WithAt set starts ps kind name (k + 1)
    with-more t = record { left = with-turn ∙ rw t }

  pub with_none : length ps ≤ k → None ≡ found_of (first_named (asked set starts) kind ps name)
  unfolding found_of first_named first
  with_none l = sym (rw (h.left, rest-end ps k l))

pub ruleset with_laws = (with-start, with-here, with-more, with_none)

-- ---- what was found

pub found_some : (o : Option ℕ) (i : ℕ) → found_of o ≡ Some i → o ≡ some i
unfolding found_of
found_some none i e = clash (cc)
found_some (some j) i e = let q : j ≡ i = cc in ap (λ (x : ℕ). some x) q

pub found_none : (o : Option ℕ) → found_of o ≡ None → o ≡ none
unfolding found_of
found_none none e = refl
found_none (some j) e = clash (cc)

module _ (w : Inputs) (k : Kind) (ps : List ℕ) (n : Name) where
  pub owner-first : owner_at w ps n ≡ first_named w Kind.Package ps n
  unfolding owner_at first_named
  owner-first = refl

  -- one of the modules has the name just if there is a first
  pub first_has : (i : ℕ) → first_named w k ps n ≡ some i → has_named w k ps n ≡ true
  unfolding first_named has_named
  first_has i e =
      let r = first_out (λ i. mem_name n (names_of w k i)) ps e in
      any_in (λ i. mem_name n (names_of w k i)) r.0 r.1

  pub first-lacks : first_named w k ps n ≡ none → has_named w k ps n ≡ false
  unfolding first_named has_named
  first-lacks e = by (has_named w k ps n) (λ t. found t) (λ f. f)
    where
      found : any (λ i. mem_name n (names_of w k i)) ps ≡ true → has_named w k ps n ≡ false
      found t =
          let r = any_out (λ i. mem_name n (names_of w k i)) ps t in
          let s = first_in (λ i. mem_name n (names_of w k i)) r.1 r.2 in
          let z : none ≡ some s.0 = sym e ∙ s.1 in
          clash (cc)

  module _ (r : Found) (er : r ≡ found_of (first_named w k ps n)) where
    pub named-yes : (i : ℕ) → r ≡ Some i → true ≡ has_named w k ps n
    named-yes i e = sym (first_has i (found_some (first_named w k ps n) i (sym er ∙ e)))

    pub named-no : r ≡ None → false ≡ has_named w k ps n
    named-no e = sym (first-lacks (found_none (first_named w k ps n) (sym er ∙ e)))

  pub named-unmarked : (words : List ℕ) (r : Bool) → Covers w k words ps → r ≡ is_marked words n → r ≡ false → false ≡ has_named w k ps n
  named-unmarked words r c er f = sym (covers-not w k words ps n c (sym er ∙ f))

pub ruleset named-laws = (named-yes, named-no, named-unmarked)

-- ---- a walk over the bodies of one kind that asks each

-- those before `at` do not pass
pub record BodyAt (q : List ℕ → Bool) (k : Kind) (b : List ℕ) (at : ℕ) : Type 0 where
  pub within : at ≤ length b
  pub left : any q (bodies k b) ≡ any q (bodies k (drop at b))

module _ (q : List ℕ → Bool) (k : Kind) (b : List ℕ) (at : ℕ) (h : BodyAt q k b at) (r : Next) (er : r ≡ next_of k b at) where
  module _ (span : Span) (e : r ≡ Some span) where
    pub body-turn : any q (bodies k b) ≡ q (take span.len (drop span.start b)) || any q (bodies k (drop span.next.at b))
    unfolding any
    body-turn = h.left ∙ rw (bodies-next k b at r er span.start span.len span.next e h.within)

    pub body_more : q (take span.len (drop span.start b)) ≡ false → BodyAt q k b span.next.at
    body_more f = record { within = next-room k b at r er span.start span.len span.next e h.within; left = body-turn ∙ rw f }

  pub body-done : r ≡ None → any q (bodies k b) ≡ false
  unfolding any
  body-done e = h.left ∙ rw (bodies-end k b at r er e)

pub any-map : {A B : Type 0} (f : A → B) (q : B → Bool) (l : List A) → any q (map f l) ≡ any (λ (x : A). q (f x)) l
unfolding any
any-map f q [] = refl
any-map f q (x ∷ l) = rw (any-map f q l)

-- ---- requirements

module _ (b n : List ℕ) (s : Bool) (es : s ≡ (requirement_of b).static) where
  pub requires_static : s ≡ true → false ≡ requires_name n b
  unfolding requires_name
  requires_static t = rw (← es, t)

  pub requires-is : (m : Name) (r : Bool) → s ≡ false → m ≡ (requirement_of b).name → r ≡ same_bytes m n → r ≡ requires_name n b
  unfolding requires_name
  requires-is m r f em er = rw (← es, f, ← em, ← er)

pub ruleset requires_laws = (requires_static, requires-is)

pub record RequiresAt (b n : List ℕ) (at : ℕ) : Type 0 where
  pub walk : BodyAt (requires_name n) Kind.Requires b at

pub block_start : (b n : List ℕ) → RequiresAt b n 0
block_start b n = record { walk = record { within = omega arith; left = refl } }

module _ (b n : List ℕ) (at : ℕ) (h : RequiresAt b n at) (r : Next) (er : r ≡ next_of Kind.Requires b at) where
  module _ (span : Span) (e : r ≡ Some span) where
    pub block-less : length b - span.next.at < length b - at
    block-less = next-less Kind.Requires b at r er span.start span.len span.next e h.walk.within

    pub block_here : (x : List ℕ) (t : Bool) → x ≡ take span.len (drop span.start b) → t ≡ requires_name n x → t ≡ true → true ≡ requires_in b n
    unfolding requires_in
    block_here x t ex et y = sym (body-turn (requires_name n) Kind.Requires b at h.walk r er span e ∙ rw (← ex, ← et, y))

    pub block_more : (x : List ℕ) (t : Bool) → x ≡ take span.len (drop span.start b) → t ≡ requires_name n x → t ≡ false → RequiresAt b n span.next.at
    block_more x t ex et y = record {
      walk = body_more (requires_name n) Kind.Requires b at h.walk r er span e (rw (← ex, ← et, y));
    }

  pub block-done : r ≡ None → false ≡ requires_in b n
  unfolding requires_in
  block-done e = sym (body-done (requires_name n) Kind.Requires b at h.walk r er e)

pub ruleset block_laws = (block_start, block-less, block_here, block_more, block-done)

-- ---- one of the modules at the positions

pub any_is : (q : ℕ → Bool) (ps : List ℕ) → list_any q ps ≡ any q ps
unfolding any
any_is q [] = refl
any_is q (p ∷ ps) = rw (any_is q ps)

pub used_any : (set starts ps : List ℕ) (name : Name) → list_any (λ i. mem_name name (map name_of (bodies Kind.Uses (block_at set starts i)))) ps
    ≡ has_named (asked set starts) Kind.Uses ps name
unfolding has_named names_of block_of
used_any set starts ps name = any_is (λ i. mem_name name (map name_of (bodies Kind.Uses (block_at set starts i)))) ps

pub required_any : (set starts ps : List ℕ) (name : Name) → list_any (λ i. requires_in (block_at set starts i) name) ps ≡ is_required (asked set starts) ps name
unfolding is_required block_of
required_any set starts ps name = any_is (λ i. requires_in (block_at set starts i) name) ps

-- ---- a name that was met

module _ (set request starts before : List ℕ) (name : Name) (r : Bool) (er : r ≡ mem_name name (map name_of (bodies Kind.Root request))) where
  pub met-root : r ≡ true → true ≡ is_met_before (asked_before set request starts before) name
  unfolding is_met_before request_of
  met-root t = rw (← er, t)

  pub met-required : (q : Bool) → r ≡ false → q ≡ is_required (asked set starts) before name → q ≡ is_met_before (asked_before set request starts before) name
  unfolding is_met_before request_of is_required requires_in block_of
  met-required q f eq = eq ∙ rw (← er, f)

pub ruleset met_laws = (met-root, met-required)
