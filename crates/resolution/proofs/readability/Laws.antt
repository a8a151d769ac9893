-- The rows of one module: what each return and each turn of the functions that make them shows.
use mathlib.Core.Path.{◌≡◌, refl, sym, ap, ◌∙◌, subst}
use mathlib.Core.Bool.{Bool, true, false, not, ◌||◌, ◌&&◌, or-false, and-false, and-true, or_assoc}
use mathlib.Core.List.{List, map}
use Prim.Native.Nat.{ℕ, ◌+◌, ◌-◌, ◌≤◌, ◌<◌}
use native.Mathlib.Omega.{arith}
use native.Mathlib.Nat.{eq-or-lt_of_le}
use mathlib.Core.Logic.{⊎_elim}
use lib.Dec.{eqb, ltb}
use lib.ListN.{length, take, drop}
use borrow.Author.Tests.{eq-eqb, ne_eqb, eqb-true, eqb-false, ltb-true, ltb-false, lt-ltb, le-ltb}
use Rattle.records.specs.Bytes.{same_bytes}
use Rattle.records.specs.Name.{java_base}
use Rattle.records.specs.Record.{bodies, next_of}
use Rattle.records.specs.Descriptor.{requirement_of, descriptor_of}
use Rattle.records.specs.Set.{block_at}
use Rattle.records.specs.Finder.{find_name, is_at}
use Rattle.records.specs.Finder.{Found}
use Rattle.records.specs.declared.record.Cursor.{Cursor}
use Rattle.records.specs.Record.{Next}
use Rattle.records.specs.declared.record.Kind.TheVariants as Kind
use Rattle.records.proofs.record.Bodies.{bodies-next, bodies-end, next-room, next-less}
use Rattle.records.proofs.bytes.Laws.{same-eq}
use Rattle.records.proofs.Logic.{true≠false, by}
use Rattle.resolution.specs.Lists.{Name, any}
use Rattle.resolution.specs.Row.{holds, Empty, Added}
use Rattle.resolution.specs.Graph.{edge, ninth, ReachedFrom}
use Rattle.resolution.specs.Readability.{member_of, is_named, is_required, required_at, direct_at, direct_from, base_of, edges_of, others_at, Below, ModuleReads, WithMore, Holding, WithEdges}
use Rattle.resolution.proofs.row.Laws.{holds-out}
use Rattle.std.specs.Prelude.{Some, None}
use Rattle.records.specs.declared.record.Span.{Span}

-- ---- the member of a name

module _ (l : List Name) (ws : List ℕ) (n : Name) (f : Found) (e : f ≡ find_name l n 0) where
  pub member-held : (i : ℕ) (h : Bool) → f ≡ Some i → h ≡ holds ws i → h ≡ true → Some i ≡ member_of ws (find_name l n 0)
  unfolding member_of
  member-held i h ei eh t = sym (ap (member_of ws) (sym e ∙ ei) ∙ rw (← eh, t))

  pub member-other : (i : ℕ) (h : Bool) → f ≡ Some i → h ≡ holds ws i → h ≡ false → None ≡ member_of ws (find_name l n 0)
  unfolding member_of
  member-other i h ei eh t = sym (ap (member_of ws) (sym e ∙ ei) ∙ rw (← eh, t))

  pub member-none : f ≡ None → None ≡ member_of ws (find_name l n 0)
  unfolding member_of
  member-none en = sym (ap (member_of ws) (sym e ∙ en))

pub ruleset member-laws = (member-held, member-other, member-none)

-- a member stands below 512
held_below : (ws : List ℕ) (i : ℕ) → length ws ≡ 8 → holds ws i ≡ true → i < 512
held_below ws i n h = by (ltb i 512) (λ t. ltb-true i 512 t) (λ t. true≠false h (holds-out ws i n (ltb-false i 512 t)))

pub member_below : (ws : List ℕ) (f r : Found) → length ws ≡ 8 → r ≡ member_of ws f → Below r
unfolding member_of Below
member_below ws (Some i) r n e = by (holds ws i)
    (λ h. let q : r ≡ Some i = e ∙ rw h in subst Below (sym q) (held_below ws i n h))
    (λ h. let q : r ≡ None = e ∙ rw h in subst Below (sym q) tt)
member_below ws None r n e = subst Below (sym e) tt

pub at-below : (r : Found) (i : ℕ) → Below r → r ≡ Some i → i < 512
unfolding Below
at-below r i b e = subst Below e b

-- ---- the member of a requirement's name

pub member-base : (l : List Name) (ws : List ℕ) (n : Name) (base : Found) (q : Bool) → base ≡ member_of ws (find_name l java_base 0) → q ≡ same_bytes n java_base
    → q ≡ true → base ≡ member_of ws (find_name l n 0)
member-base l ws n base q e eq y = e ∙ ap (λ (z : Name). member_of ws (find_name l z 0)) (sym (same-eq n java_base (sym eq ∙ y)))

pub ruleset required-member-laws = (member-base)

-- ---- the edges of a requirement

module _ (l : List Name) (ws body : List ℕ) (n : Name) (en : n ≡ (requirement_of body).name) (f : Found) (ef : f ≡ member_of ws (find_name l n 0)) (p : ℕ) (before : List ℕ) where
  counted : (only : Bool) (after : List ℕ) → (not only || (requirement_of body).transitive) ≡ true → WithEdges before (edges_of p (is_at f)) after
      → WithEdges before (edges_of p (is_required l ws only (requirement_of body))) after
  unfolding is_required is_named edges_of
  counted only after y w = record { each = λ i j. w.each i j ∙ rw (y, ← en, ← ef); ninths = w.ninths }

  pub with_all : (after : List ℕ) → WithEdges before (edges_of p (is_at f)) after → WithEdges before (edges_of p (is_required l ws false (requirement_of body))) after
  with_all after w = counted false after refl w

  module _ (t : Bool) (et : t ≡ (requirement_of body).transitive) where
    pub with_transitive : (after : List ℕ) → t ≡ true → WithEdges before (edges_of p (is_at f)) after → WithEdges before (edges_of p (is_required l ws true (requirement_of body))) after
    with_transitive after y w = counted true after (sym et ∙ y) w

    pub with-plain : t ≡ false → WithEdges before (edges_of p (is_required l ws true (requirement_of body))) before
    unfolding is_required edges_of
    with-plain y = record { each = λ i j. rw (← et, y, and-false (eqb i p)) (sym (or-false (edge before i j))); ninths = λ k. refl }

pub ruleset requirement-laws = (with_all, with_transitive, with-plain, member_below)

-- ---- the edges of all requirements of a block

either : (a b c : Bool) → a && (b || c) ≡ (a && b) || (a && c)
either true b c = refl
either false b c = refl

-- g has those of the requirements in front of `at` more
pub record RequiredAt (l : List Name) (ws : List ℕ) (only : Bool) (b : List ℕ) (p : ℕ) (before g : List ℕ) (at : ℕ) : Type 0 where
  pub within : at ≤ length b
  pub long : length g ≡ 4608
  pub left : (i j : ℕ) → edge before i j || edges_of p (required_at l ws only (map requirement_of (bodies Kind.Requires b))) i j
      ≡ edge g i j || edges_of p (required_at l ws only (map requirement_of (bodies Kind.Requires (drop at b)))) i j
  pub ninths : (k : ℕ) → ninth g k ≡ ninth before k

required-start : (l : List Name) (ws : List ℕ) (only : Bool) (b : List ℕ) (p : ℕ) (g : List ℕ) → length g ≡ 4608 → RequiredAt l ws only b p g g 0
required-start l ws only b p g n = record { within = omega arith; long = n; left = λ i j. refl; ninths = λ k. refl }

module _ (l : List Name) (ws : List ℕ) (only : Bool) (b : List ℕ) (p : ℕ) (before g : List ℕ) (at : ℕ) (h : RequiredAt l ws only b p before g at) (r : Next) (er : r ≡ next_of Kind.Requires b at) where
  required-next : (start len : ℕ) (next : Cursor) → r ≡ Some (record { start = start; len = len; next = next }) → (body after : List ℕ) → body ≡ take len (drop start b) → length after ≡ length g
      → WithEdges g (edges_of p (is_required l ws only (requirement_of body))) after → RequiredAt l ws only b p before after next.at
  unfolding required_at any edges_of
  required-next start len next e body after eb n w = record {
    within = next-room Kind.Requires b at r er start len next e h.within;
    long = n ∙ h.long;
    left = λ i j. h.left i j ∙ rw (bodies-next Kind.Requires b at r er start len next e h.within, ← eb, w.each i j)
        (ap (λ (z : Bool). edge g i j || z) (either (eqb i p) (is_required l ws only (requirement_of body) j) (rest j))
        ∙ sym (or_assoc (edge g i j) (eqb i p && is_required l ws only (requirement_of body) j) (eqb i p && rest j)));
    ninths = λ k. w.ninths k ∙ h.ninths k;
  }
    where
      rest : ℕ → Bool
      rest j = required_at l ws only (map requirement_of (bodies Kind.Requires (drop next.at b))) j

  pub required-end : r ≡ None → WithEdges before (edges_of p (required_at l ws only (descriptor_of b).requires)) g
  unfolding descriptor_of required_at any edges_of
  required-end e = record { each = λ i j. sym (h.left i j ∙ rw (bodies-end Kind.Requires b at r er e, and-false (eqb i p)) (or-false (edge g i j))); ninths = h.ninths }

-- the graph and the rows do, each for the requirements that count for it
pub record BothAt (l : List Name) (ws b : List ℕ) (p : ℕ) (g₀ rows₀ g rows : List ℕ) (at : ℕ) : Type 0 where
  pub only : RequiredAt l ws true b p g₀ g at
  pub every : RequiredAt l ws false b p rows₀ rows at

pub both-start : (l : List Name) (ws b : List ℕ) (p : ℕ) (g rows : List ℕ) → length g ≡ 4608 → length rows ≡ 4608 → BothAt l ws b p g rows g rows 0
both-start l ws b p g rows n m = record { only = required-start l ws true b p g n; every = required-start l ws false b p rows m }

module _ (l : List Name) (ws b : List ℕ) (p : ℕ) (g₀ rows₀ g rows : List ℕ) (at : ℕ) (h : BothAt l ws b p g₀ rows₀ g rows at) where
  pub both-graph : length g ≡ 4608
  both-graph = h.only.long

  pub both-rows : length rows ≡ 4608
  both-rows = h.every.long

  module _ (r : Next) (er : r ≡ next_of Kind.Requires b at) where
    module _ (span : Span) (e : r ≡ Some span) where
      pub both-next : (body g₂ rows₂ : List ℕ) → body ≡ take span.len (drop span.start b) → length g₂ ≡ length g → length rows₂ ≡ length rows
          → WithEdges g (edges_of p (is_required l ws true (requirement_of body))) g₂ → WithEdges rows (edges_of p (is_required l ws false (requirement_of body))) rows₂
          → BothAt l ws b p g₀ rows₀ g₂ rows₂ span.next.at
      both-next body g₂ rows₂ eb n m w v = record {
        only = required-next l ws true b p g₀ g at h.only r er span.start span.len span.next e body g₂ eb n w;
        every = required-next l ws false b p rows₀ rows at h.every r er span.start span.len span.next e body rows₂ eb m v;
      }

      pub both-less : length b - span.next.at < length b - at
      both-less = next-less Kind.Requires b at r er span.start span.len span.next e h.every.within

    pub graph-all : r ≡ None → WithEdges g₀ (edges_of p (required_at l ws true (descriptor_of b).requires)) g
    graph-all e = required-end l ws true b p g₀ g at h.only r er e

    pub rows_all : r ≡ None → WithEdges rows₀ (edges_of p (required_at l ws false (descriptor_of b).requires)) rows
    rows_all e = required-end l ws false b p rows₀ rows at h.every r er e

pub ruleset requirements_laws = (both-start, both-graph, both-rows, both-next, both-less, graph-all, rows_all)

-- ---- all members but one

-- those below k are looked at
pub record OthersAt (row ws : List ℕ) (p : ℕ) (out : List ℕ) (k : ℕ) : Type 0 where
  pub within : k ≤ 512
  pub so_far : (j : ℕ) → holds out j ≡ holds row j || (others_at ws p j && ltb j k)

pub others-start : (row ws : List ℕ) (p : ℕ) → OthersAt row ws p row 0
others-start row ws p = record {
  within = omega arith;
  so_far = λ j. sym (rw (le-ltb j 0 (omega arith)) (ap (λ (t : Bool). holds row j || t) (and-false (others_at ws p j)) ∙ or-false (holds row j)));
}

-- the test moves by one
below_suc : (j k : ℕ) → ltb j (k + 1) ≡ ltb j k || eqb j k
below_suc j k = by (ltb j k)
    (λ h. rw (h, lt-ltb j (k + 1) (omega (arith, ltb-true j k h))))
    (λ h. by (eqb j k)
    (λ q. rw (h, q, lt-ltb j (k + 1) (omega (arith, eqb-true j k q))))
    (λ q. rw (h, q, le-ltb j (k + 1) (beyond (ltb-false j k h) (eqb-false j k q)))))
  where
    beyond : k ≤ j → (j ≡ k → ⊥) → k + 1 ≤ j
    beyond a b = ⊎_elim (λ (e : k ≡ j). absurd (b (sym e))) (λ l. omega arith) (eq-or-lt_of_le a)

module _ (row ws : List ℕ) (p : ℕ) (out : List ℕ) (k : ℕ) (h : OthersAt row ws p out k) (l : k < 512) where
  -- k is not to be added
  skip : others_at ws p k ≡ false → OthersAt row ws p out (k + 1)
  skip z = record {
    within = omega arith;
    so_far = λ j. h.so_far j ∙ ap (λ (t : Bool). holds row j || t) (by (eqb j k)
        (λ q. let i : j ≡ k = eqb-true j k q in let y : others_at ws p j ≡ false = subst (λ (x : ℕ). others_at ws p x ≡ false) (sym i) z in rw y)
        (λ q. rw (below_suc j k, q, or-false (ltb j k))));
  }

  pub others-own : k ≡ p → OthersAt row ws p out (k + 1)
  unfolding others_at
  others-own e = skip (rw (eq-eqb k p e) (and-false (holds ws k)))

  pub others-not : (t : Bool) → t ≡ holds ws k → t ≡ false → OthersAt row ws p out (k + 1)
  unfolding others_at
  others-not t et f = skip (rw (← et, f))

  pub others-more : (t : Bool) (after : List ℕ) → (k ≡ p → ⊥) → t ≡ holds ws k → t ≡ true → Added out k after → OthersAt row ws p after (k + 1)
  unfolding others_at
  others-more t after ne et y a = record {
    within = omega arith;
    so_far = λ j. a.below l j ∙ rw (h.so_far j, below_suc j k) (by (eqb j k)
        (λ q. let i : j ≡ k = eqb-true j k q in
        let w : holds ws j ≡ true = subst (λ (x : ℕ). holds ws x ≡ true) (sym i) (sym et ∙ y) in
        let o : eqb j p ≡ false = ne_eqb j p (λ z. ne (sym i ∙ z)) in
        rw (q, w, o) (or_assoc (holds row j) (ltb j k) true))
        (λ q. rw (q, or-false (ltb j k)) (or-false (holds row j || (holds ws j && not (eqb j p)) && ltb j k))));
  }

pub others-end : (row ws : List ℕ) (p : ℕ) (out : List ℕ) (k : ℕ) → OthersAt row ws p out k → length ws ≡ 8 → 512 ≤ k → WithMore row (others_at ws p) out
unfolding others_at
others-end row ws p out k h n l = record {
  each = λ j. h.so_far j ∙ ap (λ (t : Bool). holds row j || t) (by (holds ws j)
      (λ y. rw (y, lt-ltb j k (omega (arith, held_below ws j n y))) (and-true (not (eqb j p))))
      (λ y. rw y));
}

pub ruleset others-laws = (others-start, others-own, others-not, others-more, others-end)

-- ---- the edge to java.base

module _ (b : List ℕ) (n : Name) (en : n ≡ (descriptor_of b).name) (q : Bool) (eq : q ≡ same_bytes n java_base) (base : Found) (p : ℕ) (rows : List ℕ) where
  pub base-own : q ≡ true → WithEdges rows (edges_of p (base_of (descriptor_of b) base)) rows
  unfolding base_of edges_of
  base-own z = record { each = λ i j. rw (← en, ← eq, z, and-false (eqb i p)) (sym (or-false (edge rows i j))); ninths = λ k. refl }

  pub base-other : (after : List ℕ) → q ≡ false → WithEdges rows (edges_of p (is_at base)) after → WithEdges rows (edges_of p (base_of (descriptor_of b) base)) after
  unfolding base_of edges_of
  base-other after z w = record { each = λ i j. w.each i j ∙ rw (← en, ← eq, z); ninths = w.ninths }

pub ruleset base-laws = (base-own, base-other)

-- ---- what a module reads directly

module _ (l : List Name) (ws s t : List ℕ) (p : ℕ) (b : List ℕ) (eb : b ≡ block_at s t p) where
  pub transitive_block : (g after : List ℕ) → WithEdges g (edges_of p (required_at l ws true (descriptor_of b).requires)) after
      → WithEdges g (edges_of p (required_at l ws true (descriptor_of (block_at s t p)).requires)) after
  transitive_block g after w = subst (λ (x : List ℕ). WithEdges g (edges_of p (required_at l ws true (descriptor_of x).requires)) after) eb w

  pub direct-both : (base : Found) (rows between after : List ℕ) → base ≡ member_of ws (find_name l java_base 0)
      → WithEdges rows (edges_of p (required_at l ws false (descriptor_of b).requires)) between → WithEdges between (edges_of p (base_of (descriptor_of b) base)) after
      → WithEdges rows (edges_of p (direct_at l ws (descriptor_of (block_at s t p)))) after
  unfolding direct_at is_named base_of edges_of
  direct-both base rows between after e w v = record {
    each = λ i j. v.each i j ∙ rw (← eb, ← e, w.each i j)
        (or_assoc (edge rows i j) (eqb i p && required_at l ws false (descriptor_of b).requires j) (eqb i p && (not (same_bytes (descriptor_of b).name java_base) && is_at base j))
        ∙ ap (λ (x : Bool). edge rows i j || x) (sym (either (eqb i p) (required_at l ws false (descriptor_of b).requires j) (not (same_bytes (descriptor_of b).name java_base) && is_at base j))));
    ninths = λ k. v.ninths k ∙ w.ninths k;
  }

pub ruleset direct-laws = (transitive_block, direct-both, member_below)

-- ---- the rows of a module

module _ (l : List Name) (ws : List ℕ) (s t : List ℕ) (p : ℕ) (h : Bool) (eh : h ≡ holds ws p) where
  module _ (g b direct reached : List ℕ) (y : h ≡ true) (eb : b ≡ block_at s t p) (hd : Holding direct (direct_from l ws (holds ws p) (descriptor_of (block_at s t p))))
      (hr : ReachedFrom g direct reached) (a : Bool) (ea : a ≡ (descriptor_of b).is_automatic) where
    both : (out : ℕ → Bool) → ((j : ℕ) → out j ≡ holds reached j || (a && others_at ws p j)) → ModuleReads l ws g (descriptor_of (block_at s t p)) p out
    unfolding direct_from
    both out w = record {
      member = λ z. record {
        direct = direct;
        reached = reached;
        direct_is = λ j. hd.each j ∙ rw z;
        reached_is = hr;
        all = λ j. w j ∙ ap (λ (x : Bool). holds reached j || (x && others_at ws p j)) (ea ∙ ap (λ (z : List ℕ). (descriptor_of z).is_automatic) eb);
      };
      other = λ f. true≠false (sym eh ∙ y) f;
    }

    pub read-automatic : (out : List ℕ) → a ≡ true → WithMore reached (others_at ws p) out → ModuleReads l ws g (descriptor_of (block_at s t p)) p (holds out)
    read-automatic out ta w = both (holds out) (λ j. w.each j ∙ rw ta)

    pub read_plain : a ≡ false → ModuleReads l ws g (descriptor_of (block_at s t p)) p (holds reached)
    read_plain fa = both (holds reached) (λ j. rw fa (sym (or-false (holds reached j))))

  pub read_none : (g out : List ℕ) → h ≡ false → Empty out → ModuleReads l ws g (descriptor_of (block_at s t p)) p (holds out)
  read_none g out f e = record { member = λ y. true≠false y (sym eh ∙ f); other = λ _ j. e.none j }

pub ruleset read-row-laws = (read-automatic, read_plain, read_none)
