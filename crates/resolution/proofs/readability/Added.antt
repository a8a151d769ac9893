-- The read edges of the request's AR.
use mathlib.Core.Path.{◌≡◌, refl, sym, ◌∙◌}
use mathlib.Core.Bool.{◌||◌, ◌&&◌, or-false, or_assoc}
use mathlib.Core.List.{List, map}
use Prim.Native.Nat.{ℕ, ◌-◌, ◌≤◌, ◌<◌}
use native.Mathlib.Omega.{arith}
use lib.ListN.{length, take, drop}
use Rattle.records.specs.Bytes.{same_bytes}
use Rattle.records.specs.Name.{all_unnamed, name_of, after_name}
use Rattle.records.specs.Record.{bodies, next_of}
use Rattle.records.specs.Request.{read_of, request_of}
use Rattle.records.specs.Finder.{find_name, is_at}
use Rattle.records.specs.Finder.{Found}
use Rattle.records.specs.Record.{Next}
use Rattle.records.specs.declared.record.Kind.TheVariants as Kind
use Rattle.records.proofs.record.Bodies.{bodies-next, bodies-end, next-room, next-less}
use Rattle.resolution.specs.Lists.{Name, any}
use Rattle.resolution.specs.Graph.{edge, ninth, unnamed_edge}
use Rattle.resolution.specs.Readability.{member_of, is_named, edges_of, edge_from, unnamed_from, read_at, unnamed_in, WithEdges, WithUnnamed, ReadAdded, ReadsAdded}
use Rattle.resolution.proofs.readability.Laws.{at-below, member_below}
use Rattle.std.specs.Prelude.{Some, None}
use Rattle.records.specs.declared.record.Span.{Span}

-- ---- an AR to a member

module _ (source target : Found) (before : List ℕ) where
  pub read_at_lem : (i : ℕ) (after : List ℕ) → source ≡ Some i → WithEdges before (edges_of i (is_at target)) after → WithEdges before (edge_from source target) after
  unfolding edge_from edges_of is_at
  read_at_lem i after e w = record { each = λ x y. w.each x y ∙ rw e; ninths = w.ninths }

  pub read-nothing : source ≡ None → WithEdges before (edge_from source target) before
  unfolding edge_from is_at
  read-nothing e = record { each = λ x y. rw e (sym (or-false (edge before x y))); ninths = λ k. refl }

pub ruleset set-read-laws = (read_at_lem, read-nothing, at-below)

-- one AR
pub add-one : (l : List Name) (ws body u x y : List ℕ) (from to : Found) (before between after : List ℕ)
    → x ≡ name_of body → u ≡ after_name body → y ≡ name_of u → from ≡ member_of ws (find_name l x 0) → to ≡ member_of ws (find_name l y 0)
    → WithEdges before (edge_from from to) between → WithUnnamed between (unnamed_from from y) after → ReadAdded l ws (read_of body) before after
unfolding is_named edge_from unnamed_from read_of unnamed_edge
add-one l ws body u x y from to before between after ex eu ey ef et v w = record {
  edges = λ i j. w.edges i j ∙ v.each i j ∙ rw (← ex, ← eu, ← ey, ← ef, ← et);
  named = λ k. w.each k ∙ rw (v.ninths k, ← ex, ← eu, ← ey, ← ef);
  small = λ k s. w.small k (omega (arith, v.ninths k));
}

pub ruleset add-one-laws = (add-one, member_below)

-- the AR in front of `at` are added
pub record AddAt (l : List Name) (ws q before after : List ℕ) (at : ℕ) : Type 0 where
  pub within : at ≤ length q
  pub long : length after ≡ 4608
  pub edges : (i j : ℕ) → edge before i j || read_at l ws (map read_of (bodies Kind.AddReads q)) i j
      ≡ edge after i j || read_at l ws (map read_of (bodies Kind.AddReads (drop at q))) i j
  pub named : (k : ℕ) → unnamed_edge before k || unnamed_in l ws (map read_of (bodies Kind.AddReads q)) k
      ≡ unnamed_edge after k || unnamed_in l ws (map read_of (bodies Kind.AddReads (drop at q))) k
  pub small : (k : ℕ) → ninth before k ≤ 1 → ninth after k ≤ 1

pub add_start : (l : List Name) (ws q before : List ℕ) → length before ≡ 4608 → AddAt l ws q before before 0
add_start l ws q before n = record { within = omega arith; long = n; edges = λ i j. refl; named = λ k. refl; small = λ k s. s }

module _ (l : List Name) (ws q before after : List ℕ) (at : ℕ) (h : AddAt l ws q before after at) where
  pub add-long : length after ≡ 4608
  add-long = h.long

  module _ (r : Next) (er : r ≡ next_of Kind.AddReads q at) where
    module _ (span : Span) (e : r ≡ Some span) where
      pub add-next : (body after₂ : List ℕ) → body ≡ take span.len (drop span.start q)
          → ReadAdded l ws (read_of body) after after₂ → length after₂ ≡ length after → AddAt l ws q before after₂ span.next.at
      unfolding read_at unnamed_in any
      add-next body after₂ eb w n = record {
        within = next-room Kind.AddReads q at r er span.start span.len span.next e h.within;
        long = n ∙ h.long;
        edges = λ i j. h.edges i j ∙ rw (bodies-next Kind.AddReads q at r er span.start span.len span.next e h.within, ← eb, w.edges i j)
            (sym (or_assoc (edge after i j) (is_named l ws (read_of body).source i && is_named l ws (read_of body).target j) (read_at l ws (map read_of (bodies Kind.AddReads (drop span.next.at q))) i j)));
        named = λ k. h.named k ∙ rw (bodies-next Kind.AddReads q at r er span.start span.len span.next e h.within, ← eb, w.named k)
            (sym (or_assoc (unnamed_edge after k) (is_named l ws (read_of body).source k && same_bytes (read_of body).target all_unnamed) (unnamed_in l ws (map read_of (bodies Kind.AddReads (drop span.next.at q))) k)));
        small = λ k s. w.small k (h.small k s);
      }

      pub add-less : length q - span.next.at < length q - at
      add-less = next-less Kind.AddReads q at r er span.start span.len span.next e h.within

    pub add-end : r ≡ None → ReadsAdded l ws (request_of q).add_reads before after
    unfolding request_of read_at unnamed_in any
    add-end e = record {
      edges = λ i j. sym (h.edges i j ∙ rw (bodies-end Kind.AddReads q at r er e) (or-false (edge after i j)));
      named = λ k. sym (h.named k ∙ rw (bodies-end Kind.AddReads q at r er e) (or-false (unnamed_edge after k)));
      small = h.small;
    }

pub ruleset add-laws = (add_start, add-long, add-next, add-less, add-end)
