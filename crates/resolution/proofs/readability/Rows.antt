-- The rows of the members, where they lie: each is written, first what its module reads directly, then all that it reads without AR.
use mathlib.Core.Path.{◌≡◌, refl, sym, ap, ◌∙◌, subst}
use mathlib.Core.Bool.{Bool, true, false, or-false}
use mathlib.Core.List.{List}
use Prim.Native.Nat.{ℕ, ◌+◌, ◌*◌, ◌≤◌, ◌<◌}
use native.Mathlib.Omega.{arith}
use lib.Dec.{ltb}
use lib.ListN.{length, get_or, replicate, length-replicate}
use borrow.Author.Tests.{eq-eqb, ne_eqb, ltb-true, ltb-false}
use Rattle.records.specs.Descriptor.{Descriptor, descriptor_of}
use Rattle.records.specs.Set.{block_at}
use Rattle.records.proofs.Logic.{true≠false, by}
use Rattle.resolution.specs.Lists.{Name}
use Rattle.resolution.specs.Row.{holds, NoneFrom, First}
use Rattle.resolution.specs.Graph.{edge, ninth, Successors}
use Rattle.resolution.specs.Readability.{table_names, required_at, direct_at, direct_from, transitive_at, edges_of, ModuleReads, Holding, WithEdges, RowSet, TransitiveGraph, DirectRows, ReadRows}
use Rattle.resolution.proofs.row.Laws.{holds-out, zero-at}
use Rattle.resolution.proofs.graph.Edges.{edge-out, edge-zeros}
use Rattle.resolution.proofs.graph.Rows.{below_next}

-- ---- the rows of the members in order

-- the rows below k are as wanted, the others still 0
pub record SetAt (want : ℕ → ℕ → Bool) (g : List ℕ) (k : ℕ) : Type 0 where
  pub within : k ≤ 512
  pub long : length g ≡ 4608
  pub so_far : (i : ℕ) → i < k → (j : ℕ) → edge g i j ≡ want i j
  pub later : (i : ℕ) → k ≤ i → (j : ℕ) → edge g i j ≡ false
  pub ninths : (i : ℕ) → ninth g i ≡ 0

-- nothing is wanted of a position that ws does not hold
module _ (want : ℕ → ℕ → Bool) (ws : List ℕ) (m : length ws ≡ 8) (none : (i j : ℕ) → holds ws i ≡ false → want i j ≡ false) where
  set-start : (g : List ℕ) → g ≡ replicate 4608 0 → SetAt want g 0
  unfolding ninth
  set-start g e = record {
    within = omega arith;
    long = ap length e ∙ length-replicate {A = ℕ} 4608 0;
    so_far = λ i z. absurd (omega arith);
    later = λ i z j. ap (λ (l : List ℕ). edge l i j) e ∙ edge-zeros 4608 i j;
    ninths = λ i. ap (λ (l : List ℕ). get_or l (i * 9 + 8) 0) e ∙ zero-at 4608 (i * 9 + 8);
  }

  module _ (g : List ℕ) (k : ℕ) (h : SetAt want g k) where
    -- also those between k and the next member
    passed : (p : ℕ) → ((i : ℕ) → k ≤ i → i < p → holds ws i ≡ false) → (i : ℕ) → i < p → (j : ℕ) → edge g i j ≡ want i j
    passed p n i l j = by (ltb i k)
        (λ q. h.so_far i (ltb-true i k q) j)
        (λ q. let o : k ≤ i = ltb-false i k q in h.later i o j ∙ sym (none i j (n i o l)))

    module _ (p : ℕ) (f : First (holds ws) k 512 p) where
      set_next : (pass : ℕ → Bool) (after : List ℕ) → length after ≡ length g → ((j : ℕ) → want p j ≡ pass j) → WithEdges g (edges_of p pass) after → SetAt want after (p + 1)
      unfolding edges_of
      set_next pass after n w r = record {
        within = omega (arith, f.below);
        long = n ∙ h.long;
        so_far = λ i z j. below_next p i z
            (λ e. subst (λ (x : ℕ). edge after x j ≡ want x j) (sym e) (r.each p j ∙ rw (h.later p f.from j, eq-eqb p p refl) (sym (w j))))
            (λ ne b. other i j ne ∙ passed p f.none i b j);
        later = λ i z j. other i j (λ e. omega arith) ∙ h.later i (omega (arith, f.from)) j;
        ninths = λ i. r.ninths i ∙ h.ninths i;
      }
        where
          other : (i j : ℕ) → (i ≡ p → ⊥) → edge after i j ≡ edge g i j
          other i j ne = r.each i j ∙ rw (ne_eqb i p ne) (or-false (edge g i j))

    set-none : NoneFrom (holds ws) k 512 → (i j : ℕ) → edge g i j ≡ want i j
    set-none f i j = by (ltb i 512)
        (λ q. passed 512 f.none i (ltb-true i 512 q) j)
        (λ q. let o : 512 ≤ i = ltb-false i 512 q in edge-out g i j h.long o ∙ sym (none i j (holds-out ws i m o)))

-- what row i is to hold
abbrev pub transitive_row : List ℕ → List ℕ → ℕ → List ℕ → ℕ → ℕ → Bool
transitive_row s t n ws i = transitive_at (table_names s t n) ws (holds ws i) (descriptor_of (block_at s t i))

abbrev pub direct_row : List ℕ → List ℕ → ℕ → List ℕ → ℕ → ℕ → Bool
direct_row s t n ws i = direct_from (table_names s t n) ws (holds ws i) (descriptor_of (block_at s t i))

transitive_none : (s t : List ℕ) (n : ℕ) (ws : List ℕ) (i j : ℕ) → holds ws i ≡ false → transitive_row s t n ws i j ≡ false
unfolding transitive_at
transitive_none s t n ws i j e = rw e

direct-none : (s t : List ℕ) (n : ℕ) (ws : List ℕ) (i j : ℕ) → holds ws i ≡ false → direct_row s t n ws i j ≡ false
unfolding direct_from
direct-none s t n ws i j e = rw e

pub record DirectAt (s t : List ℕ) (n : ℕ) (ws g rows : List ℕ) (k : ℕ) : Type 0 where
  pub members : length ws ≡ 8
  pub graph : SetAt (transitive_row s t n ws) g k
  pub direct : SetAt (direct_row s t n ws) rows k

pub zeros-long : (g : List ℕ) → g ≡ replicate 4608 0 → length g ≡ 4608
zeros-long g e = ap length e ∙ length-replicate {A = ℕ} 4608 0

pub same-long : (before g : List ℕ) → before ≡ replicate 4608 0 → length g ≡ 4608 → length g ≡ length before
same-long before g e n = n ∙ sym (zeros-long before e)

module _ (s t : List ℕ) (n : ℕ) (ws g rows : List ℕ) where
  pub direct-start : length ws ≡ 8 → g ≡ replicate 4608 0 → rows ≡ replicate 4608 0 → DirectAt s t n ws g rows 0
  direct-start m e f = record {
    members = m;
    graph = set-start (transitive_row s t n ws) ws m (transitive_none s t n ws) g e;
    direct = set-start (direct_row s t n ws) ws m (direct-none s t n ws) rows f;
  }

  module _ (k : ℕ) (h : DirectAt s t n ws g rows k) where
    pub direct-within : k ≤ 512
    direct-within = h.graph.within

    pub direct-long : length g ≡ 4608
    direct-long = h.graph.long

    pub direct-rows-long : length rows ≡ 4608
    direct-rows-long = h.direct.long

    module _ (p : ℕ) (f : First (holds ws) k 512 p) where
      pub direct-next : (g₂ rows₂ : List ℕ) → length g₂ ≡ length g → length rows₂ ≡ length rows
          → WithEdges g (edges_of p (required_at (table_names s t n) ws true (descriptor_of (block_at s t p)).requires)) g₂
          → WithEdges rows (edges_of p (direct_at (table_names s t n) ws (descriptor_of (block_at s t p)))) rows₂ → DirectAt s t n ws g₂ rows₂ (p + 1)
      unfolding transitive_at direct_from
      direct-next g₂ rows₂ m o x y = record {
        members = h.members;
        graph = set_next (transitive_row s t n ws) ws h.members (transitive_none s t n ws) g k h.graph p f
            (required_at (table_names s t n) ws true (descriptor_of (block_at s t p)).requires) g₂ m (λ j. rw f.found) x;
        direct = set_next (direct_row s t n ws) ws h.members (direct-none s t n ws) rows k h.direct p f
            (direct_at (table_names s t n) ws (descriptor_of (block_at s t p))) rows₂ o (λ j. rw f.found) y;
      }

    pub graph-none : NoneFrom (holds ws) k 512 → TransitiveGraph s t n ws g
    graph-none f = record { each = set-none (transitive_row s t n ws) ws h.members (transitive_none s t n ws) g k h.graph f }

    pub direct-done : NoneFrom (holds ws) k 512 → DirectRows s t n ws rows
    direct-done f = record { each = set-none (direct_row s t n ws) ws h.members (direct-none s t n ws) rows k h.direct f; ninths = h.direct.ninths }

pub ruleset set-direct-laws = (zeros-long, direct-start, direct-within, direct-long, direct-rows-long, direct-next, graph-none, direct-done)

-- ---- the rows of what is read

-- the rows below k are those, and the others are still what is read directly
pub record RowsAt (s t : List ℕ) (n : ℕ) (ws g rows : List ℕ) (k : ℕ) : Type 0 where
  pub members : length ws ≡ 8
  pub within : k ≤ 512
  pub long : length rows ≡ 4608
  pub so_far : (i : ℕ) → i < k → ModuleReads (table_names s t n) ws g (descriptor_of (block_at s t i)) i (λ j. edge rows i j)
  pub still : (i j : ℕ) → k ≤ i → edge rows i j ≡ direct_row s t n ws i j
  pub ninths : (i : ℕ) → ninth rows i ≡ 0

pub rows_start : (s t : List ℕ) (n : ℕ) (ws g rows : List ℕ) → length ws ≡ 8 → length rows ≡ 4608 → DirectRows s t n ws rows → RowsAt s t n ws g rows 0
rows_start s t n ws g rows m l d = record { members = m; within = omega arith; long = l; so_far = λ i z. absurd (omega arith); still = λ i j _. d.each i j; ninths = d.ninths }

same_reads : (l : List Name) (ws g : List ℕ) (m : Descriptor) (p : ℕ) (a b : ℕ → Bool) → ((j : ℕ) → b j ≡ a j) → ModuleReads l ws g m p a → ModuleReads l ws g m p b
same_reads l ws g m p a b e h = record {
  member = λ y. let r = h.member y in record {
    direct = r.direct;
    reached = r.reached;
    direct_is = r.direct_is;
    reached_is = r.reached_is;
    all = λ j. e j ∙ r.all j;
  };
  other = λ f j. e j ∙ h.other f j;
}

module _ (s t : List ℕ) (n : ℕ) (ws g rows : List ℕ) (k : ℕ) (h : RowsAt s t n ws g rows k) where
  pub rows-within : k ≤ 512
  rows-within = h.within

  pub rows_long : length rows ≡ 4608
  rows_long = h.long

  -- also those between k and the next member: they read nothing
  rows-passed : (p : ℕ) → ((i : ℕ) → k ≤ i → i < p → holds ws i ≡ false) → (i : ℕ) → i < p
      → ModuleReads (table_names s t n) ws g (descriptor_of (block_at s t i)) i (λ j. edge rows i j)
  rows-passed p none i l = by (ltb i k)
      (λ q. h.so_far i (ltb-true i k q))
      (λ q. let o : k ≤ i = ltb-false i k q in let e : holds ws i ≡ false = none i o l in record {
        member = λ y. true≠false y e;
        other = λ _ j. h.still i j o ∙ direct-none s t n ws i j e;
      })

  module _ (p : ℕ) (f : First (holds ws) k 512 p) where
    pub rows-direct : (row : List ℕ) → Successors rows p row → Holding row (direct_row s t n ws p)
    rows-direct row r = record { each = λ j. r.each j ∙ h.still p j f.from }

    pub rows_next : (row after : List ℕ) → length after ≡ length rows
        → ModuleReads (table_names s t n) ws g (descriptor_of (block_at s t p)) p (holds row) → RowSet rows p row after → RowsAt s t n ws g after (p + 1)
    rows_next row after m w r = record {
      members = h.members;
      within = omega (arith, f.below);
      long = m ∙ h.long;
      so_far = λ i z. below_next p i z
          (λ e. subst (λ (x : ℕ). ModuleReads (table_names s t n) ws g (descriptor_of (block_at s t x)) x (λ j. edge after x j)) (sym e)
          (same_reads (table_names s t n) ws g (descriptor_of (block_at s t p)) p (holds row) (λ j. edge after p j) (λ j. r.here j) w))
          (λ ne b. same_reads (table_names s t n) ws g (descriptor_of (block_at s t i)) i (λ j. edge rows i j) (λ j. edge after i j) (λ j. r.others i j ne) (rows-passed p f.none i b));
      still = λ i j z. r.others i j (λ e. omega arith) ∙ h.still i j (omega (arith, f.from));
      ninths = λ i. r.ninths i ∙ h.ninths i;
    }

  pub rows_none : NoneFrom (holds ws) k 512 → ReadRows s t n ws g rows
  rows_none f = record {
    each = λ i. by (ltb i 512)
        (λ q. rows-passed 512 f.none i (ltb-true i 512 q))
        (λ q. let o : 512 ≤ i = ltb-false i 512 q in record {
          member = λ y. true≠false y (holds-out ws i h.members o);
          other = λ _ j. edge-out rows i j h.long o;
        });
    ninths = h.ninths;
  }

pub ruleset rows-laws = (rows_start, rows-within, rows_long, rows-direct, rows_next, rows_none)
