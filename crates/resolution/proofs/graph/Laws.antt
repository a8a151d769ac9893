-- One edge more: to a position in the row of its source, or to ALL-UNNAMED in the ninth word.
use mathlib.Core.Path.{◌≡◌, refl, sym, ap, ◌∙◌, subst}
use mathlib.Core.Bool.{Bool, true, false, ◌||◌, or-false, or-true, and-false, and-true}
use mathlib.Core.List.{List}
use Prim.Native.Nat.{ℕ, ◌+◌, ◌*◌, ◌-◌, ◌/◌, ◌%◌, ◌^◌, ◌≤◌, ◌<◌}
use native.Mathlib.Omega.{arith}
use lib.Bits.{bit_or}
use lib.Dec.{eqb, ltb}
use lib.ListN.{length, get_or, take, drop, set, length-drop}
use lib.Seq.{length-take-le, get_or-take, get_or-drop, get_or-set_same, get_or-set_other}
use mir.Syntax.{w64}
use mir.Val.{Fits}
use borrow.Author.Tests.{eqb-true, eqb-false, ltb-true, ltb-false, lt-ltb}
use borrow.Rule.Slice.PartMut.{put_mid, set_mid_at}
use Rattle.records.specs.Bytes.{same_bytes}
use Rattle.records.specs.Name.{all_unnamed}
use Rattle.records.specs.Finder.{is_at}
use Rattle.records.specs.Finder.{Found}
use Rattle.resolution.specs.Lists.{Name}
use Rattle.records.proofs.Logic.{by}
use Rattle.resolution.specs.Configuration.{with_read}
use Rattle.resolution.specs.Row.{bit}
use Rattle.resolution.specs.Graph.{edge, ninth, unnamed_edge}
use Rattle.resolution.specs.Readability.{Below, edges_of, unnamed_from, WithEdges, WithUnnamed}
use Rattle.resolution.proofs.row.Bits.{bit-low, bit-or, bit-pow}
use Rattle.resolution.proofs.graph.Edges.{edge-is, edge-past, edge-added, edge-ninth}
use Rattle.resolution.proofs.readability.Laws.{at-below}
use Rattle.std.specs.Prelude.{Some, None}

-- where the row of a member starts, and where its ninth word stands, are numbers of 64 bits
module _ (source : Found) (i : ℕ) (b : Below source) (e : source ≡ Some i) where
  pub start_fits : Fits w64 (i * 9)
  start_fits = record { fits = omega (arith, at-below source i b e) }

  pub ninth-fits : Fits w64 (i * 9 + 8)
  ninth-fits = record { fits = omega (arith, at-below source i b e) }

pub ruleset fits-laws = (start_fits, ninth-fits)

-- ---- an AR to ALL-UNNAMED

-- the ninth word of a row is 1 now: no other ninth word, and no edge, changes
module _ (rows : List ℕ) (i : ℕ) (n : length rows ≡ 4608) (l : i < 512) where
  ninth-here : ninth (set rows (i * 9 + 8) 1) i ≡ 1
  unfolding ninth
  ninth-here = get_or-set_same rows (i * 9 + 8) 1 0 (omega arith)

  ninth-other : (k : ℕ) → (k ≡ i → ⊥) → ninth (set rows (i * 9 + 8) 1) k ≡ ninth rows k
  unfolding ninth
  ninth-other k ne = get_or-set_other rows (i * 9 + 8) (k * 9 + 8) 1 0 (λ e. ne (omega arith))

  bits-here : (k : ℕ) → unnamed_edge (set rows (i * 9 + 8) 1) k ≡ unnamed_edge rows k || eqb k i
  unfolding unnamed_edge
  bits-here k = by (eqb k i)
      (λ q. rw q (ap (λ (w : ℕ). bit w 0) (ap (ninth (set rows (i * 9 + 8) 1)) (eqb-true k i q) ∙ ninth-here) ∙ bit-low 1 ∙ sym (or-true (bit (ninth rows k) 0))))
      (λ q. rw q (ap (λ (w : ℕ). bit w 0) (ninth-other k (eqb-false k i q)) ∙ sym (or-false (bit (ninth rows k) 0))))

  small-here : (k : ℕ) → ninth rows k ≤ 1 → ninth (set rows (i * 9 + 8) 1) k ≤ 1
  small-here k s = by (eqb k i)
      (λ q. omega (arith, ap (ninth (set rows (i * 9 + 8) 1)) (eqb-true k i q), ninth-here))
      (λ q. omega (arith, ninth-other k (eqb-false k i q)))

  edges-here : (a b : ℕ) → edge (set rows (i * 9 + 8) 1) a b ≡ edge rows a b
  edges-here a b = by (ltb b 512)
      (λ h. let k : b < 512 = ltb-true b 512 h in
      edge-is (set rows (i * 9 + 8) 1) a b k ∙ ap (λ (w : ℕ). bit w (b % 64)) (get_or-set_other rows (i * 9 + 8) (a * 9 + b / 64) 1 0 (λ e. omega arith)) ∙ sym (edge-is rows a b k))
      (λ h. let k : 512 ≤ b = ltb-false b 512 h in edge-past (set rows (i * 9 + 8) 1) a b k ∙ sym (edge-past rows a b k))

unnamed-same : (rows : List ℕ) (more : ℕ → Bool) → ((k : ℕ) → more k ≡ false) → WithUnnamed rows more rows
unnamed-same rows more h = record { each = λ k. rw (h k) (sym (or-false (unnamed_edge rows k))); small = λ k s. s; edges = λ i j. refl }

module _ (source : Found) (target : Name) (rows : List ℕ) (t : Bool) (et : t ≡ same_bytes target all_unnamed) where
  pub unnamed-at : (i : ℕ) → length rows ≡ 4608 → Below source → source ≡ Some i → t ≡ true → WithUnnamed rows (unnamed_from source target) (set rows (i * 9 + 8) 1)
  unfolding unnamed_from is_at
  unnamed-at i n b e y = record {
    each = λ k. bits-here rows i n (at-below source i b e) k ∙ rw (e, ← et, y) (ap (λ (z : Bool). unnamed_edge rows k || z) (sym (and-true (eqb k i))));
    small = small-here rows i n (at-below source i b e);
    edges = edges-here rows i n (at-below source i b e);
  }

  pub unnamed-nothing : source ≡ None → WithUnnamed rows (unnamed_from source target) rows
  unfolding unnamed_from is_at
  unnamed-nothing e = unnamed-same rows (unnamed_from source target) (λ k. rw e)

  pub unnamed-other : t ≡ false → WithUnnamed rows (unnamed_from source target) rows
  unfolding unnamed_from
  unnamed-other f = unnamed-same rows (unnamed_from source target) (λ k. rw (← et, f) (and-false (is_at source k)))

pub unnamed-inside : (rows : List ℕ) (source : Found) (i : ℕ) → length rows ≡ 4608 → Below source → source ≡ Some i → i * 9 + 8 < length rows
unnamed-inside rows source i n b e = omega (arith, n, at-below source i b e)

pub ruleset unnamed-laws = (fits-laws, unnamed-at, unnamed-nothing, unnamed-other, unnamed-inside, at-below)

-- ---- an edge: the row of its source is lent

module _ (i : ℕ) (target : Found) (before : List ℕ) (n : length before ≡ 4608) (li : i < 512) where
  row-lent : (j : ℕ) (row : List ℕ) → Below target → target ≡ Some j → row ≡ with_read (take 8 (drop (i * 9) before)) j
      → WithEdges before (edges_of i (is_at target)) (put_mid (i * 9) 8 before row)
  unfolding edges_of is_at with_read
  row-lent j row c f r =
      subst (WithEdges before (edges_of i (is_at target))) (sym stored) (record {
        each = λ x y. edge-added before i j v lj (omega (arith, n, li, lj)) (bit-with-at w (j % 64)) x y ∙ rw f;
        ninths = λ k. edge-ninth before i j v k lj;
      })
    where
      lj : j < 512
      lj = at-below target j c f

      w : ℕ
      w = get_or before (i * 9 + j / 64) 0

      v : ℕ
      v = bit_or w (2 ^ (j % 64))

      bit-with-at : (x p k : ℕ) → bit (bit_or x (2 ^ p)) k ≡ bit x k || eqb k p
      bit-with-at x p k = bit-or x (2 ^ p) k ∙ ap (λ (z : Bool). bit x k || z) (bit-pow p k)

      part : List ℕ
      part = take 8 (drop (i * 9) before)

      part-word : get_or part (j / 64) 0 ≡ w
      part-word = get_or-take 8 (drop (i * 9) before) (j / 64) 0 (omega (arith, lj)) ∙ get_or-drop (i * 9) before (j / 64) 0

      part-long : length part ≡ 8
      part-long = length-take-le 8 (drop (i * 9) before) (omega (arith, length-drop (i * 9) before, n, li))

      row_is : row ≡ set part (j / 64) v
      row_is = r ∙ rw (lt-ltb j 512 lj, part-word)

      stored : put_mid (i * 9) 8 before row ≡ set before (i * 9 + j / 64) v
      stored = ap (put_mid (i * 9) 8 before) row_is ∙ set_mid_at (i * 9) 8 (j / 64) before v (omega (arith, part-long, lj))

  pub edge_at : (j : ℕ) (row : List ℕ) → Below target → target ≡ Some j → row ≡ with_read (take (i * 9 + 8 - i * 9) (drop (i * 9) before)) j
      → WithEdges before (edges_of i (is_at target)) (put_mid (i * 9) (i * 9 + 8 - i * 9) before row)
  edge_at j row c f r =
      let z : i * 9 + 8 - i * 9 ≡ 8 = omega arith in
      subst (λ (k : ℕ). WithEdges before (edges_of i (is_at target)) (put_mid (i * 9) k before row)) (sym z)
      (row-lent j row c f (subst (λ (k : ℕ). row ≡ with_read (take k (drop (i * 9) before)) j) z r))

  pub edge-inside : i * 9 + 8 ≤ length before
  edge-inside = omega (arith, n, li)

pub edge-nothing : (i : ℕ) (target : Found) (before : List ℕ) → target ≡ None → WithEdges before (edges_of i (is_at target)) before
unfolding edges_of is_at
edge-nothing i target before e = record { each = λ x y. rw (e, and-false (eqb x i)) (sym (or-false (edge before x y))); ninths = λ k. refl }

pub row-start-fits : (i : ℕ) → i < 512 → Fits w64 (i * 9)
row-start-fits i l = record { fits = omega arith }

pub row-end-fits : (i : ℕ) → i < 512 → Fits w64 (i * 9 + 8)
row-end-fits i l = record { fits = omega arith }

pub row-bytes-fit : (i : ℕ) → i < 512 → Fits w64 (i * 9 * 8)
row-bytes-fit i l = record { fits = omega arith }

pub ruleset set-edge-laws = (row-start-fits, row-end-fits, row-bytes-fit, edge_at, edge-inside, edge-nothing, at-below)
