-- The theorem of `read_edges`: the rows and the overrides by positions are `edge_at` and `unnamed_at`.
use mathlib.Core.Path.{◌≡◌, refl, sym, ap, ap₂, ◌∙◌, subst}
use Prim.Native.Nat.{ℕ, ◌<◌}
use native.Mathlib.Omega.{arith}
use mathlib.Core.Bool.{Bool, true, false, not, ◌&&◌, ◌||◌, cond}
use mathlib.Core.List.Memᴰ
use mathlib.Core.List.{List, [], ◌∷◌, map, flat_map}
use mathlib.Core.Logic.{⊎_elim}
use lib.Dec.{eqb}
use lib.ListN.{length, get_or, drop}
use borrow.Author.Tests.{eq-eqb, eqb-true, not-true}
use Rattle.records.specs.Bytes.{same_bytes}
use Rattle.records.specs.Name.{java_base, all_unnamed, mem_name, name_of, is_name_version}
use Rattle.records.specs.Record.{bodies, is_body, is_requires}
use Rattle.records.specs.Descriptor.{Requirement, Descriptor, requirement_of, descriptor_of}
use Rattle.records.specs.Request.{Read, Request, request_of, has_read}
use Rattle.records.specs.Set.{check_set, blocks, block_at, modules}
use Rattle.records.specs.declared.record.Kind.TheVariants as Kind
use Rattle.records.proofs.bytes.Laws.{same-eq, same_refl}
use Rattle.records.proofs.set.Blocks.{GoodSet, good-set}
use Rattle.records.proofs.set.Good.{good-requires}
use Rattle.records.proofs.Logic.{and_both, and_left, and_right, and_split, by, or_cases, or_left, or_right, true≠false}
use Rattle.resolution.specs.Lists.{Name, Mem, keep}
use Rattle.resolution.specs.Resolution.{names, has_module, index_of}
use Rattle.resolution.specs.Reads.{direct_reads, required_names, implied_reads, reads_from, reads}
use Rattle.resolution.specs.Positions.{module_at, is_visible}
use Rattle.resolution.specs.Row.{bit, holds}
use Rattle.resolution.specs.Graph.{edge, unnamed_edge}
use Rattle.resolution.specs.Resolve.{edge_at, unnamed_at}
use Rattle.resolution.specs.Readability.{table_names, is_named, transitive_at, others_at, MemberReads, read_at, unnamed_in, TransitiveGraph, ReadRows, ReadsAdded, Members, ReadEdges}
use Rattle.resolution.proofs.Closure.{closure-least}
use Rattle.resolution.proofs.Edges.{read_in, read_out, transitive_in}
use Rattle.resolution.proofs.Find.{has_some}
use Rattle.resolution.proofs.Lists.{any_in, any_out, flat_out, keep_out, map_in, map-out, mem_name_in, mem_name-out, →same}
use Rattle.resolution.proofs.Positions.{find_none, at_mem, index_at, visible_in}
use Rattle.resolution.proofs.Sets.{set-length, module_block}
use Rattle.resolution.proofs.row.Bits.{bit-zero}
use Rattle.resolution.proofs.readability.Resolved.{each_way, member-out, member_in, member_is, member-at, named-out, named_in, from_member, own-names, reached-out, reached-direct, reached_implied}
use Rattle.resolution.proofs.readability.Resolved as Resolved
use Rattle.std.specs.Prelude.{Ok}

module _ (s : List Descriptor) (free : mem_name all_unnamed (names s) ≡ false) (ws : List ℕ) (ms : List Descriptor) (h : Members s ws ms) (rq : Request) where
  abbrev name_at : ℕ → Name
  name_at j = (module_at s j).name

  -- the tests of `reads_from`, in their order
  abbrev tests : Descriptor → Name → Name → Bool
  tests m x y =
      mem_name y (direct_reads m)
      || (mem_name y (implied_reads ms m) || (has_read rq.add_reads x y || (m.is_automatic && (has_module ms y && not (same_bytes x y)))))

  -- no module has the name ALL-UNNAMED
  no_module : (j : ℕ) → j < length s → name_at j ≡ all_unnamed → ⊥
  no_module j l q = true≠false (mem_name_in (Memᴰ.cast (sym q) (map_in (λ (m : Descriptor). m.name) (at_mem s j l)))) free

  no_member : has_module ms all_unnamed ≡ false
  no_member = by (has_module ms all_unnamed)
      (λ y. let r = has_some all_unnamed ms y in
      let j = member-at s ws ms h all_unnamed r.0 r.1 in
      absurd (no_module j.0 (visible_in s j.0 (member-out s ws ms h j.0 j.1).0) j.2))
      (λ y. y)

  -- the module at i, where it is a member, is the source
  from-source : (i : ℕ) (y : Name) → holds ws i ≡ true → (has_module ms y || same_bytes y all_unnamed) && tests (module_at s i) (name_at i) y ≡ true → reads ms rq (name_at i) y ≡ true
  unfolding reads reads_from
  from-source i y e t = ap (reads_from ms rq (name_at i) y) (member_is s ws ms h i e) ∙ t

  source_of : (i : ℕ) (y : Name) → is_visible s i ≡ true → reads ms rq (name_at i) y ≡ true → (holds ws i ≡ true) × ((has_module ms y || same_bytes y all_unnamed) && tests (module_at s i) (name_at i) y ≡ true)
  unfolding reads reads_from
  source_of i y l e = by (has_module ms (name_at i))
      (λ k. let a : holds ws i ≡ true = member_in s ws ms h i l k in (a, sym (ap (reads_from ms rq (name_at i) y) (member_is s ws ms h i a)) ∙ e))
      (λ k. true≠false e (ap (reads_from ms rq (name_at i) y) (find_none (name_at i) ms k)))

  -- ---- an edge between members

  edge_true : (i j : ℕ) → holds ws i ≡ true → holds ws j ≡ true → tests (module_at s i) (name_at i) (name_at j) ≡ true → edge_at s rq ms i j ≡ true
  unfolding edge_at
  edge_true i j e f t =
      let a = member-out s ws ms h i e in
      let b = member-out s ws ms h j f in
      and_both a.0 (and_both b.0
      (from-source i (name_at j) e (and_both (or_left (has_module ms (name_at j)) (same_bytes (name_at j) all_unnamed) b.1) t)))

  edge-tests : (i j : ℕ) → edge_at s rq ms i j ≡ true → (holds ws i ≡ true) × (holds ws j ≡ true) × (tests (module_at s i) (name_at i) (name_at j) ≡ true)
  unfolding edge_at
  edge-tests i j e =
      let x : Bool = reads ms rq (name_at i) (name_at j) in
      let a = and_split (is_visible s i) (is_visible s j && x) e in
      let b = and_split (is_visible s j) x a.1 in
      let c = source_of i (name_at j) a.0 b.1 in
      let t : Bool = tests (module_at s i) (name_at i) (name_at j) in
      let o : has_module ms (name_at j) || same_bytes (name_at j) all_unnamed ≡ true = and_left (has_module ms (name_at j) || same_bytes (name_at j) all_unnamed) t c.1 in (
        c.0,
        or_cases (has_module ms (name_at j)) (same_bytes (name_at j) all_unnamed) o (λ k. member_in s ws ms h j b.0 k) (λ k. absurd (no_module j (visible_in s j b.0) (same-eq (name_at j) all_unnamed k))),
        and_right (has_module ms (name_at j) || same_bytes (name_at j) all_unnamed) t c.1,
      )

  -- two members have one name just if they are at one position
  same-position : (i j : ℕ) → holds ws i ≡ true → holds ws j ≡ true → not (eqb j i) ≡ not (same_bytes (name_at i) (name_at j))
  same-position i j e f = ap not (each_way (eqb j i) (same_bytes (name_at i) (name_at j))
      (λ k. subst (λ (x : ℕ). same_bytes (name_at i) (name_at x) ≡ true) (sym (eqb-true j i k)) (same_refl (name_at i)))
      (λ k. let q : name_at i ≡ name_at j = same-eq (name_at i) (name_at j) k in
      let a = index_at s i (member-out s ws ms h i e).0 in
      let b = index_at s j (member-out s ws ms h j f).0 in
      eq-eqb j i (sym b ∙ subst (λ (n : Name). index_of n s ≡ i) q a)))

  module _ (g rows after : List ℕ) (eg : (i j : ℕ) → edge g i j ≡ transitive_at (names s) ws (holds ws i) (module_at s i) j)
      (own : (i : ℕ) → holds ws i ≡ true → MemberReads (names s) ws g (module_at s i) i (λ j. edge rows i j))
      (other : (i : ℕ) → holds ws i ≡ false → (j : ℕ) → edge rows i j ≡ false)
      (more : (i j : ℕ) → edge after i j ≡ edge rows i j || read_at (names s) ws rq.add_reads i j) where
    module _ (i j : ℕ) where
      abbrev m : Descriptor
      m = module_at s i

      abbrev in_direct : Bool
      in_direct = mem_name (name_at j) (direct_reads m)

      abbrev in_implied : Bool
      in_implied = mem_name (name_at j) (implied_reads ms m)

      abbrev in_reads : Bool
      in_reads = has_read rq.add_reads (name_at i) (name_at j)

      abbrev in_all : Bool
      in_all = m.is_automatic && (has_module ms (name_at j) && not (same_bytes (name_at i) (name_at j)))

      row_out : edge rows i j ≡ true → edge_at s rq ms i j ≡ true
      unfolding others_at
      row_out e = by (holds ws i) (λ a. reading a (own i a)) (λ a. true≠false e (other i a j))
        where
          reading : holds ws i ≡ true → MemberReads (names s) ws g m i (λ x. edge rows i x) → edge_at s rq ms i j ≡ true
          reading a r = or_cases (holds r.reached j) (m.is_automatic && others_at ws i j) (sym (r.all j) ∙ e)
              (λ k. let o = reached-out s ws ms h g eg i r.direct r.reached r.direct_is r.reached_is j k in
              edge_true i j a o.0 (⊎_elim
              (λ q. or_left in_direct (in_implied || (in_reads || in_all)) (mem_name_in q))
              (λ q. or_right in_direct (in_implied || (in_reads || in_all)) (or_left in_implied (in_reads || in_all) (mem_name_in q))) o.1))
              (λ k. let c : holds ws j && not (eqb j i) ≡ true = and_right m.is_automatic (others_at ws i j) k in
              let b : holds ws j ≡ true = and_left (holds ws j) (not (eqb j i)) c in
              edge_true i j a b (or_right in_direct (in_implied || (in_reads || in_all)) (or_right in_implied (in_reads || in_all) (or_right in_reads in_all
              (and_both (and_left m.is_automatic (others_at ws i j) k) (and_both (member-out s ws ms h j b).1 (sym (same-position i j a b) ∙ and_right (holds ws j) (not (eqb j i)) c)))))))

      reads-out : read_at (names s) ws rq.add_reads i j ≡ true → edge_at s rq ms i j ≡ true
      unfolding read_at
      reads-out e =
          let a = any_out (λ (x : Read). is_named (names s) ws x.source i && is_named (names s) ws x.target j) rq.add_reads e in
          let x = named-out s ws ms h a.0.source i (and_left (is_named (names s) ws a.0.source i) (is_named (names s) ws a.0.target j) a.2) in
          let y = named-out s ws ms h a.0.target j (and_right (is_named (names s) ws a.0.source i) (is_named (names s) ws a.0.target j) a.2) in
          edge_true i j x.0 y.0 (or_right in_direct (in_implied || (in_reads || in_all)) (or_right in_implied (in_reads || in_all)
          (or_left in_reads in_all (read_in (name_at i) (name_at j) a.1 (sym x.1) (sym y.1)))))

      reads_in : holds ws i ≡ true → holds ws j ≡ true → in_reads ≡ true → read_at (names s) ws rq.add_reads i j ≡ true
      unfolding read_at
      reads_in e f k =
          let a = read_out rq.add_reads (name_at i) (name_at j) k in
          any_in (λ (x : Read). is_named (names s) ws x.source i && is_named (names s) ws x.target j) a.1
          (and_both (named_in s ws ms h a.0.source i e (sym a.2)) (named_in s ws ms h a.0.target j f (sym a.3)))

      pub edge-is : edge after i j ≡ edge_at s rq ms i j
      unfolding others_at
      edge-is = each_way (edge after i j) (edge_at s rq ms i j)
          (λ e. or_cases (edge rows i j) (read_at (names s) ws rq.add_reads i j) (sym (more i j) ∙ e) row_out reads-out)
          (λ e. let t = edge-tests i j e in more i j ∙ back t.0 t.1 (own i t.0) t.2)
        where
          back : holds ws i ≡ true → holds ws j ≡ true → MemberReads (names s) ws g m i (λ x. edge rows i x) → in_direct || (in_implied || (in_reads || in_all)) ≡ true
              → edge rows i j || read_at (names s) ws rq.add_reads i j ≡ true
          back a b r t =
              let row : holds r.reached j || (m.is_automatic && others_at ws i j) ≡ true → edge rows i j || read_at (names s) ws rq.add_reads i j ≡ true
              = λ k. or_left (edge rows i j) (read_at (names s) ws rq.add_reads i j) (r.all j ∙ k) in
              or_cases in_direct (in_implied || (in_reads || in_all)) t
              (λ k. row (or_left (holds r.reached j) (m.is_automatic && others_at ws i j)
              (reached-direct s ws ms h g eg i r.direct r.reached r.direct_is r.reached_is j b (mem_name-out (name_at j) (direct_reads m) k))))
              (λ u. or_cases in_implied (in_reads || in_all) u
              (λ k. row (or_left (holds r.reached j) (m.is_automatic && others_at ws i j)
              (reached_implied s ws ms h g eg i r.direct r.reached r.direct_is r.reached_is j b (mem_name-out (name_at j) (implied_reads ms m) k))))
              (λ v. or_cases in_reads in_all v
              (λ k. or_right (edge rows i j) (read_at (names s) ws rq.add_reads i j) (reads_in a b k))
              (λ k. let q = and_right m.is_automatic (has_module ms (name_at j) && not (same_bytes (name_at i) (name_at j))) k in
              row (or_right (holds r.reached j) (m.is_automatic && others_at ws i j)
              (and_both (and_left m.is_automatic (has_module ms (name_at j) && not (same_bytes (name_at i) (name_at j))) k)
              (and_both b (same-position i j a b ∙ and_right (has_module ms (name_at j)) (not (same_bytes (name_at i) (name_at j))) q)))))))

  -- ---- ALL-UNNAMED, which no module requires

  module _ (lacks : (i : ℕ) → i < length s → (r : Requirement) → Mem r (module_at s i).requires → r.name ≡ all_unnamed → ⊥) where
    not-base : all_unnamed ≡ java_base → ⊥
    not-base e = let z : ◌≡◌ {A = ℕ} 65 106 = ap (λ (l : List ℕ). get_or l 0 0) e in omega arith

    not-direct : (i : ℕ) → holds ws i ≡ true → Mem all_unnamed (direct_reads (module_at s i)) → ⊥
    unfolding direct_reads
    not-direct i e k = ⊎_elim
        (λ (p : Mem all_unnamed (cond (same_bytes (name_at i) java_base) [] (java_base ∷ []))). base (same_bytes (name_at i) java_base) p)
        (λ p. let r = map-out (λ (x : Requirement). x.name) (module_at s i).requires p in lacks i (visible_in s i (member-out s ws ms h i e).0) r.0 r.1 (sym r.2))
        (Memᴰ.append_cases (cond (same_bytes (name_at i) java_base) [] (java_base ∷ [])) k)
      where
        base : (b : Bool) → Mem all_unnamed (cond b [] (java_base ∷ [])) → ⊥
        base true p = Memᴰ.not-nil p
        base false p = ⊎_elim not-base (λ q. Memᴰ.not-nil q) (Memᴰ.cases_cons p)

    not-onward : (n : Name) → Mem all_unnamed (Resolved.onward s ws ms h n) → ⊥
    not-onward n q =
        let f = from_member s ws ms h n all_unnamed q in
        let l = subst (λ (x : List Name). Mem all_unnamed x) (ap (Resolved.onward s ws ms h) (sym f.2) ∙ own-names s ws ms h f.0 f.1) q in
        let r = map-out (λ (x : Requirement). x.name) (keep (λ (x : Requirement). x.transitive) (module_at s f.0).requires) l in
        lacks f.0 (visible_in s f.0 (member-out s ws ms h f.0 f.1).0) r.0 (keep_out (λ (x : Requirement). x.transitive) (module_at s f.0).requires r.1).0 (sym r.2)

    not_implied : (m : Descriptor) → Mem all_unnamed (implied_reads ms m) → ⊥
    unfolding implied_reads
    not_implied m k =
        closure-least (Resolved.onward s ws ms h) (required_names ms) (transitive_in ms) (λ n. n ≡ all_unnamed → ⊥)
        (λ n x c q e. not-onward n (Memᴰ.cast (sym e) q))
        (flat_map (Resolved.onward s ws ms h) (direct_reads m))
        (λ n q e. let a = flat_out (Resolved.onward s ws ms h) (direct_reads m) q in not-onward a.0 (Memᴰ.cast (sym e) a.2))
        all_unnamed k refl

    pub unnamed-is : (out : ℕ → Bool) → ((k : ℕ) → out k ≡ unnamed_in (names s) ws rq.add_reads k) → (k : ℕ) → out k ≡ unnamed_at s rq ms k
    unfolding unnamed_at unnamed_in
    unnamed-is out eo k = each_way (out k) (unnamed_at s rq ms k)
        (λ e. let a = any_out (λ (x : Read). is_named (names s) ws x.source k && same_bytes x.target all_unnamed) rq.add_reads (sym (eo k) ∙ e) in
        let x = named-out s ws ms h a.0.source k (and_left (is_named (names s) ws a.0.source k) (same_bytes a.0.target all_unnamed) a.2) in
        let y : a.0.target ≡ all_unnamed = same-eq a.0.target all_unnamed (and_right (is_named (names s) ws a.0.source k) (same_bytes a.0.target all_unnamed) a.2) in
        and_both (member-out s ws ms h k x.0).0
        (from-source k all_unnamed x.0 (and_both (or_right (has_module ms all_unnamed) (same_bytes all_unnamed all_unnamed) (same_refl all_unnamed))
        (or_right direct (implied || (in_reads || all)) (or_right implied (in_reads || all) (or_left in_reads all (read_in (name_at k) all_unnamed a.1 (sym x.1) y)))))))
        (λ e. let l = and_split (is_visible s k) (reads ms rq (name_at k) all_unnamed) e in
        let c = source_of k all_unnamed l.0 l.1 in
        eo k ∙ or_cases direct (implied || (in_reads || all)) (and_right (has_module ms all_unnamed || same_bytes all_unnamed all_unnamed) (tests (module_at s k) (name_at k) all_unnamed) c.1)
        (λ q. absurd (not-direct k c.0 (mem_name-out all_unnamed (direct_reads (module_at s k)) q)))
        (λ u. or_cases implied (in_reads || all) u
        (λ q. absurd (not_implied (module_at s k) (mem_name-out all_unnamed (implied_reads ms (module_at s k)) q)))
        (λ v. or_cases in_reads all v
        (λ q. let a = read_out rq.add_reads (name_at k) all_unnamed q in
        any_in (λ (x : Read). is_named (names s) ws x.source k && same_bytes x.target all_unnamed) a.1
        (and_both (named_in s ws ms h a.0.source k c.0 (sym a.2)) (→same (sym a.3))))
        (λ q. true≠false (and_left (has_module ms all_unnamed) (not (same_bytes (name_at k) all_unnamed)) (and_right (module_at s k).is_automatic (has_module ms all_unnamed && not (same_bytes (name_at k) all_unnamed)) q)) no_member))))
      where
        direct : Bool
        direct = mem_name all_unnamed (direct_reads (module_at s k))

        implied : Bool
        implied = mem_name all_unnamed (implied_reads ms (module_at s k))

        in_reads : Bool
        in_reads = has_read rq.add_reads (name_at k) all_unnamed

        all : Bool
        all = (module_at s k).is_automatic && (has_module ms all_unnamed && not (same_bytes (name_at k) all_unnamed))

-- ---- over bytes

module _ (s : List ℕ) (n : ℕ) (t : List ℕ) (e : check_set s ≡ Ok (record { count = n; starts = t })) where
  good : GoodSet s n t
  good = good-set s n t e

  -- no module of a set that the check takes requires ALL-UNNAMED
  pub never-required : (i : ℕ) → i < length (modules s) → (r : Requirement) → Mem r (module_at (modules s) i).requires → r.name ≡ all_unnamed → ⊥
  unfolding modules descriptor_of requirement_of is_body is_requires
  never-required i l r m q =
      let b = map-out descriptor_of (blocks s) (at_mem (modules s) i l) in
      let k : Mem r (map requirement_of (bodies Kind.Requires b.0)) = subst (λ (x : Descriptor). Mem r x.requires) b.2 m in
      let x = map-out requirement_of (bodies Kind.Requires b.0) k in
      let g = good-requires s n t e b.0 b.1 x.0 x.1 in
      let f : same_bytes (name_of (drop 2 x.0)) all_unnamed ≡ false
      = not-true (same_bytes (name_of (drop 2 x.0)) all_unnamed) (and_left (not (same_bytes (name_of (drop 2 x.0)) all_unnamed)) (is_name_version (drop 2 x.0)) g) in
      let y : name_of (drop 2 x.0) ≡ all_unnamed = sym (ap (λ (z : Requirement). z.name) x.2) ∙ q in
      true≠false (subst (λ (z : Name). same_bytes z all_unnamed ≡ true) (sym y) (same_refl all_unnamed)) f

  module _ (q ws g rows after : List ℕ) (hg : TransitiveGraph s t n ws g) (hr : ReadRows s t n ws g rows)
      (ha : ReadsAdded (table_names s t n) ws (request_of q).add_reads rows after) where
    -- no row has an edge to ALL-UNNAMED before the AR are added
    none_before : (k : ℕ) → unnamed_edge rows k ≡ false
    unfolding unnamed_edge
    none_before k = ap (λ (w : ℕ). bit w 0) (hr.ninths k) ∙ bit-zero 0

    pub read-edges_are : ReadEdges s q ws after
    read-edges_are = record {
      edges = λ ms h i j. edge-is (modules s) good.named ws ms h (request_of q) g rows after (graph ms h) (own ms h) (λ x f y. (hr.each x).other f y)
          (λ x y. ha.edges x y ∙ ap (λ (l : List Name). edge rows x y || read_at l ws (request_of q).add_reads x y) good.names) i j;
      named = λ ms h k. unnamed-is (modules s) good.named ws ms h (request_of q) never-required (unnamed_edge after)
          (λ x. ha.named x ∙ rw (none_before x) (ap (λ (l : List Name). unnamed_in l ws (request_of q).add_reads x) good.names)) k;
      small = λ k. ha.small k (omega (arith, hr.ninths k));
    }
      where
        -- the block of a member is that of its module
        block-of : (ms : List Descriptor) → Members (modules s) ws ms → (i : ℕ) → holds ws i ≡ true → descriptor_of (block_at s t i) ≡ module_at (modules s) i
        block-of ms h i y = sym (module_block s n t good i (subst (λ (x : ℕ). i < x) (set-length s n t good) (visible_in (modules s) i (member-out (modules s) ws ms h i y).0)))

        graph : (ms : List Descriptor) → Members (modules s) ws ms → (i j : ℕ) → edge g i j ≡ transitive_at (names (modules s)) ws (holds ws i) (module_at (modules s) i) j
        graph ms h i j = by (holds ws i)
            (λ y. hg.each i j ∙ ap₂ (λ (l : List Name) (m : Descriptor). transitive_at l ws (holds ws i) m j) good.names (block-of ms h i y))
            (λ f. hg.each i j ∙ unfold transitive_at in rw f)

        own : (ms : List Descriptor) → Members (modules s) ws ms → (i : ℕ) → holds ws i ≡ true → MemberReads (names (modules s)) ws g (module_at (modules s) i) i (λ j. edge rows i j)
        own ms h i y =
            subst (λ (l : List Name). MemberReads l ws g (module_at (modules s) i) i (λ j. edge rows i j)) good.names
            (subst (λ (m : Descriptor). MemberReads (table_names s t n) ws g m i (λ j. edge rows i j)) (block-of ms h i y) ((hr.each i).member y))
