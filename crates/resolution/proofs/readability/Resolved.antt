-- The edges by positions are the read edges of the definition: j is reached from what i reads directly, by transitive
-- requirements between members, exactly if the name of j is in `direct_reads` or `implied_reads` of the module at i.
use mathlib.Core.Path.{◌≡◌, refl, sym, ap, ◌∙◌, subst}
use Prim.Native.Nat.{ℕ, ◌+◌}
use native.Mathlib.Omega.{arith}
use mathlib.Core.Bool.{Bool, true, false, not, ◌&&◌, ◌||◌, cond}
use mathlib.Core.Option.{Option, none, some}
use mathlib.Core.List.Memᴰ
use mathlib.Core.List.{List, [], ◌∷◌, map, flat_map}
use mathlib.Core.Logic.{◌⊎◌, inl, inr, ⊎_elim}
use borrow.Author.Tests.{eq-eqb, eqb-true, not-true}
use Rattle.records.specs.Bytes.{same_bytes}
use Rattle.records.specs.Name.{java_base}
use Rattle.records.specs.Descriptor.{Requirement, Descriptor}
use Rattle.records.specs.Finder.{find_name, pick_found, is_at}
use Rattle.records.specs.Finder.{Found}
use Rattle.records.proofs.Logic.{and_both, and_left, and_right, and_split, by, or_cases, or_left, or_right, true≠false}
use Rattle.resolution.specs.Lists.{Name, Mem, keep}
use Rattle.resolution.specs.Resolution.{names, find, has_module, index_of}
use Rattle.resolution.specs.Reads.{direct_reads, transitive_names, transitive_of, required_names, implied_reads}
use Rattle.resolution.specs.Positions.{module_at, is_visible}
use Rattle.resolution.specs.Row.{holds}
use Rattle.resolution.specs.Graph.{edge, Reach, step, then, ReachedFrom}
use Rattle.resolution.specs.Resolve.{member_at}
use Rattle.resolution.specs.Readability.{member_of, is_named, is_required, required_at, direct_at, transitive_at, Members}
use Rattle.resolution.proofs.Closure.{closure-holds, closure-closed, closure-least}
use Rattle.resolution.proofs.Edges.{transitive_in}
use Rattle.resolution.proofs.Find.{find-mem, has-find, has_some}
use Rattle.resolution.proofs.Lists.{any_in, any_out, flat_in, flat_out, keep_in, keep_out, map_in, map-out}
use Rattle.resolution.proofs.Positions.{find_at, find-name, located, visible_located, visible-found, index-visible}
use Rattle.std.specs.Prelude.{Some, None}

some_same : {A : Type 0} (o : Option A) (a b : A) → o ≡ some a → o ≡ some b → a ≡ b
some_same o a b p q = cc

-- two tests that imply each other
pub each_way : (a b : Bool) → (a ≡ true → b ≡ true) → (b ≡ true → a ≡ true) → a ≡ b
each_way true b f g = sym (f refl)
each_way false true f g = g refl
each_way false false f g = refl

module _ (s : List Descriptor) (ws : List ℕ) (ms : List Descriptor) (h : Members s ws ms) where
  -- ---- members

  abbrev pub name_of : ℕ → Name
  name_of j = (module_at s j).name

  pub member-out : (j : ℕ) → holds ws j ≡ true → (is_visible s j ≡ true) × (has_module ms (name_of j) ≡ true)
  unfolding member_at
  member-out j e = and_split (is_visible s j) (has_module ms (name_of j)) (sym (h.each j) ∙ e)

  pub member_in : (j : ℕ) → is_visible s j ≡ true → has_module ms (name_of j) ≡ true → holds ws j ≡ true
  unfolding member_at
  member_in j v e = h.each j ∙ and_both v e

  -- the member at j is found among those resolved
  pub member_is : (j : ℕ) → holds ws j ≡ true → find (name_of j) ms ≡ some (module_at s j)
  member_is j e =
      let o = member-out j e in
      let r = has_some (name_of j) ms o.1 in
      let m = find-mem (name_of j) ms r.0 r.1 in
      let f : find (name_of j) s ≡ some r.0 = subst (λ (n : Name). find n s ≡ some r.0) m.1 (h.sound r.0 m.0) in
      subst (λ (k : Descriptor). find (name_of j) ms ≡ some k) (some_same (find (name_of j) s) r.0 (module_at s j) f (visible-found s j o.0)) r.1

  -- and each of them stands at a position
  pub member-at : (n : Name) (m : Descriptor) → find n ms ≡ some m → (j : ℕ) × (holds ws j ≡ true) × (name_of j ≡ n)
  member-at n m e =
      let r = find-mem n ms m e in
      let f : find n s ≡ some m = subst (λ (x : Name). find x s ≡ some m) r.1 (h.sound m r.0) in
      let k : has_module s n ≡ true = has-find n s m f in
      let q : name_of (index_of n s) ≡ n = (find-mem n s (module_at s (index_of n s)) (find_at n s k)).1 in
      (index_of n s, member_in (index_of n s) (index-visible n s k) (subst (λ (x : Name). has_module ms x ≡ true) (sym q) (has-find n ms m e)), q)

  -- ---- names

  pub named-out : (n : Name) (j : ℕ) → is_named (names s) ws n j ≡ true → (holds ws j ≡ true) × (name_of j ≡ n)
  unfolding is_named
  named-out n j e = turned (find_name (names s) n 0) refl e
    where
      turned : (f : Found) → find_name (names s) n 0 ≡ f → is_at (member_of ws f) j ≡ true → (holds ws j ≡ true) × (name_of j ≡ n)
      turned None q k = unfold member_of is_at in true≠false k refl
      turned (Some i) q k = unfold member_of is_at in by (holds ws i)
          (λ y. let z : is_at (pick_found true (Some i) None) j ≡ true = subst (λ (b : Bool). is_at (pick_found b (Some i) None) j ≡ true) y k in
          let p : j ≡ i = eqb-true j i z in (
            subst (λ (x : ℕ). holds ws x ≡ true) (sym p) y,
            subst (λ (x : ℕ). name_of x ≡ n) (sym p) (find-mem n s (module_at s i) (located n s i q).is).1,
          ))
          (λ y. true≠false (subst (λ (b : Bool). is_at (pick_found b (Some i) None) j ≡ true) y k) refl)

  named-own : (j : ℕ) → holds ws j ≡ true → is_named (names s) ws (name_of j) j ≡ true
  unfolding is_named member_of is_at
  named-own j e =
      let l = (member-out j e).0 in
      let k = visible_located s j l in
      let z : 0 + j ≡ j = omega arith in
      rw (find-name (name_of j) s 0, k.observable, k.index, z, e) (eq-eqb j j refl)

  pub named_in : (n : Name) (j : ℕ) → holds ws j ≡ true → name_of j ≡ n → is_named (names s) ws n j ≡ true
  named_in n j e q = subst (λ (x : Name). is_named (names s) ws x j ≡ true) q (named-own j e)

  -- ---- requirements

  required-out : (only : Bool) (rs : List Requirement) (j : ℕ) → required_at (names s) ws only rs j ≡ true
      → (r : Requirement) × Mem r rs × (not only || r.transitive ≡ true) × (holds ws j ≡ true) × (name_of j ≡ r.name)
  unfolding required_at is_required
  required-out only rs j e =
      let a = any_out (λ (r : Requirement). is_required (names s) ws only r j) rs e in
      let n = named-out a.0.name j (and_right (not only || a.0.transitive) (is_named (names s) ws a.0.name j) a.2) in
      (a.0, a.1, and_left (not only || a.0.transitive) (is_named (names s) ws a.0.name j) a.2, n.0, n.1)

  required_in : (only : Bool) (rs : List Requirement) (j : ℕ) (r : Requirement) → Mem r rs → not only || r.transitive ≡ true → holds ws j ≡ true → name_of j ≡ r.name
      → required_at (names s) ws only rs j ≡ true
  unfolding required_at is_required
  required_in only rs j r m t e q = any_in (λ (x : Requirement). is_required (names s) ws only x j) m (and_both t (named_in r.name j e q))

  direct-out : (m : Descriptor) (j : ℕ) → direct_at (names s) ws m j ≡ true → (holds ws j ≡ true) × Mem (name_of j) (direct_reads m)
  unfolding direct_at direct_reads
  direct-out m j e = or_cases (required_at (names s) ws false m.requires j) (not (same_bytes m.name java_base) && is_named (names s) ws java_base j) e
      (λ k. let r = required-out false m.requires j k in
      (r.3, Memᴰ.append_right (cond (same_bytes m.name java_base) [] (java_base ∷ [])) (Memᴰ.cast r.4 (map_in (λ (x : Requirement). x.name) r.1))))
      (λ k. let n = named-out java_base j (and_right (not (same_bytes m.name java_base)) (is_named (names s) ws java_base j) k) in
      let f : same_bytes m.name java_base ≡ false = not-true (same_bytes m.name java_base) (and_left (not (same_bytes m.name java_base)) (is_named (names s) ws java_base j) k) in
      (n.0, Memᴰ.append_left (map (λ (x : Requirement). x.name) m.requires) (subst (λ (b : Bool). Mem (name_of j) (cond b [] (java_base ∷ []))) (sym f) (Memᴰ.head n.1))))

  direct_in : (m : Descriptor) (j : ℕ) → holds ws j ≡ true → Mem (name_of j) (direct_reads m) → direct_at (names s) ws m j ≡ true
  unfolding direct_at direct_reads
  direct_in m j e k = ⊎_elim
      (λ (p : Mem (name_of j) (cond (same_bytes m.name java_base) [] (java_base ∷ []))). or_right (required_at (names s) ws false m.requires j) (not (same_bytes m.name java_base) && is_named (names s) ws java_base j) (base (same_bytes m.name java_base) p))
      (λ p. let r = map-out (λ (x : Requirement). x.name) m.requires p in
      or_left (required_at (names s) ws false m.requires j) (not (same_bytes m.name java_base) && is_named (names s) ws java_base j) (required_in false m.requires j r.0 r.1 refl e r.2))
      (Memᴰ.append_cases (cond (same_bytes m.name java_base) [] (java_base ∷ [])) k)
    where
      base : (b : Bool) → Mem (name_of j) (cond b [] (java_base ∷ [])) → not b && is_named (names s) ws java_base j ≡ true
      base true p = absurd (Memᴰ.not-nil p)
      base false p = ⊎_elim (λ (q : name_of j ≡ java_base). named_in java_base j e q) (λ q. absurd (Memᴰ.not-nil q)) (Memᴰ.cases_cons p)

  -- ---- the graph of transitive requirements

  -- a transitive requirement is that of a member
  pub from_member : (n x : Name) → Mem x (transitive_of ms n) → (k : ℕ) × (holds ws k ≡ true) × (name_of k ≡ n)
  unfolding transitive_of
  from_member n x q = turned (find n ms) refl q
    where
      turned : (o : Option Descriptor) → find n ms ≡ o → Mem x (transitive_names o) → (k : ℕ) × (holds ws k ≡ true) × (name_of k ≡ n)
      turned none e m = unfold transitive_names in absurd (Memᴰ.not-nil m)
      turned (some a) e m = member-at n a e

  abbrev pub onward : Name → List Name
  onward n = transitive_of ms n

  pub own-names : (i : ℕ) → holds ws i ≡ true → onward (name_of i) ≡ map (λ (r : Requirement). r.name) (keep (λ (r : Requirement). r.transitive) (module_at s i).requires)
  unfolding transitive_of transitive_names
  own-names i e = ap transitive_names (member_is i e)

  module _ (g : List ℕ) (eg : (i j : ℕ) → edge g i j ≡ transitive_at (names s) ws (holds ws i) (module_at s i) j) where
    edge-out : (i j : ℕ) → edge g i j ≡ true → (holds ws j ≡ true) × Mem (name_of j) (onward (name_of i))
    unfolding transitive_at
    edge-out i j e =
        let k : holds ws i && required_at (names s) ws true (module_at s i).requires j ≡ true = sym (eg i j) ∙ e in
        let hi : holds ws i ≡ true = and_left (holds ws i) (required_at (names s) ws true (module_at s i).requires j) k in
        let r = required-out true (module_at s i).requires j (and_right (holds ws i) (required_at (names s) ws true (module_at s i).requires j) k) in (
          r.3,
          subst (λ (l : List Name). Mem (name_of j) l) (sym (own-names i hi))
              (Memᴰ.cast r.4 (map_in (λ (x : Requirement). x.name) (keep_in (λ (x : Requirement). x.transitive) r.1 r.2))),
        )

    edge_in : (i j : ℕ) → holds ws i ≡ true → holds ws j ≡ true → Mem (name_of j) (onward (name_of i)) → edge g i j ≡ true
    unfolding transitive_at
    edge_in i j hi hj m =
        let r = map-out (λ (x : Requirement). x.name) (keep (λ (x : Requirement). x.transitive) (module_at s i).requires) (subst (λ (l : List Name). Mem (name_of j) l) (own-names i hi) m) in
        let k = keep_out (λ (x : Requirement). x.transitive) (module_at s i).requires r.1 in
        eg i j ∙ and_both hi (required_in true (module_at s i).requires j r.0 k.0 k.1 hj r.2)

    -- ---- what is reached

    module _ (i : ℕ) (direct reached : List ℕ) (hd : (j : ℕ) → holds direct j ≡ direct_at (names s) ws (module_at s i) j) (hr : ReachedFrom g direct reached) where
      abbrev m : Descriptor
      m = module_at s i

      abbrev begin : List Name
      begin = flat_map onward (direct_reads m)

      from-direct : (j : ℕ) → holds direct j ≡ true → (holds ws j ≡ true) × Mem (name_of j) (direct_reads m)
      from-direct j e = direct-out m j (sym (hd j) ∙ e)

      path : (k j : ℕ) → holds direct k ≡ true → Reach g k j → (holds ws j ≡ true) × Mem (name_of j) (implied_reads ms m)
      unfolding implied_reads
      path k j e (step q) =
          let o = edge-out k j q in
          (o.0, closure-holds onward (required_names ms) (transitive_in ms) begin (name_of j) (flat_in onward (from-direct k e).1 o.1))
      path k j e (then {j = x} r q) =
          let p = path k x e r in
          let o = edge-out x j q in
          (o.0, closure-closed onward (required_names ms) (transitive_in ms) begin (name_of x) (name_of j) p.1 o.1)

      pub reached-out : (j : ℕ) → holds reached j ≡ true → (holds ws j ≡ true) × (Mem (name_of j) (direct_reads m) ⊎ Mem (name_of j) (implied_reads ms m))
      reached-out j e = ⊎_elim
          (λ k. let r = from-direct j k in (r.0, inl r.1))
          (λ k. let r = path k.0 j k.1 k.2 in (r.0, inr r.1))
          (hr.sound j e)

      pub reached-direct : (j : ℕ) → holds ws j ≡ true → Mem (name_of j) (direct_reads m) → holds reached j ≡ true
      reached-direct j e k = hr.kept j (hd j ∙ direct_in m j e k)

      -- an edge from what is reached
      further : (k j : ℕ) → holds reached k ≡ true → edge g k j ≡ true → holds reached j ≡ true
      further k j e q = ⊎_elim (λ z. hr.complete k j z (step q)) (λ z. hr.complete z.0 j z.1 (then z.2 q)) (hr.sound k e)

      pub reached_implied : (j : ℕ) → holds ws j ≡ true → Mem (name_of j) (implied_reads ms m) → holds reached j ≡ true
      unfolding implied_reads
      reached_implied j e k =
          closure-least onward (required_names ms) (transitive_in ms) (λ n. (x : ℕ) → holds ws x ≡ true → name_of x ≡ n → holds reached x ≡ true)
          (λ n y c q x hx ex.
          let f = from_member n y q in
          let l : Mem (name_of x) (onward (name_of f.0)) = Memᴰ.cast ex (subst (λ (z : Name). Mem y (onward z)) (sym f.2) q) in
          further f.0 x (c f.0 f.1 f.2) (edge_in f.0 x f.1 hx l))
          begin
          (λ n q x hx ex.
          let a = flat_out onward (direct_reads m) q in
          let f = from_member a.0 n a.2 in
          let l : Mem (name_of x) (onward (name_of f.0)) = Memᴰ.cast ex (subst (λ (z : Name). Mem n (onward z)) (sym f.2) a.2) in
          hr.complete f.0 x (hd f.0 ∙ direct_in m f.0 f.1 (Memᴰ.cast f.2 a.1)) (step (edge_in f.0 x f.1 hx l)))
          (name_of j) k j e refl
