-- A visit marks what it starts from and whatever the steps reach from there, and nothing else.
use mathlib.Core.Path.{◌≡◌, refl, sym, subst}
use Prim.Native.Nat.{ℕ, zero, suc, ◌<◌}
use native.Mathlib.Omega.{arith}
use mathlib.Core.Bool.{Bool, true, false, cond}
use mathlib.Core.List.Memᴰ
use mathlib.Core.List.{List, [], ◌∷◌, flat_map}
use mathlib.Core.Logic.{◌⊎◌, inl, inr, ⊎_elim}
use Rattle.records.specs.Bytes.{same_bytes}
use Rattle.records.specs.Name.{java_base, mem_name}
use Rattle.records.specs.Descriptor.{Descriptor}
use Rattle.records.proofs.Logic.{by, true≠false}
use Rattle.resolution.specs.Lists.{Mem, Name}
use Rattle.resolution.specs.Reach.{closure}
use Rattle.resolution.specs.Reads.{direct_reads, implied_reads, required_names, transitive_of}
use Rattle.resolution.specs.Visit.{each, visit, visited}
use Rattle.resolution.proofs.Enqueue.{fresh, fresh-le, fresh-lt, met-cases, met-new, met-old}
use Rattle.resolution.proofs.Lists.{flat_in, flat_out, mem_name_in, mem_name-out}
use Rattle.resolution.proofs.Edges.{required_in, transitive_in}
use Rattle.resolution.proofs.Closure.{closure-closed, closure-holds, closure-least}

-- the marks after, from those before and what was started from; C is any set that the steps do not leave
pub record Marked (onward : Name → List Name) (C : Name → Type 0) (from : Name → Type 0) (before after : List Name) : Type 0 where
  pub grows : (x : Name) → mem_name x before ≡ true → mem_name x after ≡ true
  pub starts : (x : Name) → from x → mem_name x after ≡ true
  pub closed : (x y : Name) → mem_name x after ≡ true → mem_name x before ≡ false → Mem y (onward x) → mem_name y after ≡ true
  pub only : ((x : Name) → from x → C x) → (x : Name) → mem_name x after ≡ true → mem_name x before ≡ false → C x

module _ (onward : Name → List Name) (all : List Name) (inside : (n x : Name) → Mem x (onward n) → Mem x all)
    (C : Name → Type 0) (steps : (x y : Name) → C x → Mem y (onward x) → C y) where
  still : (from : Name → Type 0) (marks : List Name) → ((x : Name) → from x → mem_name x marks ≡ true) → Marked onward C from marks marks
  still from marks s = record { grows = λ x h. h; starts = s; closed = λ x y h k. true≠false h k; only = λ c x h k. true≠false h k }

  abbrev Visits : ℕ → (Name → List Name → List Name) → Type 0
  Visits f g = (n : Name) (marks : List Name) → Mem n all → fresh all marks < f → Marked onward C (λ x. x ≡ n) marks (g n marks)

  pub each-marked : (f : ℕ) (g : Name → List Name → List Name) → Visits f g → (ns : List Name) (marks : List Name)
      → ((x : Name) → Mem x ns → Mem x all) → fresh all marks < f
      → Marked onward C (λ x. Mem x ns) marks (each g ns marks)
  unfolding each
  each-marked f g v [] marks i l = still (λ x. Mem x []) marks (λ x h. absurd (Memᴰ.not-nil h))
  each-marked f g v (n ∷ ns) marks i l =
      let a = v n marks (i n (Memᴰ.head refl)) l in
      let b = each-marked f g v ns (g n marks) (λ x h. i x (Memᴰ.tail h)) (omega (arith, fresh-le all marks (g n marks) a.grows)) in
      record {
        grows = λ x h. b.grows x (a.grows x h);
        starts = λ x h. ⊎_elim (λ (e : x ≡ n). b.grows x (a.starts x e)) (λ k. b.starts x k) (Memᴰ.cases_cons h);
        closed = λ x y h k m. by (mem_name x (g n marks)) (λ u. b.grows y (a.closed x y u k m)) (λ u. b.closed x y h u m);
        only = λ c x h k. by (mem_name x (g n marks)) (λ u. a.only (λ z e. c z (Memᴰ.head e)) x u k) (λ u. b.only (λ z e. c z (Memᴰ.tail e)) x h u);
      }

  pub visit-marked : (f : ℕ) → Visits f (visit onward f)
  unfolding visit
  visit-marked zero n marks i l = absurd (omega arith)
  visit-marked (suc f) n marks i l = turned (mem_name n marks) refl (visit-marked f)
    where
      turned : (b : Bool) → mem_name n marks ≡ b → Visits f (visit onward f)
          → Marked onward C (λ x. x ≡ n) marks (visited (λ x m. visit onward f x m) onward n marks b)
      turned true h below = still (λ x. x ≡ n) marks (λ x e. subst (λ (z : Name). mem_name z marks ≡ true) (sym e) h)
      turned false h below =
          let less : fresh all (n ∷ marks) < fresh all marks = fresh-lt marks (n ∷ marks) i h (met-new n marks) (λ x. met-old x n marks) in
          let a = each-marked f (visit onward f) below (onward n) (n ∷ marks) (inside n) (omega arith) in
          record {
            grows = λ x k. a.grows x (met-old x n marks k);
            starts = λ x e. a.grows x (subst (λ (z : Name). mem_name z (n ∷ marks) ≡ true) (sym e) (met-new n marks));
            closed = λ x y k m w. by (mem_name x (n ∷ marks))
                (λ u. met-cases x n marks u (λ e. a.starts y (subst (λ (z : Name). Mem y (onward z)) e w)) (λ v. true≠false v m)) (λ u. a.closed x y k u w);
            only = λ c x k m. by (mem_name x (n ∷ marks)) (λ u. met-cases x n marks u (λ e. c x e) (λ v. true≠false v m))
                (λ u. a.only (λ z w. steps n z (c n refl) w) x k u);
          }

-- ---- what the visits of a list of names reach by one step or more is the closure of their steps

module _ (onward : Name → List Name) (all : List Name) (inside : (n x : Name) → Mem x (onward n) → Mem x all)
    -- every name that may be marked
    (every : List Name) (leads : (n x : Name) → Mem x (onward n) → Mem x every)
    (ns : List Name) (within : (x : Name) → Mem x ns → Mem x every) (f : ℕ) (enough : fresh every [] < f) where
  abbrev marks : List Name
  marks = each (visit onward f) ns []

  abbrev reached : List Name
  reached = closure onward all (flat_map onward ns)

  none-marked : (x : Name) → mem_name x [] ≡ false
  unfolding mem_name
  none-marked x = refl

  -- the marks, where the steps do not leave C
  marked : (C : Name → Type 0) → ((x y : Name) → C x → Mem y (onward x) → C y) → Marked onward C (λ x. Mem x ns) [] marks
  marked C steps = each-marked onward every leads C steps f (visit onward f) (visit-marked onward every leads C steps f) ns [] within enough

  -- from a name that is among the first, or reached, a step leads to one that is reached
  reaches : (x y : Name) → Mem x ns ⊎ Mem x reached → Mem y (onward x) → Mem y reached
  reaches x y c k = ⊎_elim (λ u. closure-holds onward all inside (flat_map onward ns) y (flat_in onward u k)) (λ u. closure-closed onward all inside (flat_map onward ns) x y u k) c

  pub visits_reach : (y : Name) → Mem y (flat_map onward marks) → Mem y reached
  visits_reach y h =
      let r = flat_out onward marks h in
      let m = marked (λ z. Mem z ns ⊎ Mem z reached) (λ a b c k. inr (reaches a b c k)) in
      reaches r.0 y (m.only (λ z e. inl e) r.0 (mem_name_in r.1) (none-marked r.0)) r.2

  pub reach_visits : (y : Name) → Mem y reached → Mem y (flat_map onward marks)
  reach_visits y h =
      let m = marked (λ z. Unit {0}) (λ a b c k. tt) in
      closure-least onward all inside (λ z. Mem z (flat_map onward marks))
      (λ x z c k. let r = flat_out onward marks c in
      flat_in onward (mem_name-out x marks (m.closed r.0 x (mem_name_in r.1) (none-marked r.0) r.2)) k)
      (flat_map onward ns) (λ x k. let r = flat_out onward ns k in flat_in onward (mem_name-out r.0 marks (m.starts r.0 r.1)) r.2) y h

-- ---- the reads that transitive requirements imply are what visits of the direct reads reach

module _ (ms : List Descriptor) (m : Descriptor) (member : Mem m ms) (f : ℕ) (enough : fresh (java_base ∷ required_names ms) [] < f) where
  direct_in : (x : Name) → Mem x (direct_reads m) → Mem x (java_base ∷ required_names ms)
  unfolding direct_reads
  direct_in x h = ⊎_elim (base (same_bytes m.name java_base)) (λ k. Memᴰ.tail (required_in ms m x member k)) (Memᴰ.append_cases (cond (same_bytes m.name java_base) [] (java_base ∷ [])) h)
    where
      base : (b : Bool) → Mem x (cond b [] (java_base ∷ [])) → Mem x (java_base ∷ required_names ms)
      base true k = absurd (Memᴰ.not-nil k)
      base false k = Memᴰ.head (Memᴰ.eq_of_singleton k)

  leads_in : (n x : Name) → Mem x (transitive_of ms n) → Mem x (java_base ∷ required_names ms)
  leads_in n x h = Memᴰ.tail (transitive_in ms n x h)

  pub visits_implied : (y : Name) → Mem y (flat_map (transitive_of ms) (each (visit (transitive_of ms) f) (direct_reads m) []))
      → Mem y (implied_reads ms m)
  unfolding implied_reads
  visits_implied = visits_reach (transitive_of ms) (required_names ms) (transitive_in ms) (java_base ∷ required_names ms) leads_in (direct_reads m) direct_in f enough

  pub implied_visits : (y : Name) → Mem y (implied_reads ms m)
      → Mem y (flat_map (transitive_of ms) (each (visit (transitive_of ms) f) (direct_reads m) []))
  unfolding implied_reads
  implied_visits = reach_visits (transitive_of ms) (required_names ms) (transitive_in ms) (java_base ∷ required_names ms) leads_in (direct_reads m) direct_in f enough
