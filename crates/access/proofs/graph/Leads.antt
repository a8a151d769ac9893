-- What read edges lead to: the sweeps over the members marked, until one adds nothing, and the readers of ALL-UNNAMED among them.
use mathlib.Core.Path.{◌≡◌, refl, sym, ap, ◌∙◌, subst}
use mathlib.Core.Bool.{Bool, true, ◌&&◌, ◌||◌, or-false, or_assoc}
use mathlib.Core.List.{List}
use mathlib.Core.Logic.{inl, inr, ⊎_elim}
use Prim.Native.Nat.{ℕ, zero, suc, ◌+◌, ◌-◌, ◌≤◌, ◌<◌}
use native.Mathlib.Omega.{arith}
use lib.Dec.{eqb, ltb}
use borrow.Author.Tests.{eqb-true, ltb-true, ltb-false, lt-ltb}
use Rattle.std.specs.List.{list_any, range_with_len}
use Rattle.records.proofs.Logic.{by, true≠false, and_left, and_right, and_both, and_split, or_left, or_right, or_cases}
use Rattle.resolution.specs.Configuration.{edge_bit, unnamed_bit}
use Rattle.resolution.specs.Row.{holds, size, Intersected}
use Rattle.resolution.specs.Readability.{Holding}
use Rattle.resolution.proofs.configuration.Laws.{reads-target}
use Rattle.resolution.proofs.row.Counts.{count-le, count-mono, count-strict}
use Rattle.access.specs.ReadGraph.{any_below, Leads, step, then, LeadsToOne}
use Rattle.access.specs.GraphSteps.{Told, counts_at, edge_counts, unnamed_counts, Masked, spread_at, onward_at, From, at, on, Swept, Gathered, unnamed_in, Onward}
use Rattle.access.specs.declared.graph.GraphAnswer.{GraphAnswer}
use Rattle.access.proofs.graph.Answers.{own-words}
use Rattle.access.proofs.graph.Led.{any_at, any_of}
use Rattle.access.proofs.graph.Rows.{before}

-- an edge leads to a position below 512
target_below : (g : List ℕ) (i j : ℕ) → edge_bit g i j ≡ true → j < 512
target_below g i j e = by (ltb j 512) (λ h. ltb-true j 512 h) (λ h. true≠false e (sym (reads-target g i j (ltb-false j 512 h))))

-- ---- a sweep

-- the positions below k are looked at
pub record SweepAt (n : ℕ) (ws g row out : List ℕ) (k : ℕ) : Type 0 where
  pub kept : (j : ℕ) → holds row j ≡ true → holds out j ≡ true
  pub sound : (j : ℕ) → holds out j ≡ true → From n ws g row j
  pub next : (i : ℕ) → i < k → holds row i ≡ true → holds ws i ≡ true → (j : ℕ) → edge_bit g i j ≡ true → holds out j ≡ true

pub sweep_start : (n : ℕ) (ws g row : List ℕ) → SweepAt n ws g row row 0
sweep_start n ws g row = record { kept = λ j h. h; sound = λ j h. at h; next = λ i l h w j e. absurd (omega arith) }

module _ (n : ℕ) (ws g row out : List ℕ) (k : ℕ) (s : SweepAt n ws g row out k) where
  pub sweep_more : (after : List ℕ) → k < n → Holding after (spread_at out ws g k) → SweepAt n ws g row after (k + 1)
  unfolding spread_at onward_at
  sweep_more after l w = record {
    kept = λ j h. more j (s.kept j h);
    sound = λ j h. or_cases (holds out j) ((holds out k && holds ws k) && edge_bit g k j) (sym (w.each j) ∙ h)
        (λ y. s.sound j y)
        (λ y. let m : holds out k && holds ws k ≡ true = and_left (holds out k && holds ws k) (edge_bit g k j) y in
        on (s.sound k (and_left (holds out k) (holds ws k) m))
        (and_both (and_both (lt-ltb k n l) (and_right (holds out k) (holds ws k) m)) (and_right (holds out k && holds ws k) (edge_bit g k j) y)));
    next = λ i b h m j e. by (eqb i k)
        (λ y. let q : i ≡ k = eqb-true i k y in
        w.each j ∙ or_right (holds out j) ((holds out k && holds ws k) && edge_bit g k j)
        (and_both (and_both (subst (λ (z : ℕ). holds out z ≡ true) q (s.kept i h)) (subst (λ (z : ℕ). holds ws z ≡ true) q m)) (subst (λ (z : ℕ). edge_bit g z j ≡ true) q e)))
        (λ y. more j (s.next i (before i k b y) h m j e));
  }
    where
      more : (j : ℕ) → holds out j ≡ true → holds after j ≡ true
      more j h = w.each j ∙ or_left (holds out j) ((holds out k && holds ws k) && edge_bit g k j) h

  pub sweep_end : n ≤ k → Swept n ws g row out
  sweep_end l = record { kept = s.kept; sound = s.sound; next = λ i b. s.next i (omega arith) }

pub ruleset sweep_laws = (sweep_start, sweep_more, sweep_end)

-- ---- until a sweep adds nothing

-- `out` holds the row, and only what edges lead to from it
pub record GatherAt (n : ℕ) (ws g row out : List ℕ) : Type 0 where
  pub kept : (j : ℕ) → holds row j ≡ true → holds out j ≡ true
  pub sound : (j : ℕ) → holds out j ≡ true → From n ws g row j

pub gather-start : (n : ℕ) (ws g row : List ℕ) → GatherAt n ws g row row
gather-start n ws g row = record { kept = λ j h. h; sound = λ j h. at h }

module _ (n : ℕ) (ws g row out : List ℕ) (s : GatherAt n ws g row out) (after : List ℕ) (w : Swept n ws g out after) where
  joined : (j : ℕ) → From n ws g out j → From n ws g row j
  joined j (at h) = s.sound j h
  joined j (on {j = i} f e) = on (joined i f) e

  pub gather-more : GatherAt n ws g row after
  gather-more = record { kept = λ j h. w.kept j (s.kept j h); sound = λ j h. joined j (w.sound j h) }

  module _ (a b : ℕ) (ea : a ≡ size after) (eb : b ≡ size out) where
    pub gather-less : (a ≡ b → ⊥) → 512 - size after < 512 - size out
    unfolding size
    gather-less ne =
        let m : size out ≤ size after = count-mono (holds out) (holds after) 512 (λ k l h. w.kept k h) in
        let t : size after ≤ 512 = count-le (holds after) 512 in
        by (ltb (size out) (size after))
        (λ y. omega (arith, ltb-true (size out) (size after) y, t))
        (λ y. absurd (ne (ea ∙ omega (arith, ltb-false (size out) (size after) y, m) ∙ sym eb)))

    closes : a ≡ b → (j : ℕ) → j < 512 → holds after j ≡ true → holds out j ≡ true
    unfolding size
    closes q j l h = by (holds out j) (λ y. y)
        (λ y. absurd (omega (arith, ea, eb, q, count-strict (holds out) (holds after) 512 j l (λ k m z. w.kept k z) y h)))

    all : a ≡ b → (j : ℕ) → From n ws g row j → holds out j ≡ true
    unfolding onward_at
    all q j (at h) = s.kept j h
    all q j (on {j = i} f e) =
        let c : ltb i n && holds ws i ≡ true = and_left (ltb i n && holds ws i) (edge_bit g i j) e in
        let d : edge_bit g i j ≡ true = and_right (ltb i n && holds ws i) (edge_bit g i j) e in
        closes q j (target_below g i j d)
        (w.next i (ltb-true i n (and_left (ltb i n) (holds ws i) c)) (all q i f) (and_right (ltb i n) (holds ws i) c) j d)

    pub gather-end : a ≡ b → Gathered n ws g row out
    gather-end q = record { sound = s.sound; complete = λ j f. all q j f }

pub ruleset gather_laws = (gather-start, gather-more, gather-less, gather-end)

-- ---- readers of ALL-UNNAMED

-- the positions below n, one after another
any-next : (p : ℕ → Bool) (a n : ℕ) → list_any p (range_with_len a (suc n)) ≡ list_any p (range_with_len a n) || p (a + n)
any-next p a zero = let e : a + 0 ≡ a = omega arith in rw e (or-false (p a))
any-next p a (suc n) =
    let e : a + suc n ≡ (a + 1) + n = omega arith in
    ap (λ (b : Bool). p a || b) (any-next p (a + 1) n) ∙ rw e (sym (or_assoc (p a) (list_any p (range_with_len (a + 1) n)) (p ((a + 1) + n))))

pub any_is : (p : ℕ → Bool) (n : ℕ) → list_any p (range_with_len 0 n) ≡ any_below p n
unfolding any_below
any_is p zero = refl
any_is p (suc n) = let e : 0 + n ≡ n = omega arith in any-next p 0 n ∙ rw (any_is p n, e)

-- ---- what a member leads to

module _ (n : ℕ) (seen ws g : List ℕ) (i : ℕ) (mask : Masked n seen ws) (c : counts_at (holds seen) ws i ≡ true) (own : List ℕ) (o : Holding own (edge_bit g i)) (row : List ℕ) (h : Gathered n ws g own row) where
  -- the target has a module
  target : (j k : ℕ) → edge_counts (holds seen) ws g j k ≡ true → holds seen k ≡ true
  unfolding edge_counts
  target j k e = and_left (holds seen k) (edge_bit g j k) (and_right (counts_at (holds seen) ws j) (holds seen k && edge_bit g j k) e)

  leads-target : (k : ℕ) → Leads (edge_counts (holds seen) ws g) i k → holds seen k ≡ true
  leads-target k (step e) = target i k e
  leads-target k (then {j = j} f e) = target j k e

  from-leads : (k : ℕ) → Leads (edge_counts (holds seen) ws g) i k → From n ws g own k
  unfolding edge_counts onward_at counts_at
  from-leads k (step e) = at (o.each k ∙ and_right (holds seen k) (edge_bit g i k) (and_right (counts_at (holds seen) ws i) (holds seen k && edge_bit g i k) e))
  from-leads k (then {j = j} f e) =
      let m = and_split (holds seen j) (holds ws j) (and_left (counts_at (holds seen) ws j) (holds seen k && edge_bit g j k) e) in
      on (from-leads j f) (and_both (and_both (lt-ltb j n (mask.within j m.0)) m.1) (and_right (holds seen k) (edge_bit g j k) (and_right (counts_at (holds seen) ws j) (holds seen k && edge_bit g j k) e)))

  leads-from : (k : ℕ) → holds seen k ≡ true → From n ws g own k → Leads (edge_counts (holds seen) ws g) i k
  unfolding edge_counts onward_at counts_at
  leads-from k v (at e) = step (and_both c (and_both v (sym (o.each k) ∙ e)))
  leads-from k v (on {j = j} f e) =
      let w : holds ws j ≡ true = and_right (ltb j n) (holds ws j) (and_left (ltb j n && holds ws j) (edge_bit g j k) e) in
      let y : holds seen j ≡ true = mask.inside j w in
      then (leads-from j y f) (and_both (and_both y w) (and_both v (and_right (ltb j n && holds ws j) (edge_bit g j k) e)))

  module _ (low : List ℕ) (w : Intersected seen row low) where
    low-out : (k : ℕ) → holds low k ≡ true → Leads (edge_counts (holds seen) ws g) i k
    low-out k e =
        let m = and_split (holds seen k) (holds row k) (sym (w.both k) ∙ e) in
        leads-from k m.0 (h.sound k m.1)

    low_in : (k : ℕ) → Leads (edge_counts (holds seen) ws g) i k → holds low k ≡ true
    low_in k f = let v = leads-target k f in w.both k ∙ and_both v (h.complete k (from-leads k f))

  module _ (last : Bool) (el : last ≡ unnamed_bit g i || any_below (unnamed_in row ws g) n) where
    last_out : last ≡ true → LeadsToOne (edge_counts (holds seen) ws g) (unnamed_counts (holds seen) ws g) i
    unfolding unnamed_in unnamed_counts counts_at
    last_out e = or_cases (unnamed_bit g i) (any_below (unnamed_in row ws g) n) (sym el ∙ e)
        (λ y. inl (and_both c y))
        (λ y. let r = any_of (unnamed_in row ws g) n y in
        let m = and_split (holds row r.0) (holds ws r.0 && unnamed_bit g r.0) r.2 in
        let u = and_split (holds ws r.0) (unnamed_bit g r.0) m.1 in
        let v : holds seen r.0 ≡ true = mask.inside r.0 u.0 in
        inr (r.0, leads-from r.0 v (h.sound r.0 m.0), and_both (and_both v u.0) u.1))

    last_in : LeadsToOne (edge_counts (holds seen) ws g) (unnamed_counts (holds seen) ws g) i → last ≡ true
    unfolding unnamed_in unnamed_counts counts_at
    last_in x = el ∙ ⊎_elim
        (λ y. or_left (unnamed_bit g i) (any_below (unnamed_in row ws g) n) (and_right (holds seen i && holds ws i) (unnamed_bit g i) y))
        (λ y. let u = and_split (holds seen y.0 && holds ws y.0) (unnamed_bit g y.0) y.2 in
        or_right (unnamed_bit g i) (any_below (unnamed_in row ws g) n) (any_at (unnamed_in row ws g) n y.0 (mask.within y.0 (leads-target y.0 y.1))
        (and_both (h.complete y.0 (from-leads y.0 y.1)) (and_both (and_right (holds seen y.0) (holds ws y.0) u.0) u.1)))) x

  pub onward-is : (low : List ℕ) (last : Bool) (r : GraphAnswer) → Intersected seen row low
      → last ≡ unnamed_bit g i || any_below (unnamed_in row ws g) n → Told low last r → Onward (holds seen) ws g i r
  onward-is low last r w el t = record {
    row_words = own-words low last r t;
    row_sound = λ k e. low-out low w k (subst (λ (x : List ℕ). holds x k ≡ true) er e);
    row_complete = λ k f. subst (λ (x : List ℕ). holds x k ≡ true) (sym er) (low_in low w k f);
    unnamed_sound = λ e. last_out last el (sym eu ∙ e);
    unnamed_complete = λ x. eu ∙ last_in last el x;
  }
    where
      er : r.row ≡ low
      er = ap (λ (x : GraphAnswer). x.row) t.is

      eu : r.unnamed ≡ last
      eu = ap (λ (x : GraphAnswer). x.unnamed) t.is
