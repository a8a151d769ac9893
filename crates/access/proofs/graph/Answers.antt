-- What `graph` answers: a row of positions, or a refusal of the set, which is checked first.
use mathlib.Core.Path.{◌≡◌, refl, sym, ap, ◌∙◌, subst}
use mathlib.Core.Bool.{Bool, true, false, ◌&&◌, ◌||◌, and-false}
use mathlib.Core.List.{List, map}
use mathlib.Core.Logic.{inl, inr, ⊎_elim}
use Prim.Native.Nat.{ℕ, ◌≤◌, ◌<◌}
use native.Mathlib.Omega.{arith}
use mir.Syntax.{w64}
use mir.Val.{Fits}
use lib.Dec.{ltb}
use lib.ListN.{length, get_or, take}
use borrow.Author.Tests.{lt-ltb}
use Rattle.records.specs.Bytes.{same_bytes}
use Rattle.records.specs.Name.{all_unnamed}
use Rattle.records.specs.Set.{name_at, modules, check_set, count_of}
use Rattle.records.specs.Finder.{find_name, find_module}
use Rattle.records.specs.declared.error.ModuleError.{ModuleError}
use Rattle.records.specs.declared.error.ModuleError.TheVariants.{OutputTooShort}
use Rattle.records.specs.Finder.{Found}
use Rattle.records.specs.declared.set.Checked.{Checked}
use Rattle.records.proofs.Logic.{by, true≠false, and_left}
use Rattle.records.proofs.finder.Modules.{find-is}
use Rattle.records.proofs.set.Blocks.{GoodSet, good-set}
use Rattle.records.proofs.sorted.Index.{indexed-none}
use Rattle.resolution.specs.Lists.{Name}
use Rattle.resolution.specs.Positions.{is_visible}
use Rattle.resolution.specs.Observed.{has_member, has_edge, has_unnamed_edge}
use Rattle.resolution.specs.Configuration.{word_count, member_bit, edge_bit, unnamed_bit}
use Rattle.resolution.specs.Row.{holds, words, Empty}
use Rattle.resolution.specs.Readability.{Holding}
use Rattle.resolution.proofs.ConfigurationWords.{with-refused, with-few, with_enough}
use Rattle.resolution.proofs.Observed.{member-bit}
use Rattle.resolution.proofs.Positions.{visible_in}
use Rattle.resolution.proofs.Sets.{set-length}
use Rattle.access.specs.Access.{passes, edge_to, is_reader}
use Rattle.access.specs.Members.{member_in}
use Rattle.access.specs.ReadGraph.{row_length, reads_at, reads_unnamed_at, Leads, step, then, LeadsToOne, GraphOutcome, readers_answered, readers_of, transitive_reads, LeadsToUnnamed, LedFrom}
use Rattle.access.specs.GraphSteps.{Told, reader_at, reader_below, counts_at, counts_in, edge_counts, unnamed_counts, Masked, Onward}
use Rattle.access.specs.declared.graph.GraphAnswer.{GraphAnswer}
use Rattle.access.proofs.access.Laws.{held_of, not-held-at, found-visible, edge_to_lem}
use Rattle.access.proofs.graph.Led.{led-is, transitive_refused}
use Rattle.resolution.proofs.Words.{words_are}
use Rattle.std.specs.Prelude.{Some, None, Ok, Err}

-- ---- the answers

pub tell_is : (row : List ℕ) (u : Bool) → length row ≡ 8 → ((i : ℕ) → Fits w64 (get_or row i 0)) → Told row u (record { row = row; unnamed = u })
tell_is row u l f = record { is = refl; by_words = λ p h. words_are p row row_length l (λ i. (f i).fits) (λ k b. h k (omega arith)) }

-- the row of an answer is given by the positions that it holds
pub own-words : (row : List ℕ) (u : Bool) (r : GraphAnswer) → Told row u r → r.row ≡ words (holds r.row) row_length
own-words row u r t =
    let q : r.row ≡ row = ap (λ (x : GraphAnswer). x.row) t.is in
    subst (λ (x : List ℕ). x ≡ words (holds x) row_length) (sym q) (t.by_words (holds row) (λ k l. refl))

-- only a member leads anywhere
module _ (s : List ℕ) (c : List ℕ) (a : ℕ) where
  unnamed-counts : reads_unnamed_at s c a ≡ true → has_member (modules s) c a ≡ true
  unfolding reads_unnamed_at
  unnamed-counts e = and_left (has_member (modules s) c a) (has_unnamed_edge (modules s) c a) e

  leads-counts : (j : ℕ) → Leads (reads_at s c) a j → has_member (modules s) c a ≡ true
  unfolding reads_at
  leads-counts j (step e) = and_left (has_member (modules s) c a) (has_edge (modules s) c a j) e
  leads-counts j (then {j = b} f e) = leads-counts b f

-- what edges of one test lead to, those of another that is the same lead to
module _ (r₁ r₂ : ℕ → ℕ → Bool) (u₁ u₂ : ℕ → Bool) (same : (i j : ℕ) → r₁ i j ≡ r₂ i j) (also : (i : ℕ) → u₁ i ≡ u₂ i) where
  pub leads-over : (i k : ℕ) → Leads r₁ i k → Leads r₂ i k
  leads-over i k (step e) = step (sym (same i k) ∙ e)
  leads-over i k (then {j = j} f e) = then (leads-over i j f) (sym (same j k) ∙ e)

  pub one-over : (i : ℕ) → LeadsToOne r₁ u₁ i → LeadsToOne r₂ u₂ i
  one-over i x = ⊎_elim (λ y. inl (sym (also i) ∙ y)) (λ y. inr (y.0, leads-over i y.0 y.1, sym (also y.0) ∙ y.2)) x

-- the members whose modules are not hidden
pub members_are : (s c seen own : List ℕ) → Holding seen (is_visible (modules s)) → Holding own (counts_in (holds seen) c) → Holding own (has_member (modules s) c)
unfolding has_member counts_in
members_are s c seen own hs ho = record { each = λ k. ho.each k ∙ rw (hs.each k) }

-- the rows of the modules that are not hidden, and of the members among them: what code finds by them is what the words c say
module _ (s : List ℕ) (n : ℕ) (t : List ℕ) (good : GoodSet s n t) (c seen own : List ℕ) (hs : Holding seen (is_visible (modules s))) (ho : Holding own (counts_in (holds seen) c)) where
  abbrev vis : ℕ → Bool
  vis = is_visible (modules s)

  vis-below : (k : ℕ) → vis k ≡ true → k < n
  vis-below k y = omega (arith, visible_in (modules s) k y, set-length s n t good)

  own_is : (k : ℕ) → holds own k ≡ has_member (modules s) c k
  own_is k = (members_are s c seen own hs ho).each k

  masked : Masked n seen own
  unfolding has_member
  masked = record {
    within = λ k e. vis-below k (sym (hs.each k) ∙ e);
    inside = λ k e. hs.each k ∙ and_left (vis k) (member_bit c k) (sym (own_is k) ∙ e);
  }

  counts-is : (k : ℕ) → counts_at (holds seen) own k ≡ has_member (modules s) c k
  unfolding counts_at has_member
  counts-is k = rw (hs.each k, own_is k) (by (is_visible (modules s) k) (λ y. rw y) (λ y. rw y))

  reads-is : (i j : ℕ) → edge_counts (holds seen) own c i j ≡ reads_at s c i j
  unfolding edge_counts reads_at has_edge has_member
  reads-is i j = rw (counts-is i, hs.each j) (by (is_visible (modules s) i) (λ y. rw y) (λ y. rw y))

  unnamed-is : (i : ℕ) → unnamed_counts (holds seen) own c i ≡ reads_unnamed_at s c i
  unfolding unnamed_counts reads_unnamed_at has_unnamed_edge has_member
  unnamed-is i = rw (counts-is i) (by (is_visible (modules s) i) (λ y. rw y) (λ y. rw y))

pub visible-few : (s : List ℕ) (n : ℕ) (t : List ℕ) → check_set s ≡ Ok (record { count = n; starts = t }) → n ≤ 512
visible-few s n t e = (good-set s n t e).few

-- ---- the set is checked first

module _ (s : List ℕ) (c : List ℕ) (y : Name) where
  pub readers-refused : (e : ModuleError) (r : GraphOutcome) → Err e ≡ check_set s → r ≡ Err e → r ≡ readers_of s c y
  unfolding readers_of readers_answered
  readers-refused e r h er = er ∙ sym (ap (readers_answered s c y) (with-refused c (count_of (check_set s)) e (ap count_of (sym h))))

  pub reads-refused : (e : ModuleError) (r : GraphOutcome) → Err e ≡ check_set s → r ≡ Err e → r ≡ transitive_reads s c y
  reads-refused e r h er = er ∙ sym (transitive_refused s c y e (with-refused c (count_of (check_set s)) e (ap count_of (sym h))))

  module _ (k : Checked) (ek : Ok k ≡ check_set s) (l : length c < 4616) where
    pub readers-short : Err (OutputTooShort 4616) ≡ readers_of s c y
    unfolding readers_of readers_answered
    readers-short = sym (ap (readers_answered s c y) (with-few c (count_of (check_set s)) k.count (ap count_of (sym ek)) l))

    pub reads_short : Err (OutputTooShort 4616) ≡ transitive_reads s c y
    reads_short = sym (transitive_refused s c y (OutputTooShort 4616) (with-few c (count_of (check_set s)) k.count (ap count_of (sym ek)) l))

  -- what is told over the table of the set
  pub readers-over : (t : List ℕ) (r : GraphAnswer) → t ≡ s → Ok r ≡ readers_of t c y → Ok r ≡ readers_of s c y
  readers-over t r e h = cc

  pub reads-over : (t : List ℕ) (r : GraphAnswer) → t ≡ s → Ok r ≡ transitive_reads t c y → Ok r ≡ transitive_reads s c y
  reads-over t r e h = cc

pub ruleset checked_laws = (indexed-none, readers-refused, readers-short, readers-over, reads-refused, reads_short, reads-over)

-- ---- of a set that the check takes

module _ (s : List ℕ) (n : ℕ) (t : List ℕ) (e : check_set s ≡ Ok (record { count = n; starts = t })) (c : List ℕ) (enough : word_count ≤ length c) (y : Name) where
  good : GoodSet s n t
  good = good-set s n t e

  pub readers_in : (f : Found) (asked : Bool) (own row : List ℕ) (r : GraphAnswer) → f ≡ find_name (map (name_at s) (take n t)) y 0 → asked ≡ same_bytes y all_unnamed
      → Holding own (has_member (modules s) c) → Holding row (reader_below n own c f asked) → Told row false r → Ok r ≡ readers_of s c y
  unfolding readers_of readers_answered reader_below reader_at is_reader has_member
  readers_in f asked own row r ef ea ho w x =
      ap {B = GraphOutcome} Ok (x.is ∙ ap {B = GraphAnswer} (λ (v : List ℕ). record { row = v; unnamed = false }) (x.by_words (is_reader s c y) each))
      ∙ sym (ap (readers_answered s c y) (with_enough c (count_of (check_set s)) n (ap count_of e) enough))
    where
      turned : (j : ℕ) → (b : Bool) → is_visible (modules s) j ≡ b → (m x z : Bool) → (b ≡ true → z ≡ x) → ltb j n && ((b && m) && x) ≡ (b && m) && z
      turned j true v m x z q = rw (lt-ltb j n (omega (arith, visible_in (modules s) j v, set-length s n t good)), q refl)
      turned j false v m x z q = and-false (ltb j n)

      each : (j : ℕ) → j < 512 → holds row j ≡ is_reader s c y j
      each j l = w.each j
          ∙ rw (ef ∙ find-is s n t good y, ea, ho.each j)
          (turned j (is_visible (modules s) j) refl (member_bit c j)
          (passes (edge_bit c j) (find_module s y) || (same_bytes y all_unnamed && unnamed_bit c j)) (edge_to s c y j) (λ v. edge_to_lem s c y j v))

  module _ (m : Found) (em : m ≡ member_in s c y) where
    module _ (seen own : List ℕ) (hs : Holding seen (is_visible (modules s))) (ho : Holding own (counts_in (holds seen) c)) where
      pub in-masked : Masked n seen own
      in-masked = masked s n t good c seen own hs ho

      pub in-counts : (i : ℕ) → m ≡ Some i → counts_at (holds seen) own i ≡ true
      unfolding member_in
      in-counts i ei =
          let p = held_of c (find_module s y) i (sym em ∙ ei) in
          counts-is s n t good c seen own hs ho i ∙ member-bit (modules s) c i (found-visible s y i p.0) ∙ p.1

    answered : (r : GraphAnswer) → LedFrom s c y r → Ok r ≡ transitive_reads s c y
    answered r l = led-is s c y n (with_enough c (count_of (check_set s)) n (ap count_of e) enough) r l

    pub in_told : (seen own : List ℕ) → Holding seen (is_visible (modules s)) → Holding own (counts_in (holds seen) c)
        → (i : ℕ) (r : GraphAnswer) → m ≡ Some i → Onward (holds seen) own c i r → Ok r ≡ transitive_reads s c y
    unfolding member_in
    in_told seen own hs ho i r ei o = answered r (record {
      row_words = o.row_words;
      row_sound = λ j e. (i, found, leads-over by_code (reads_at s c) un-code (reads_unnamed_at s c) rs us i j (o.row_sound j e));
      row_complete = λ a j e f. o.row_complete j (leads-over (reads_at s c) by_code (reads_unnamed_at s c) un-code back_rs back-us i j (subst (λ (x : ℕ). Leads (reads_at s c) x j) (same a e) f));
      unnamed_sound = λ e. (i, found, one-over by_code (reads_at s c) un-code (reads_unnamed_at s c) rs us i (o.unnamed_sound e));
      unnamed_complete = λ a e x. o.unnamed_complete (one-over (reads_at s c) by_code (reads_unnamed_at s c) un-code back_rs back-us i (subst (λ (z : ℕ). LeadsToUnnamed s c z) (same a e) x));
    })
      where
        by_code : ℕ → ℕ → Bool
        by_code = edge_counts (holds seen) own c

        un-code : ℕ → Bool
        un-code = unnamed_counts (holds seen) own c

        rs : (a b : ℕ) → by_code a b ≡ reads_at s c a b
        rs a b = reads-is s n t good c seen own hs ho a b

        us : (a : ℕ) → un-code a ≡ reads_unnamed_at s c a
        us a = unnamed-is s n t good c seen own hs ho a

        back_rs : (a b : ℕ) → reads_at s c a b ≡ by_code a b
        back_rs a b = sym (rs a b)

        back-us : (a : ℕ) → reads_unnamed_at s c a ≡ un-code a
        back-us a = sym (us a)

        found : find_module s y ≡ Some i
        found = (held_of c (find_module s y) i (sym em ∙ ei)).0

        same : (a : ℕ) → find_module s y ≡ Some a → a ≡ i
        same a e = let q : Some a ≡ Some i = sym e ∙ found in cc

    pub in-none : (row : List ℕ) (r : GraphAnswer) → m ≡ None → Empty row → Told row false r → Ok r ≡ transitive_reads s c y
    unfolding member_in
    in-none row r en w told = answered r (record {
      row_words = own-words row false r told;
      row_sound = λ j e. true≠false (subst (λ (x : List ℕ). holds x j ≡ true) (ap (λ (x : GraphAnswer). x.row) told.is) e) (w.none j);
      row_complete = λ a j e f. absurd (no-path a j e f);
      unnamed_sound = λ e. true≠false e (ap (λ (x : GraphAnswer). x.unnamed) told.is);
      unnamed_complete = λ a e x. absurd (⊎_elim (λ z. no-counts a e (unnamed-counts s c a z)) (λ z. no-path a z.0 e z.1) x);
    })
      where
        no-counts : (a : ℕ) → find_module s y ≡ Some a → has_member (modules s) c a ≡ true → ⊥
        no-counts a e h₂ = true≠false (sym (member-bit (modules s) c a (found-visible s y a e)) ∙ h₂) (not-held-at c (find_module s y) a e (sym em ∙ en))

        no-path : (a j : ℕ) → find_module s y ≡ Some a → Leads (reads_at s c) a j → ⊥
        no-path a j e f = no-counts a e (leads-counts s c a j f)

pub ruleset readers_in_laws = (visible-few, readers_in)

pub ruleset reads_in_laws = (in-none, in-masked, in-counts, in_told)
