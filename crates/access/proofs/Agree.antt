-- Configurations of which the three tests say the same have the same answers; and they say the same where the bits at the modules
-- that are not hidden are the same.
use mathlib.Core.Path.{◌≡◌, refl, sym, ap, ap₂, ◌∙◌}
use Prim.Native.Nat.{ℕ}
use mathlib.Core.Bool.{Bool, true, false, ◌&&◌, ◌||◌, cond}
use mathlib.Core.Option.{Option, none}
use mathlib.Core.List.{List}
use Rattle.records.specs.Bytes.{same_bytes}
use Rattle.records.specs.Descriptor.{Descriptor}
use Rattle.records.specs.Finder.{find_module}
use Rattle.records.specs.Name.{java_base, all_unnamed, mem_name}
use Rattle.records.specs.Request.{Request, request_of, check_inputs}
use Rattle.records.specs.Set.{modules, check_set, count_of}
use Rattle.records.specs.declared.error.ModuleError.TheVariants.{OutputTooShort}
use Rattle.records.specs.Finder.{Found}
use Rattle.records.specs.Set.{CountAnswer}
use Rattle.resolution.specs.Configuration.{word_count, pick_answer, with_words, member_bit, edge_bit, unnamed_bit}
use Rattle.resolution.specs.Lists.{Name}
use Rattle.resolution.specs.Observed.{has_member, has_edge, has_unnamed_edge}
use Rattle.resolution.specs.PackageOwner.{owns_at, owner_in, find_module_for_package}
use Rattle.resolution.specs.Positions.{module_at, is_visible}
use Rattle.resolution.specs.Resolution.{find}
use Rattle.resolution.proofs.Words.{words-over}
use Rattle.resolution.proofs.owner.Laws.{lowest-over}
use Rattle.access.specs.Access.{passes, is_member, edge_to, is_reader, reads_name, resolved_module, is_reflection, verdict, answered, check_access}
use Rattle.access.specs.Agree.{Agree, SameVisibleBits, SameAnswers}
use Rattle.access.specs.CanRead.{read_answered, can_read}
use Rattle.access.specs.Members.{verdict_by}
use Rattle.access.specs.ReadGraph.{row_length, reads_at, reads_unnamed_at, Leads, GraphOutcome, readers_answered, readers_of, transitive_reads, LeadsToUnnamed, LedFrom}
use Rattle.access.specs.declared.graph.GraphAnswer.{GraphAnswer}
use Rattle.access.proofs.Visible.{verdict-is}
use Rattle.access.proofs.graph.Answers.{leads-over, one-over}
use Rattle.access.proofs.graph.Led.{transitive_led, transitive_only}
use Rattle.std.specs.Prelude.{Some, None, Ok, Err}

-- what is found passes both of two tests that are the same, or neither
passes_over : (p q : ℕ → Bool) → ((i : ℕ) → p i ≡ q i) → (f : Found) → passes p f ≡ passes q f
unfolding passes
passes_over p q h (Some i) = h i
passes_over p q h None = refl

module _ (s : List ℕ) (c₁ c₂ : List ℕ) (h : Agree s c₁ c₂) where
  agree-back : Agree s c₂ c₁
  agree-back = record { enough = sym h.enough; members = λ i. sym (h.members i); edges = λ i j. sym (h.edges i j); unnamed = λ i. sym (h.unnamed i) }

  -- the words are enough for both, or for neither
  same_taken : (a : CountAnswer) → with_words c₁ a ≡ with_words c₂ a
  unfolding with_words
  same_taken (Err e) = refl
  same_taken (Ok n) = ap (λ (b : Bool). pick_answer b (Err (OutputTooShort word_count)) (Ok n)) h.enough

  -- ---- what is said of names

  same-member : (n : Name) → is_member s c₁ n ≡ is_member s c₂ n
  unfolding is_member
  same-member n = passes_over (has_member (modules s) c₁) (has_member (modules s) c₂) h.members (find_module s n)

  same-edge : (y : Name) (i : ℕ) → edge_to s c₁ y i ≡ edge_to s c₂ y i
  unfolding edge_to
  same-edge y i = ap₂ (λ (a b : Bool). a || (same_bytes y all_unnamed && b))
      (passes_over (has_edge (modules s) c₁ i) (has_edge (modules s) c₂ i) (h.edges i) (find_module s y)) (h.unnamed i)

  same-reader : (y : Name) (i : ℕ) → is_reader s c₁ y i ≡ is_reader s c₂ y i
  unfolding is_reader
  same-reader y i = ap₂ (λ (a b : Bool). a && b) (h.members i) (same-edge y i)

  same_reads : (x y : Name) → reads_name s c₁ x y ≡ reads_name s c₂ x y
  unfolding reads_name
  same_reads x y = passes_over (is_reader s c₁ y) (is_reader s c₂ y) (same-reader y) (find_module s x)

  same_module : (n : Name) → resolved_module s c₁ n ≡ resolved_module s c₂ n
  unfolding resolved_module
  same_module n = ap (λ (b : Bool). cond b (find n (modules s)) none) (same-member n)

  -- ---- verdicts

  same-verdict : (reflection : Bool) (rq : Request) (asker target p : Name)
      → verdict reflection s rq c₁ asker target p ≡ verdict reflection s rq c₂ asker target p
  same-verdict reflection rq asker target p =
      verdict-is reflection s rq c₁ asker target p
      ∙ ap₂ (λ (m : Option Descriptor) (r : Bool). verdict_by reflection rq m (r || same_bytes target java_base) asker target p) (same_module target) (same_reads asker target)
      ∙ sym (verdict-is reflection s rq c₂ asker target p)

  same-answered : (reflection : Bool) (q : List ℕ) (asker target p : Name) (a : CountAnswer)
      → answered reflection s q c₁ asker target p a ≡ answered reflection s q c₂ asker target p a
  unfolding answered
  same-answered reflection q asker target p (Err e) = refl
  same-answered reflection q asker target p (Ok n) = ap Ok (same-verdict reflection (request_of q) asker target p)

  same-access : (reflection : Bool) (q : List ℕ) (asker target p : Name)
      → check_access reflection s q c₁ asker target p ≡ check_access reflection s q c₂ asker target p
  unfolding check_access
  same-access reflection q asker target p =
      same-answered reflection q asker target p (with_words c₁ (count_of (check_inputs s q)))
      ∙ ap (answered reflection s q c₂ asker target p) (same_taken (count_of (check_inputs s q)))

  -- ---- whether a module can read another

  same-read-answered : (x y : Name) (a : CountAnswer) → read_answered s c₁ x y a ≡ read_answered s c₂ x y a
  unfolding read_answered
  same-read-answered x y (Err e) = refl
  same-read-answered x y (Ok n) = ap (λ (b : Bool). Ok (same_bytes x y || (same_bytes y java_base || b))) (same_reads x y)

  same-can-read : (x y : Name) → can_read s c₁ x y ≡ can_read s c₂ x y
  unfolding can_read
  same-can-read x y = same-read-answered x y (with_words c₁ (count_of (check_set s))) ∙ ap (read_answered s c₂ x y) (same_taken (count_of (check_set s)))

  -- ---- the members that read a name

  same-readers-answered : (y : Name) (a : CountAnswer) → readers_answered s c₁ y a ≡ readers_answered s c₂ y a
  unfolding readers_answered
  same-readers-answered y (Err e) = refl
  same-readers-answered y (Ok n) =
      ap {B = GraphOutcome} (λ (l : List ℕ). Ok (record { row = l; unnamed = false })) (words-over (is_reader s c₁ y) (is_reader s c₂ y) (same-reader y) row_length)

  same-readers : (y : Name) → readers_of s c₁ y ≡ readers_of s c₂ y
  unfolding readers_of
  same-readers y = same-readers-answered y (with_words c₁ (count_of (check_set s))) ∙ ap (readers_answered s c₂ y) (same_taken (count_of (check_set s)))

  -- ---- the owner of a package

  same-owns : (p : Name) (k : ℕ) → owns_at (modules s) c₁ p k ≡ owns_at (modules s) c₂ p k
  unfolding owns_at
  same-owns p k = ap (λ (b : Bool). b && mem_name p (module_at (modules s) k).packages) (h.members k)

  same-owner_in : (p : Name) (a : CountAnswer) → owner_in s c₁ p a ≡ owner_in s c₂ p a
  unfolding owner_in
  same-owner_in p (Err e) = refl
  same-owner_in p (Ok n) = lowest-over (owns_at (modules s) c₁ p) (owns_at (modules s) c₂ p) (same-owns p) 0 n

  same-owner : (p : Name) → find_module_for_package s c₁ p ≡ find_module_for_package s c₂ p
  unfolding find_module_for_package
  same-owner p = same-owner_in p (with_words c₁ (count_of (check_set s))) ∙ ap (owner_in s c₂ p) (same_taken (count_of (check_set s)))

  -- ---- what read edges lead to

  same_at : (i j : ℕ) → reads_at s c₁ i j ≡ reads_at s c₂ i j
  unfolding reads_at
  same_at i j = ap₂ (λ (a b : Bool). a && b) (h.members i) (h.edges i j)

  same-unnamed : (i : ℕ) → reads_unnamed_at s c₁ i ≡ reads_unnamed_at s c₂ i
  unfolding reads_unnamed_at
  same-unnamed i = ap₂ (λ (a b : Bool). a && b) (h.members i) (h.unnamed i)

  leads : (i k : ℕ) → Leads (reads_at s c₁) i k → Leads (reads_at s c₂) i k
  leads i k f = leads-over (reads_at s c₁) (reads_at s c₂) (reads_unnamed_at s c₁) (reads_unnamed_at s c₂) same_at same-unnamed i k f

  leads-unnamed : (i : ℕ) → LeadsToUnnamed s c₁ i → LeadsToUnnamed s c₂ i
  leads-unnamed i x = one-over (reads_at s c₁) (reads_at s c₂) (reads_unnamed_at s c₁) (reads_unnamed_at s c₂) same_at same-unnamed i x

module _ (s : List ℕ) (c₁ c₂ : List ℕ) (h : Agree s c₁ c₂) where
  back : Agree s c₂ c₁
  back = agree-back s c₁ c₂ h

  same-led : (x : Name) (r : GraphAnswer) → LedFrom s c₁ x r → LedFrom s c₂ x r
  same-led x r l = record {
    row_words = l.row_words;
    row_sound = λ k e. let f = l.row_sound k e in (f.0, f.1, leads s c₁ c₂ h f.0 k f.2);
    row_complete = λ i k e f. l.row_complete i k e (leads s c₂ c₁ back i k f);
    unnamed_sound = λ e. let f = l.unnamed_sound e in (f.0, f.1, leads-unnamed s c₁ c₂ h f.0 f.2);
    unnamed_complete = λ i e f. l.unnamed_complete i e (leads-unnamed s c₂ c₁ back i f);
  }

  same_transitive : (x : Name) → transitive_reads s c₁ x ≡ transitive_reads s c₂ x
  same_transitive x =
      let t = transitive_led s c₁ x in
      transitive_only s c₂ x (transitive_reads s c₁ x) (record {
        refused = λ e k. t.refused e (same_taken s c₁ c₂ h (count_of (check_set s)) ∙ k);
        answered = λ n k. let a = t.answered n (same_taken s c₁ c₂ h (count_of (check_set s)) ∙ k) in (a.0, a.1, same-led x a.0 a.2);
      })

-- ---- the three tests decide every answer

pub tests-decide : (s : List ℕ) (c₁ c₂ : List ℕ) → Agree s c₁ c₂ → SameAnswers s c₁ c₂
tests-decide s c₁ c₂ h = record {
  verdicts = λ kind. same-access s c₁ c₂ h (is_reflection kind);
  can_read_lem = same-can-read s c₁ c₂ h;
  readers = same-readers s c₁ c₂ h;
  owners = same-owner s c₁ c₂ h;
  transitive = same_transitive s c₁ c₂ h;
}

-- ---- bits at hidden modules

-- a test that asks first whether a module is observable looks at nothing else where it is not
where_seen : (v a b : Bool) → (v ≡ true → a ≡ b) → v && a ≡ v && b
where_seen true a b f = f refl
where_seen false a b f = refl

pub hidden_ignored : (s : List ℕ) (c₁ c₂ : List ℕ) → SameVisibleBits s c₁ c₂ → Agree s c₁ c₂
unfolding has_member has_edge has_unnamed_edge
hidden_ignored s c₁ c₂ b = record {
  enough = b.enough;
  members = λ i. where_seen (seen i) (member_bit c₁ i) (member_bit c₂ i) (b.members i);
  edges = λ i j. where_seen (seen i) (seen j && edge_bit c₁ i j) (seen j && edge_bit c₂ i j)
      (λ v. where_seen (seen j) (edge_bit c₁ i j) (edge_bit c₂ i j) (b.edges i j v));
  unnamed = λ i. where_seen (seen i) (unnamed_bit c₁ i) (unnamed_bit c₂ i) (b.unnamed i);
}
  where
    seen : ℕ → Bool
    seen i = is_visible (modules s) i
