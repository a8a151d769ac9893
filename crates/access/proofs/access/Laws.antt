-- What each return of the questions shows.
use Prim.Native.Nat.{ℕ, ◌≤◌, ◌<◌}
use mathlib.Core.Path.{◌≡◌, refl, sym, ap, ◌∙◌}
use mathlib.Core.Bool.{Bool, true, false, ◌&&◌, ◌||◌, or_comm, cond}
use mathlib.Core.Option.{some, Option}
use mathlib.Core.List.{List, map}
use lib.ListN.{length, take}
use native.Mathlib.Omega.{arith}
use Rattle.records.specs.Bytes.{same_bytes}
use Rattle.records.specs.Name.{java_base, all_unnamed, mem_name}
use Rattle.records.specs.Descriptor.{descriptor_of, Descriptor, entry_of, reaches}
use Rattle.records.specs.Request.{request_of, check_inputs, Request, grant_of, has_grant}
use Rattle.records.specs.Set.{name_at, block_at, modules, check_set, count_of}
use Rattle.records.specs.Finder.{find_name, find_module}
use Rattle.records.specs.declared.error.ModuleError.{ModuleError}
use Rattle.records.specs.declared.error.ModuleError.TheVariants.{OutputTooShort}
use Rattle.records.specs.Finder.{Found}
use Rattle.records.specs.declared.set.Checked.{Checked}
use Rattle.records.proofs.finder.Modules.{find-is}
use Rattle.records.proofs.set.Blocks.{GoodSet, good-set}
use Rattle.records.proofs.sorted.Index.{indexed-none}
use Rattle.resolution.specs.Lists.{Name}
use Rattle.resolution.specs.Configuration.{member_bit, edge_bit, unnamed_bit}
use Rattle.resolution.specs.Positions.{module_at, is_visible}
use Rattle.resolution.specs.Observed.{has_member, has_edge}
use Rattle.resolution.proofs.ConfigurationWords.{with-refused, with-few, with_enough}
use Rattle.resolution.proofs.Positions.{Located, located_visible}
use Rattle.resolution.proofs.Observed.{member-bit, edge-bit, unnamed-bit}
use Rattle.resolution.proofs.Sets.{set-length, set_located, module_block}
use Rattle.records.proofs.request.Taken.{inputs-ok}
use Rattle.records.proofs.Logic.{by}
use Rattle.access.specs.Access.{passes, is_member, edge_to, is_reader, reads_name, resolved_module, named_verdict, unnamed_verdict, verdict, answered, check_access, is_reflection, entries_of, grants_of, denied, pick_result, grants, granted}
use Rattle.access.specs.Members.{among_members, member_in, module_of, verdict_by}
use Rattle.access.specs.Access.{AccessAnswer}
use Rattle.access.specs.CanRead.{ReadAnswer, read_answered, can_read}
use Rattle.access.specs.declared.access.AccessCheckResult.{AccessCheckResult}
use Rattle.std.specs.Prelude.{Some, None, Ok, Err}
use Rattle.records.specs.Record.{bodies}
use Rattle.records.specs.declared.record.Kind.TheVariants as Kind
use Rattle.access.specs.declared.access.AccessKind.{AccessKind}
use Rattle.access.specs.declared.access.AccessKind.TheVariants.{Access, Reflection}
use Rattle.access.specs.declared.access.AccessCheckResult.TheVariants.{Allowed, NotReadable, NotExported, NotOpened}

-- ---- the module of a name, by the table of a set that the check takes

pub find-found : (s : List ℕ) (n : ℕ) (t : List ℕ) → check_set s ≡ Ok (record { count = n; starts = t }) → (x : Name) (f : Found)
    → f ≡ find_name (map (name_at s) (take n t)) x 0 → f ≡ find_module s x
find-found s n t k x f e = e ∙ find-is s n t (good-set s n t k) x

pub ruleset find_laws = (find-found)

-- ---- a read edge

pub held_of : (c : List ℕ) (f : Found) (i : ℕ) → among_members c f ≡ Some i → (f ≡ Some i) × (member_bit c i ≡ true)
unfolding among_members
held_of c (Some j) i e = by (member_bit c j)
    (λ y. let q : Some j ≡ Some i = sym (rw y) ∙ e in let z : j ≡ i = cc in (q, rw (← z) y))
    (λ y. let q : None ≡ Some i = sym (rw y) ∙ e in absurd (let z : ◌≡◌ {A = ℕ} 0 1 = cc in omega arith))
held_of c None i e = absurd (let z : ◌≡◌ {A = ℕ} 0 1 = cc in omega arith)

pub not-held : (c : List ℕ) (f : Found) → among_members c f ≡ None → passes (member_bit c) f ≡ false
unfolding among_members passes
not-held c (Some j) e = by (member_bit c j)
    (λ y. let q : Some j ≡ None = sym (rw y) ∙ e in absurd (let z : ◌≡◌ {A = ℕ} 0 1 = cc in omega arith))
    (λ y. y)
not-held c None e = refl

pub not-held-at : (c : List ℕ) (f : Found) (i : ℕ) → f ≡ Some i → among_members c f ≡ None → member_bit c i ≡ false
unfolding passes
not-held-at c f i e h = sym (rw e) ∙ not-held c f h

-- what a name finds is observable, so that the tests are the bits of the words
pub found-visible : (s : List ℕ) (x : Name) (i : ℕ) → find_module s x ≡ Some i → is_visible (modules s) i ≡ true
found-visible s x i e = located_visible x (modules s) i (set_located s x i e)

edge-found : (s : List ℕ) (c : List ℕ) (y : Name) (i : ℕ) → is_visible (modules s) i ≡ true → (f : Found) → find_module s y ≡ f
    → passes (has_edge (modules s) c i) f ≡ passes (edge_bit c i) f
unfolding passes
edge-found s c y i v (Some j) e = edge-bit (modules s) c i j v (found-visible s y j e)
edge-found s c y i v None e = refl

pub edge_to_lem : (s : List ℕ) (c : List ℕ) (y : Name) (i : ℕ) → is_visible (modules s) i ≡ true
    → edge_to s c y i ≡ passes (edge_bit c i) (find_module s y) || (same_bytes y all_unnamed && unnamed_bit c i)
unfolding edge_to
edge_to_lem s c y i v = rw (edge-found s c y i v (find_module s y) refl, unnamed-bit (modules s) c i v)

member-found : (s : List ℕ) (c : List ℕ) (x : Name) (f : Found) → find_module s x ≡ f → passes (has_member (modules s) c) f ≡ passes (member_bit c) f
unfolding passes
member-found s c x (Some i) e = member-bit (modules s) c i (found-visible s x i e)
member-found s c x None e = refl

pub member-by : (s : List ℕ) (c : List ℕ) (x : Name) → is_member s c x ≡ passes (member_bit c) (find_module s x)
unfolding is_member
member-by s c x = member-found s c x (find_module s x) refl

module _ (s : List ℕ) (c : List ℕ) (x y : Name) (m : Found) (em : m ≡ member_in s c x) where
  pub reads-from : (i : ℕ) (r : Bool) → m ≡ Some i → r ≡ passes (edge_bit c i) (find_module s y) || (same_bytes y all_unnamed && unnamed_bit c i) → r ≡ reads_name s c x y
  unfolding reads_name is_reader passes member_in
  reads-from i r ei er =
      let p = held_of c (find_module s x) i (sym em ∙ ei) in
      let v = found-visible s x i p.0 in
      er ∙ sym (rw p.0 (rw (member-bit (modules s) c i v, p.1) (edge_to_lem s c y i v)))

  pub reads_none : m ≡ None → false ≡ reads_name s c x y
  unfolding reads_name is_reader member_in
  reads_none en = turned (find_module s x) refl (not-held c (find_module s x) (sym em ∙ en))
    where
      turned : (f : Found) → find_module s x ≡ f → passes (member_bit c) f ≡ false → false ≡ passes (is_reader s c y) f
      turned (Some i) e h = unfold passes is_reader in sym (rw (member-bit (modules s) c i (found-visible s x i e) ∙ h))
      turned None e h = unfold passes in refl

pub ruleset reads_laws = (reads-from, reads_none)

-- ---- the verdict

-- the module of the member is the module that is resolved
module _ (s : List ℕ) (n : ℕ) (t : List ℕ) (k : check_set s ≡ Ok (record { count = n; starts = t })) (c : List ℕ) (x : Name) where
  good : GoodSet s n t
  good = good-set s n t k

  resolved : (f : Found) → find_module s x ≡ f → module_of s t (among_members c f) ≡ resolved_module s c x
  unfolding module_of among_members resolved_module passes
  resolved (Some i) e =
      let h : is_member s c x ≡ member_bit c i = member-by s c x ∙ ap (passes (member_bit c)) e in
      by (member_bit c i)
      (λ y.
      let l : Located x (modules s) i = set_located s x i e in
      let m : module_at (modules s) i ≡ descriptor_of (block_at s t i) = module_block s n t good i (omega (arith, l.within, set-length s n t good)) in
      let b : is_member s c x ≡ true = h ∙ y in
      rw (y, b) (sym (l.is ∙ ap some m)))
      (λ y. let b : is_member s c x ≡ false = h ∙ y in rw (y, b))
  resolved None e = let b : is_member s c x ≡ false = member-by s c x ∙ ap (passes (member_bit c)) e in rw b

  pub resolved-is : (m : Found) → m ≡ member_in s c x → module_of s t m ≡ resolved_module s c x
  unfolding member_in
  resolved-is m e = ap (module_of s t) e ∙ resolved (find_module s x) refl

-- ---- the set and the request are checked first

module _ (s q : List ℕ) (f : Bool) (c : List ℕ) (x y p : Name) where
  pub answer-refused : (e : ModuleError) (r : AccessAnswer) → Err e ≡ check_inputs s q → r ≡ Err e → r ≡ check_access f s q c x y p
  unfolding check_access answered
  answer-refused e r h er = er ∙ sym (ap (answered f s q c x y p) (with-refused c (count_of (check_inputs s q)) e (ap count_of (sym h))))

  module _ (k : Checked) (ek : Ok k ≡ check_inputs s q) where
    pub answer-short : length c < 4616 → Err (OutputTooShort 4616) ≡ check_access f s q c x y p
    unfolding check_access answered
    answer-short l = sym (ap (answered f s q c x y p) (with-few c (count_of (check_inputs s q)) k.count (ap count_of (sym ek)) l))

    -- the verdict over the table of the set
    pub answer-verdict : (v t : List ℕ) (m : Found) (e : Bool) (r : AccessCheckResult) → 4616 ≤ length c → v ≡ s → t ≡ k.starts → m ≡ member_in v c y
        → e ≡ reads_name v c x y → r ≡ verdict_by f (request_of q) (module_of v t m) (e || same_bytes y java_base) x y p
        → Ok r ≡ check_access f s q c x y p
    unfolding check_access answered verdict named_verdict unnamed_verdict verdict_by
    answer-verdict v t m e r l ev et em ee er =
        let em' : m ≡ member_in s c y = em ∙ rw ev in
        let ee' : e ≡ reads_name s c x y = ee ∙ rw ev in
        let er' : r ≡ verdict_by f (request_of q) (module_of s k.starts m) (e || same_bytes y java_base) x y p = er ∙ rw (ev, et) in
        ap Ok (er' ∙ rw (resolved-is s k.count k.starts (inputs-ok s q k ek) c y m em', ee'))
        ∙ sym (ap (answered f s q c x y p) (with_enough c (count_of (check_inputs s q)) k.count (ap count_of (sym ek)) l))

pub answer-set : (s q : List ℕ) (k : Checked) → Ok k ≡ check_inputs s q → check_set s ≡ Ok k
answer-set s q k ek = inputs-ok s q k ek

pub ruleset answer_laws = (indexed-none, answer-refused, answer-short, answer-verdict, answer-set)

-- ---- whether a module can read another

module _ (s : List ℕ) (c : List ℕ) (x y : Name) where
  pub can-refused : (e : ModuleError) (r : ReadAnswer) → Err e ≡ check_set s → r ≡ Err e → r ≡ can_read s c x y
  unfolding can_read read_answered
  can-refused e r h er = er ∙ sym (ap (read_answered s c x y) (with-refused c (count_of (check_set s)) e (ap count_of (sym h))))

  module _ (k : Checked) (ek : Ok k ≡ check_set s) where
    pub can-short : length c < 4616 → Err (OutputTooShort 4616) ≡ can_read s c x y
    unfolding can_read read_answered
    can-short l = sym (ap (read_answered s c x y) (with-few c (count_of (check_set s)) k.count (ap count_of (sym ek)) l))

    module _ (l : 4616 ≤ length c) (a : Bool) (ea : a ≡ same_bytes x y) where
      answered-read : can_read s c x y ≡ Ok (same_bytes x y || (same_bytes y java_base || reads_name s c x y))
      unfolding can_read read_answered
      answered-read = ap (read_answered s c x y) (with_enough c (count_of (check_set s)) k.count (ap count_of (sym ek)) l)

      pub can-same : a ≡ true → Ok true ≡ can_read s c x y
      can-same z = sym (answered-read ∙ rw (← ea, z))

      -- over the table of the set
      pub can-edge : (v : List ℕ) (e r : Bool) → a ≡ false → v ≡ s → e ≡ reads_name v c x y → r ≡ e || same_bytes y java_base → Ok r ≡ can_read s c x y
      can-edge v e r z ev ee er =
          let ee' : e ≡ reads_name s c x y = ee ∙ rw ev in
          ap Ok (er ∙ ap (λ (t : Bool). t || same_bytes y java_base) ee' ∙ or_comm (reads_name s c x y) (same_bytes y java_base))
          ∙ sym (answered-read ∙ rw (← ea, z))

pub ruleset can_laws = (indexed-none, can-refused, can-short, can-same, can-edge)

-- ---- what is granted, by the kind of the question

module _ (q : List ℕ) (x p y : Name) (k : AccessKind) (r : Bool) where
  pub override_exports : k ≡ Access → r ≡ has_grant (map grant_of (bodies Kind.AddExports q)) x p y → r ≡ has_grant (grants_of (is_reflection k) (request_of q)) x p y
  unfolding grants_of request_of
  override_exports e er = er ∙ sym (rw e)

  pub override_opens : k ≡ Reflection → r ≡ has_grant (map grant_of (bodies Kind.AddOpens q)) x p y → r ≡ has_grant (grants_of (is_reflection k) (request_of q)) x p y
  unfolding grants_of request_of
  override_opens e er = er ∙ sym (rw e)

entries_are : (f : Bool) (b : List ℕ) → entries_of f (descriptor_of b) ≡ map entry_of (bodies (cond f Kind.Opens Kind.Exports) b)
unfolding entries_of descriptor_of
entries_are true b = refl
entries_are false b = refl

module _ (k : AccessKind) (b : List ℕ) (p y : Name) (a : Bool) (ea : a ≡ (descriptor_of b).is_automatic) (r : Bool) where
  module _ (z : a ≡ false) (e : k ≡ Reflection) (o : Bool) (eo : o ≡ (descriptor_of b).is_open) where
    pub grants_open : o ≡ true → r ≡ mem_name p (descriptor_of b).packages → r ≡ grants (is_reflection k) (descriptor_of b) p y
    unfolding grants
    grants_open w er = er ∙ sym (rw (← ea, z, e, ← eo, w))

    pub grants-opens : o ≡ false → r ≡ reaches (map entry_of (bodies Kind.Opens b)) p y → r ≡ grants (is_reflection k) (descriptor_of b) p y
    unfolding grants
    grants-opens w er = er ∙ sym (rw (← ea, z, e, ← eo, w, entries_are true b))

module _ (k : AccessKind) (g : Bool) where
  pub allowed_yes : g ≡ true → Allowed ≡ pick_result g Allowed (denied (is_reflection k))
  allowed_yes y = sym (rw y)

  pub allowed_exports : g ≡ false → k ≡ Access → NotExported ≡ pick_result g Allowed (denied (is_reflection k))
  unfolding denied
  allowed_exports y z = sym (rw (y, z))

  pub allowed_opens : g ≡ false → k ≡ Reflection → NotOpened ≡ pick_result g Allowed (denied (is_reflection k))
  unfolding denied
  allowed_opens y z = sym (rw (y, z))

-- ---- the verdict of a module that asks of another

module _ (rq : Request) (f : Bool) (o : Option Descriptor) (e : Bool) (x y p : Name) (a : Bool) (ea : a ≡ same_bytes x y) where
  module _ (z : a ≡ false) (b : Bool) (eb : b ≡ same_bytes x all_unnamed) where
    pub verdict-not : (d : Bool) → b ≡ false → d ≡ e → d ≡ false → NotReadable ≡ verdict_by f rq o e x y p
    unfolding verdict_by
    verdict-not d w ed v = sym (rw (← ea, z, ← eb, w, ← ed, v))

    pub verdict-named : (d g : Bool) (r : AccessCheckResult) → b ≡ false → d ≡ e → d ≡ true → g ≡ has_grant (grants_of f rq) y p x || granted f o p x
        → r ≡ pick_result g Allowed (denied f) → r ≡ verdict_by f rq o e x y p
    unfolding verdict_by
    verdict-named d g r w ed v eg er = er ∙ rw eg (sym (rw (← ea, z, ← eb, w, ← ed, v)))
