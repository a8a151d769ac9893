-- The owner of a package by its position, in the configuration that resolution gives: it is the module that owns the package.
use mathlib.Core.Path.{◌≡◌, refl, sym, ap, ◌∙◌, subst}
use Prim.Native.Nat.{ℕ, zero, suc, ◌+◌, ◌≤◌, ◌<◌}
use native.Mathlib.Omega.{arith}
use native.Mathlib.Nat.{add-zero}
use mathlib.Core.Bool.{Bool, true, false}
use mathlib.Core.Option.{Option, none, some}
use mathlib.Core.List.{List, ◌++◌}
use lib.ListN.{length, drop, length-append}
use Rattle.records.specs.Bytes.{same_bytes}
use Rattle.records.specs.Name.{mem_name}
use Rattle.records.specs.Descriptor.{Descriptor}
use Rattle.records.specs.Request.{Request, request_of, check_inputs}
use Rattle.records.specs.Set.{modules, check_set, count_of, starts_in}
use Rattle.records.specs.declared.error.ModuleError.{ModuleError}
use Rattle.records.proofs.Logic.{clash, and_left, and_both, and_split, by}
use Rattle.records.proofs.bytes.Laws.{same_refl}
use Rattle.records.proofs.set.Blocks.{GoodSet, good-set}
use Rattle.resolution.specs.Lists.{Name, Mem}
use Rattle.resolution.specs.Loop.{done}
use Rattle.resolution.specs.Owner.{owner, named}
use Rattle.resolution.specs.Owner as Owned
use Rattle.resolution.specs.Resolution.{find, has_module, index_of, Refusal, State}
use Rattle.resolution.specs.Resolution as Resolution
use Rattle.resolution.specs.Closed.{Accepted}
use Rattle.resolution.specs.Positions.{module_at, is_visible}
use Rattle.resolution.specs.Observed.{has_member}
use Rattle.resolution.specs.Resolve.{member_at, edge_at, unnamed_at, configuration_of, told, answered, resolve}
use Rattle.resolution.specs.Resolve as Resolve
use Rattle.resolution.specs.PackageOwner.{pick_owner, owns_at, lowest, owner_in, find_module_for_package}
use Rattle.resolution.specs.Configuration.{word_count}
use Rattle.resolution.specs.PackageOwner.{Owner}
use Rattle.resolution.proofs.Lists.{any_in, first_in, first_out, mem_name_in, mem_name-out}
use Rattle.resolution.proofs.Find.{find-mem, has-find, has_some}
use Rattle.resolution.proofs.Positions.{find_at, index_at, index-visible, visible_in, visible-found}
use Rattle.resolution.proofs.Sets.{set-length, set-accepted}
use Rattle.resolution.proofs.ConfigurationWords.{words-of-length, with_enough}
use Rattle.resolution.proofs.Observed.{member_is, member-visible}
use Rattle.records.proofs.request.Taken.{inputs-taken}
use Rattle.std.specs.Prelude.{Some, None, Ok, Err}

-- ---- the lowest position that passes a test

module _ (q : ℕ → Bool) where
  from_at : (k n i : ℕ) → lowest q k n ≡ (Ok (Some i)) → q i ≡ true
  unfolding lowest
  from_at k zero i e = clash (cc)
  from_at k (suc n) i e = go (q k) refl (from_at (suc k) n i) e
    where
      go : (b : Bool) → q k ≡ b → (lowest q (suc k) n ≡ (Ok (Some i)) → q i ≡ true) → pick_owner b (Ok (Some k)) (lowest q (suc k) n) ≡ (Ok (Some i)) → q i ≡ true
      go true eb ih h = let z : k ≡ i = cc in subst (λ (x : ℕ). q x ≡ true) z eb
      go false eb ih h = ih h

  from-not-refused : (k n : ℕ) (e : ModuleError) → lowest q k n ≡ Err e → ⊥
  unfolding lowest
  from-not-refused k zero e h = clash (cc)
  from-not-refused k (suc n) e h = go (q k) (from-not-refused (suc k) n e) h
    where
      go : (b : Bool) → (lowest q (suc k) n ≡ Err e → ⊥) → pick_owner b (Ok (Some k)) (lowest q (suc k) n) ≡ Err e → ⊥
      go true ih w = clash (cc)
      go false ih w = ih w

  -- a position that passes, and none below does
  at_from : (k n d : ℕ) → d < n → q (k + d) ≡ true → ((e : ℕ) → e < d → q (k + e) ≡ false) → lowest q k n ≡ (Ok (Some (k + d)))
  unfolding lowest
  at_from k zero d l h lacks = absurd (omega arith)
  at_from k (suc n) zero l h lacks = let w : q k ≡ true = rw (add-zero k) at h in rw (w, add-zero k)
  at_from k (suc n) (suc d) l h lacks =
      let z : suc k + d ≡ k + suc d = omega arith in
      let w : q k ≡ false = rw (add-zero k) at (lacks 0 (omega arith)) in
      let more : lowest q (suc k) n ≡ (Ok (Some (suc k + d))) = at_from (suc k) n d (omega arith)
      (subst (λ (x : ℕ). q x ≡ true) (sym z) h)
      (λ e b. let y : k + suc e ≡ suc k + e = omega arith in subst (λ (x : ℕ). q x ≡ false) y (lacks (suc e) (omega arith))) in
      rw (w, more, z)

-- ---- in a set that the check takes, of the modules resolved

-- what the function says of a package, and which module owns it
pub record OwnerTold (s c : List ℕ) (R : List Descriptor) (p : Name) : Type 0 where
  pub at : (i : ℕ) → find_module_for_package s c p ≡ (Ok (Some i)) → (is_visible (modules s) i ≡ true) × (owner R p ≡ some (module_at (modules s) i).name)
  pub is_at_lem : (i : ℕ) → is_visible (modules s) i ≡ true → owner R p ≡ some (module_at (modules s) i).name → find_module_for_package s c p ≡ (Ok (Some i))
  pub nothing : find_module_for_package s c p ≡ (Ok None) → owner R p ≡ none
  pub is_nothing : owner R p ≡ none → find_module_for_package s c p ≡ (Ok None)

record Owns (R : List Descriptor) (p : Name) (m : Descriptor) : Type 0 where
  resolved : Mem m R
  has : Mem p m.packages

module _ (s : List ℕ) (n : ℕ) (t : List ℕ) (g : GoodSet s n t) (rq : Request) (R : List Descriptor) (a : Accepted (modules s) rq R) (p : Name) (rest : List ℕ) where
  abbrev owns : ℕ → Bool
  owns = owns_at (modules s) (configuration_of (modules s) rq R ++ rest) p

  -- a member is observable, and resolved
  held : (i : ℕ) → has_member (modules s) (configuration_of (modules s) rq R ++ rest) i ≡ member_at (modules s) R i
  held i = member_is (modules s) (omega (arith, set-length s n t g, g.few)) rq R rest i

  -- a resolved module of the name at a position is the module there
  same_module : (i : ℕ) → is_visible (modules s) i ≡ true → (m : Descriptor) → Mem m R → m.name ≡ (module_at (modules s) i).name → m ≡ module_at (modules s) i
  same_module i l m h e =
      let x : find (module_at (modules s) i).name (modules s) ≡ some m = subst (λ (z : Name). find z (modules s) ≡ some m) e (a.sound m h) in
      let y : some m ≡ some (module_at (modules s) i) = sym x ∙ visible-found (modules s) i l in
      cc

  -- a position that owns it is not hidden
  owns_seen : (i : ℕ) → owns i ≡ true → is_visible (modules s) i ≡ true
  unfolding owns_at
  owns_seen i h = member-visible (modules s) (configuration_of (modules s) rq R ++ rest) i
      (and_left (has_member (modules s) (configuration_of (modules s) rq R ++ rest) i) (mem_name p (module_at (modules s) i).packages) h)

  owns-out : (i : ℕ) → owns i ≡ true → Owns R p (module_at (modules s) i)
  unfolding owns_at member_at
  owns-out i h =
      let m : Descriptor = module_at (modules s) i in
      let o = and_split (has_member (modules s) (configuration_of (modules s) rq R ++ rest) i) (mem_name p m.packages) h in
      let b = and_split (is_visible (modules s) i) (has_module R m.name) (sym (held i) ∙ o.0) in
      let f = has_some m.name R b.1 in
      let r = find-mem m.name R f.0 f.1 in
      record {
        resolved = subst (λ (z : Descriptor). Mem z R) (same_module i b.0 f.0 r.0 r.1) r.0;
        has = mem_name-out p m.packages o.1;
      }

  owns_in : (i : ℕ) → is_visible (modules s) i ≡ true → Owns R p (module_at (modules s) i) → owns i ≡ true
  unfolding owns_at member_at has_module
  owns_in i l o = and_both
      (held i ∙ and_both l (any_in (λ (k : Descriptor). same_bytes k.name (module_at (modules s) i).name) o.resolved (same_refl (module_at (modules s) i).name)))
      (mem_name_in o.has)

  -- the module that has it is the owner
  owner-some : (m : Descriptor) → Owns R p m → owner R p ≡ some m.name
  unfolding owner named Owned.owner_in
  owner-some m o =
      let test : Descriptor → Bool = (λ (k : Descriptor). mem_name p k.packages) in
      let f = first_in test o.resolved (mem_name_in o.has) in
      let r = first_out test R f.1 in
      let q : f.0 ≡ m = a.apart f.0 m p r.0 o.resolved (mem_name-out p f.0.packages r.1) o.has in
      ap named f.1 ∙ ap (λ (z : Descriptor). some z.name) q

  owner-out : (o : Option Descriptor) → Owned.owner_in R p ≡ o → (x : Name) → named o ≡ some x → (m : Descriptor) × Owns R p m × (m.name ≡ x)
  unfolding named Owned.owner_in
  owner-out none e x h = clash (cc)
  owner-out (some m) e x h =
      let r = first_out (λ (k : Descriptor). mem_name p k.packages) R e in
      let q : m.name ≡ x = cc in
      (m, record { resolved = r.0; has = mem_name-out p m.packages r.1 }, q)

  lowest-is : (i : ℕ) → is_visible (modules s) i ≡ true → Owns R p (module_at (modules s) i) → lowest owns 0 n ≡ (Ok (Some i))
  lowest-is i l o =
      let z : 0 + i ≡ i = omega arith in
      subst (λ (x : ℕ). lowest owns 0 n ≡ (Ok (Some x))) z
      (at_from owns 0 n i (omega (arith, visible_in (modules s) i l, set-length s n t g)) (subst (λ (x : ℕ). owns x ≡ true) (sym z) (owns_in i l o))
      (λ e b. let y : 0 + e ≡ e = omega arith in subst (λ (x : ℕ). owns x ≡ false) (sym y) (below e b)))
    where
      below : (e : ℕ) → e < i → owns e ≡ false
      below e b = by (owns e)
          (λ y.
          let oe = owns-out e y in
          let q : module_at (modules s) e ≡ module_at (modules s) i = a.apart (module_at (modules s) e) (module_at (modules s) i) p oe.resolved o.resolved oe.has o.has in
          let ie : e ≡ i = sym (index_at (modules s) e (owns_seen e y)) ∙ ap (λ (k : Descriptor). index_of k.name (modules s)) q ∙ index_at (modules s) i l in
          absurd (omega arith))
          (λ y. y)

  told_at : (i : ℕ) → lowest owns 0 n ≡ (Ok (Some i)) → (is_visible (modules s) i ≡ true) × (owner R p ≡ some (module_at (modules s) i).name)
  told_at i e = let h = from_at owns 0 n i e in (owns_seen i h, owner-some (module_at (modules s) i) (owns-out i h))

  told-some : (x : Name) → owner R p ≡ some x → (i : ℕ) × (is_visible (modules s) i ≡ true) × ((module_at (modules s) i).name ≡ x) × (lowest owns 0 n ≡ (Ok (Some i)))
  unfolding owner
  told-some x e =
      let r = owner-out (Owned.owner_in R p) refl x e in
      let m : Descriptor = r.0 in
      let o : Owns R p m = r.1 in
      let f : find m.name (modules s) ≡ some m = a.sound m o.resolved in
      let h : has_module (modules s) m.name ≡ true = has-find m.name (modules s) m f in
      let l = index-visible m.name (modules s) h in
      let w : some m ≡ some (module_at (modules s) (index_of m.name (modules s))) = sym f ∙ find_at m.name (modules s) h in
      let q : m ≡ module_at (modules s) (index_of m.name (modules s)) = cc in
      (index_of m.name (modules s), l, ap (λ (k : Descriptor). k.name) (sym q) ∙ r.2, lowest-is (index_of m.name (modules s)) l (subst (Owns R p) q o))

  told_is : (i : ℕ) → is_visible (modules s) i ≡ true → owner R p ≡ some (module_at (modules s) i).name → lowest owns 0 n ≡ (Ok (Some i))
  told_is i l e =
      let r = told-some (module_at (modules s) i).name e in
      let q : r.0 ≡ i = sym (index_at (modules s) r.0 r.1) ∙ ap (λ (k : Name). index_of k (modules s)) r.2 ∙ index_at (modules s) i l in
      r.3 ∙ ap {B = Owner} (λ (k : ℕ). Ok (Some k)) q

  told-nothing : (o : Option Name) → owner R p ≡ o → lowest owns 0 n ≡ (Ok None) → owner R p ≡ none
  told-nothing none e h = e
  told-nothing (some x) e h = let r = told-some x e in let q : ◌≡◌ {A = Owner} (Ok (Some r.0)) (Ok None) = sym r.3 ∙ h in clash (cc)

  told_none : (o : Owner) → lowest owns 0 n ≡ o → owner R p ≡ none → lowest owns 0 n ≡ (Ok None)
  told_none (Ok None) e h = e
  told_none (Ok (Some i)) e h = let q : some (module_at (modules s) i).name ≡ none = sym (told_at i e).1 ∙ h in clash (cc)
  told_none (Err x) e h = absurd (from-not-refused owns 0 n x e)

whole : (s c : List ℕ) (p : Name) (n : ℕ) → count_of (check_set s) ≡ Ok n → word_count ≤ length c → find_module_for_package s c p ≡ lowest (owns_at (modules s) c p) 0 n
unfolding find_module_for_package owner_in
whole s c p n w l = ap (owner_in s c p) (with_enough c (count_of (check_set s)) n w l)

more-words : (a b : List ℕ) → length a ≡ 4616 → word_count ≤ length (a ++ b)
more-words a b e = omega (arith, length-append a b)

pub long_enough : (s : List Descriptor) (rq : Request) (ms : List Descriptor) (rest : List ℕ) → word_count ≤ length (configuration_of s rq ms ++ rest)
long_enough s rq ms rest = more-words (configuration_of s rq ms) rest (unfold configuration_of in words-of-length (member_at s ms) (edge_at s rq ms) (unnamed_at s rq ms))

-- for the configuration that resolution gives, the position found is that of the owner
pub owner-told : (s q : List ℕ) (n : ℕ) (st : State) → count_of (check_inputs s q) ≡ Ok n → Resolution.resolve (modules s) (request_of q) ≡ done st
    → (p : Name) (rest : List ℕ) → OwnerTold s (configuration_of (modules s) (request_of q) st.resolved ++ rest) st.resolved p
owner-told s q n st h e p rest =
    let c : check_set s ≡ Ok (record { count = n; starts = (starts_in (check_inputs s q)) }) = inputs-taken s q n (check_inputs s q) refl h in
    let t : List ℕ = (starts_in (check_inputs s q)) in
    let g : GoodSet s n t = good-set s n t c in
    let R : List Descriptor = st.resolved in
    let a : Accepted (modules s) (request_of q) R = set-accepted s n t g (request_of q) st e in
    let w = whole s (configuration_of (modules s) (request_of q) R ++ rest) p n (ap count_of c) (long_enough (modules s) (request_of q) R rest) in
    record {
      at = λ i k. told_at s n t g (request_of q) R a p rest i (sym w ∙ k);
      is_at_lem = λ i l k. w ∙ told_is s n t g (request_of q) R a p rest i l k;
      nothing = λ k. told-nothing s n t g (request_of q) R a p rest (owner R p) refl (sym w ∙ k);
      is_nothing = λ k. w ∙ told_none s n t g (request_of q) R a p rest (lowest (owns_at (modules s) (configuration_of (modules s) (request_of q) R ++ rest) p) 0 n) refl k;
    }

pub words_are_told : (s q ws : List ℕ) (n : ℕ) (st : State) → count_of (check_inputs s q) ≡ Ok n → word_count ≤ length ws → Resolution.resolve (modules s) (request_of q) ≡ done st
    → resolve s q ws ≡ record { outcome = (Ok tt); words = configuration_of (modules s) (request_of q) st.resolved ++ drop word_count ws }
unfolding resolve answered told
words_are_told s q ws n st h l e =
    ap (answered s q ws) (with_enough ws (count_of (check_inputs s q)) n h l) ∙ ap (told s q ws) e

-- the same of what `resolve` over the bytes writes
pub owner-resolved : (s q ws : List ℕ) (n : ℕ) (st : State) → count_of (check_inputs s q) ≡ Ok n → word_count ≤ length ws → Resolution.resolve (modules s) (request_of q) ≡ done st
    → (p : Name) → OwnerTold s (resolve s q ws).words st.resolved p
owner-resolved s q ws n st h l e p =
    subst (λ (c : List ℕ). OwnerTold s c st.resolved p) (sym (ap (λ (r : Resolve.ResolveResult). r.words) (words_are_told s q ws n st h l e))) (owner-told s q n st h e p (drop word_count ws))
