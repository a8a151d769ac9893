-- A verdict that allows still allows where there is more to read, to grant and to find; and for each kind the verdicts are those of
-- the former pair.
use mathlib.Core.Path.{◌≡◌, refl, ap}
use Prim.Native.Nat.{ℕ, ◌≤◌}
use mathlib.Core.Bool.{Bool, true, false, ◌||◌, cond}
use mathlib.Core.Option.{Option, none, some}
use mathlib.Core.List.{List}
use lib.ListN.{length}
use Rattle.records.specs.Bytes.{same_bytes}
use Rattle.records.specs.Descriptor.{Descriptor}
use Rattle.records.specs.Name.{java_base, all_unnamed, mem_name}
use Rattle.records.specs.Request.{Request, has_grant, request_of, check_inputs}
use Rattle.records.proofs.Logic.{clash, true≠false}
use Rattle.resolution.specs.Configuration.{word_count}
use Rattle.resolution.specs.Lists.{Name}
use Rattle.resolution.proofs.ConfigurationWords.{with_enough}
use Rattle.resolution.proofs.Lists.{imp, or_imp, same_imp, use_imp}
use Rattle.access.specs.Access.{AccessAnswer, reads_name, resolved_module, grants_of, denied, pick_result, grants, granted, named_verdict, unnamed_granted, unnamed_verdict, verdict, answered, check_access}
use Rattle.access.specs.FormerPair.{FormerPair}
use Rattle.access.specs.declared.access.AccessCheckResult.{AccessCheckResult}
use Rattle.access.specs.declared.access.AccessCheckResult.TheVariants.{Allowed, NotReadable}
use Rattle.std.specs.Prelude.{Ok}
use Rattle.records.specs.Set.{count_of}

-- ---- what a choice that allows says of its test

not-denied : (reflection : Bool) → denied reflection ≡ Allowed → ⊥
unfolding denied
not-denied false e = clash (cc)
not-denied true e = clash (cc)

pub allowed_out : (reflection b : Bool) → pick_result b Allowed (denied reflection) ≡ Allowed → b ≡ true
allowed_out reflection true e = refl
allowed_out reflection false e = absurd (not-denied reflection e)

pub readable_out : (b : Bool) (r : AccessCheckResult) → pick_result b r NotReadable ≡ Allowed → (b ≡ true) × (r ≡ Allowed)
readable_out true r e = (refl, e)
readable_out false r e = clash (cc)

-- ---- the verdict

module _ (reflection : Bool) (s₁ : List ℕ) (rq₁ : Request) (c₁ : List ℕ) (s₂ : List ℕ) (rq₂ : Request) (c₂ : List ℕ)
    (reads : (x y : Name) → reads_name s₁ c₁ x y ≡ true → reads_name s₂ c₂ x y ≡ true)
    (found : (n : Name) (m : Descriptor) → resolved_module s₁ c₁ n ≡ some m → resolved_module s₂ c₂ n ≡ some m)
    (more : (x p y : Name) → has_grant (grants_of reflection rq₁) x p y ≡ true → has_grant (grants_of reflection rq₂) x p y ≡ true) where
  granted-over : (target p asker : Name) → granted reflection (resolved_module s₁ c₁ target) p asker ≡ true
      → granted reflection (resolved_module s₂ c₂ target) p asker ≡ true
  unfolding granted
  granted-over target p asker h = turned (resolved_module s₁ c₁ target) refl h
    where
      turned : (o : Option Descriptor) → resolved_module s₁ c₁ target ≡ o → granted reflection o p asker ≡ true
          → granted reflection (resolved_module s₂ c₂ target) p asker ≡ true
      turned none e k = true≠false k refl
      turned (some m) e k = rw (found target m e) k

  named-over : (asker target p : Name) → named_verdict reflection s₁ rq₁ c₁ asker target p ≡ Allowed → named_verdict reflection s₂ rq₂ c₂ asker target p ≡ Allowed
  unfolding named_verdict
  named-over asker target p h =
      let a = readable_out (reads_name s₁ c₁ asker target || same_bytes target java_base) _ h in
      let b = allowed_out reflection _ a.1 in
      let x : reads_name s₂ c₂ asker target || same_bytes target java_base ≡ true
      = use_imp (or_imp (imp (reads asker target)) (same_imp (same_bytes target java_base))) a.0 in
      let y : has_grant (grants_of reflection rq₂) target p asker || granted reflection (resolved_module s₂ c₂ target) p asker ≡ true
      = use_imp (or_imp (imp (more target p asker)) (imp (granted-over target p asker))) b in
      rw (x, y)

  unnamed-granted-over : (target p : Name) → unnamed_granted reflection rq₁ target p (resolved_module s₁ c₁ target) ≡ true
      → unnamed_granted reflection rq₂ target p (resolved_module s₂ c₂ target) ≡ true
  unfolding unnamed_granted
  unnamed-granted-over target p h = turned (resolved_module s₁ c₁ target) refl h
    where
      -- an automatic module or not
      kind : (m : Descriptor) (b : Bool) → cond b (mem_name p m.packages) (has_grant (grants_of reflection rq₁) target p all_unnamed || grants reflection m p all_unnamed) ≡ true
          → cond b (mem_name p m.packages) (has_grant (grants_of reflection rq₂) target p all_unnamed || grants reflection m p all_unnamed) ≡ true
      kind m true k = k
      kind m false k = use_imp (or_imp (imp (more target p all_unnamed)) (same_imp (grants reflection m p all_unnamed))) k

      turned : (o : Option Descriptor) → resolved_module s₁ c₁ target ≡ o → unnamed_granted reflection rq₁ target p o ≡ true
          → unnamed_granted reflection rq₂ target p (resolved_module s₂ c₂ target) ≡ true
      turned none e k = true≠false k refl
      turned (some m) e k = rw (found target m e) (kind m m.is_automatic k)

  unnamed-over : (target p : Name) → unnamed_verdict reflection s₁ rq₁ c₁ target p ≡ Allowed → unnamed_verdict reflection s₂ rq₂ c₂ target p ≡ Allowed
  unfolding unnamed_verdict
  unnamed-over target p h =
      let y : unnamed_granted reflection rq₂ target p (resolved_module s₂ c₂ target) ≡ true = unnamed-granted-over target p (allowed_out reflection _ h) in
      rw y

  pub verdict-over : (asker target p : Name) → verdict reflection s₁ rq₁ c₁ asker target p ≡ Allowed → verdict reflection s₂ rq₂ c₂ asker target p ≡ Allowed
  unfolding verdict
  verdict-over asker target p h = turned (same_bytes asker target) (same_bytes asker all_unnamed) h
    where
      turned : (a b : Bool) → pick_result a Allowed (pick_result b (unnamed_verdict reflection s₁ rq₁ c₁ target p) (named_verdict reflection s₁ rq₁ c₁ asker target p)) ≡ Allowed
          → pick_result a Allowed (pick_result b (unnamed_verdict reflection s₂ rq₂ c₂ target p) (named_verdict reflection s₂ rq₂ c₂ asker target p)) ≡ Allowed
      turned true b k = refl
      turned false true k = unnamed-over target p k
      turned false false k = named-over asker target p k

-- ---- over bytes

-- where the inputs are taken, the answer is the verdict
pub answer-is : (reflection : Bool) (s q : List ℕ) (n : ℕ) → count_of (check_inputs s q) ≡ Ok n → (c : List ℕ) → word_count ≤ length c → (asker target p : Name)
    → check_access reflection s q c asker target p ≡ Ok (verdict reflection s (request_of q) c asker target p)
unfolding check_access answered
answer-is reflection s q n h c l asker target p = ap (answered reflection s q c asker target p) (with_enough c (count_of (check_inputs s q)) n h l)

pub verdict-out : (r : AccessCheckResult) → ◌≡◌ {A = AccessAnswer} (Ok r) (Ok Allowed) → r ≡ Allowed
verdict-out r e = cc

-- ---- the kinds

pub former_pair : (s q : List ℕ) (c : List ℕ) (asker target p : Name) → FormerPair s q c asker target p
former_pair s q c asker target p = record { access = refl; reflection = refl }
