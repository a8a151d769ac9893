-- Demand 3, second half: of two accepted requests, the wider has what the narrower has. From the smallness of the first's
-- members and the closure of the second's; nothing here looks at the queue.
use mathlib.Core.Path.{◌≡◌, refl, sym, ap, ◌∙◌, subst}
use Prim.Native.Nat.{ℕ}
use native.Mathlib.Omega.{arith}
use mathlib.Core.Bool.{Bool, true, not}
use mathlib.Core.Option.{Option, none, some}
use mathlib.Core.List.Memᴰ
use mathlib.Core.List.{List, flat_map}
use Rattle.records.specs.Bytes.{same_bytes}
use Rattle.records.specs.Descriptor.{Descriptor, Requirement}
use Rattle.records.specs.Name.{all_unnamed, mem_name}
use Rattle.records.specs.Request.{Request, has_read}
use Rattle.records.proofs.Logic.{true≠false, or_cases, or_left, or_right}
use Rattle.resolution.specs.Closed.{Accepted, Closed, Kept, Member, Wider}
use Rattle.resolution.specs.Lists.{Mem, Name}
use Rattle.resolution.specs.Loop.{done}
use Rattle.resolution.specs.Owner.{named, owner, owner_in}
use Rattle.resolution.specs.Reads.{direct_reads, implied_reads, reads, reads_from, required_names, transitive_names, transitive_of}
use Rattle.resolution.specs.Resolution.{State, find, has_module, observable, resolve, leads}
use Rattle.resolution.proofs.Accepted.{accepted}
use Rattle.resolution.proofs.Find.{find_in, find-mem, has-find, has_some}
use Rattle.resolution.proofs.Observable.{observable-found, found-observable}
use Rattle.resolution.proofs.Lists.{and_imp, first_in, first_out, flat_in, flat_out, imp, mem_name_in, mem_name-out, or_imp, same_imp, use_imp}
use Rattle.resolution.proofs.Edges.{read-over, transitive_in}
use Rattle.resolution.proofs.Closure.{closure-closed, closure-holds, closure-least}

-- each observable module of the first set is so in the second
pub modules-over : (s₁ s₂ : List Descriptor) → ((m : Descriptor) → Mem m (observable s₁) → Mem m (observable s₂)) → (n : Name) (m : Descriptor)
    → find n s₁ ≡ some m → find n s₂ ≡ some m
modules-over s₁ s₂ f n m e = subst (λ (z : Name). find z s₂ ≡ some m) (find-mem n s₁ m e).1 (observable-found s₂ m (f m (found-observable s₁ n m e)))

-- two of the same name found in one set are one
found-same : (n k : Name) (s : List Descriptor) (m o : Descriptor) → find n s ≡ some m → find k s ≡ some o → n ≡ k → m ≡ o
found-same n k s m o e f c = let g : find n s ≡ some o = subst (λ (z : Name). find z s ≡ some o) (sym c) f in cc

-- what leads without ST leads with it
leads-over : (rq₁ rq₂ : Request) → (rq₁.has_static ≡ true → rq₂.has_static ≡ true) → (r : Requirement) → leads rq₁ r ≡ true → leads rq₂ r ≡ true
unfolding leads
leads-over rq₁ rq₂ f r l = or_cases (not r.static) rq₁.has_static l
    (λ a. or_left (not r.static) rq₂.has_static a) (λ a. or_right (not r.static) rq₂.has_static (f a))

module _ (s₁ : List Descriptor) (rq₁ : Request) (R₁ : List Descriptor) (a₁ : Accepted s₁ rq₁ R₁)
    (s₂ : List Descriptor) (rq₂ : Request) (R₂ : List Descriptor) (a₂ : Accepted s₂ rq₂ R₂) (w : Wider s₁ rq₁ s₂ rq₂) where
  -- the second's members are closed for the first
  closed-over : Closed s₁ rq₁ (Member R₂)
  closed-over =
      let c = a₂.members.closed in
      record {
        base = c.base;
        root = λ n m p. c.root n (w.roots n m) (w.permits n p);
        requirement = λ n m r k a f u l p g. c.requirement n m r k a (w.modules n m f) u (leads-over rq₁ rq₂ w.static r l) (w.permits r.name p) (w.modules r.name k g);
        provider = λ n m v q k a f u p g x. c.provider n m v q k a (w.modules n m f) u (w.permits q p) (w.modules q k g) x;
      }

  pub members-over : (n : Name) → Member R₁ n → Member R₂ n
  members-over n h = a₁.members.smallest (Member R₂) closed-over n h

  -- and each is the same module
  pub same_over : (m : Descriptor) → Mem m R₁ → Mem m R₂
  same_over m h =
      let x = members-over m.name (m, h, refl) in
      mathlib.Core.List.Memᴰ.cast (found-same m.name x.0.name s₂ m x.0 (w.modules m.name m (a₁.sound m h)) (a₂.sound x.0 x.1) (sym x.2)) x.1

  pub find-over : (n : Name) (m : Descriptor) → find n R₁ ≡ some m → find n R₂ ≡ some m
  find-over n m e =
      let r = find-mem n R₁ m e in
      let f = find_in n R₂ m (same_over m r.0) r.1 in
      let x = find-mem n R₂ f.0 f.1 in
      f.1 ∙ ap some (found-same f.0.name m.name s₂ f.0 m (a₂.sound f.0 x.0) (a₂.sound m (same_over m r.0)) (x.1 ∙ sym r.1))

  pub member-over : (n : Name) → has_module R₁ n ≡ true → has_module R₂ n ≡ true
  member-over n h = let r = has_some n R₁ h in has-find n R₂ r.0 (find-over n r.0 r.1)

  -- ---- read edges

  transitive_over : (n x : Name) → Mem x (transitive_of R₁ n) → Mem x (transitive_of R₂ n)
  unfolding transitive_of transitive_names
  transitive_over n x h = turned (find n R₁) refl h
    where
      turned : (o : Option Descriptor) → find n R₁ ≡ o → Mem x (transitive_names o) → Mem x (transitive_names (find n R₂))
      turned none e k = absurd (Memᴰ.not-nil k)
      turned (some m) e k = rw (find-over n m e) k

  implied_over : (m : Descriptor) (y : Name) → Mem y (implied_reads R₁ m) → Mem y (implied_reads R₂ m)
  unfolding implied_reads
  implied_over m y h =
      closure-least (transitive_of R₁) (required_names R₁) (transitive_in R₁) (λ x. Mem x (implied_reads R₂ m))
      (λ n x c k. closure-closed (transitive_of R₂) (required_names R₂) (transitive_in R₂) (flat_map (transitive_of R₂) (direct_reads m)) n x c (transitive_over n x k))
      (flat_map (transitive_of R₁) (direct_reads m))
      (λ n k. let r = flat_out (transitive_of R₁) (direct_reads m) k in
      closure-holds (transitive_of R₂) (required_names R₂) (transitive_in R₂) (flat_map (transitive_of R₂) (direct_reads m)) n
      (flat_in (transitive_of R₂) r.1 (transitive_over r.0 n r.2)))
      y h

  added-over : (x y : Name) → has_read rq₁.add_reads x y ≡ true → has_read rq₂.add_reads x y ≡ true
  added-over x y h = read-over x y rq₁.add_reads rq₂.add_reads w.add_reads h

  pub reads_over : (x y : Name) → reads R₁ rq₁ x y ≡ true → reads R₂ rq₂ x y ≡ true
  unfolding reads reads_from
  reads_over x y h = turned (find x R₁) refl h
    where
      turned : (o : Option Descriptor) → find x R₁ ≡ o → reads_from R₁ rq₁ x y o ≡ true → reads_from R₂ rq₂ x y (find x R₂) ≡ true
      turned none e k = true≠false k refl
      turned (some m) e k = rw (find-over x m e) (use_imp
          (and_imp (or_imp (imp (member-over y)) (same_imp (same_bytes y all_unnamed)))
          (or_imp (same_imp (mem_name y (direct_reads m)))
          (or_imp (imp (λ q. mem_name_in (implied_over m y (mem_name-out y (implied_reads R₁ m) q))))
          (or_imp (imp (added-over x y)) (and_imp (same_imp m.is_automatic) (and_imp (imp (member-over y)) (same_imp (not (same_bytes x y)))))))))
          k)

  pub owner-over : (p n : Name) → owner R₁ p ≡ some n → owner R₂ p ≡ some n
  unfolding owner owner_in
  owner-over p n h = turned (owner_in R₁ p) refl h
    where
      test : Descriptor → Bool
      test o = mem_name p o.packages

      turned : (o : Option Descriptor) → owner_in R₁ p ≡ o → named o ≡ some n → named (owner_in R₂ p) ≡ some n
      turned none e k = unfold named in absurd (let z : ◌≡◌ {A = ℕ} 0 1 = cc in omega arith)
      turned (some m) e k =
          let r = first_out test R₁ e in
          let f = first_in test (same_over m r.0) r.1 in
          let g = first_out test R₂ f.1 in
          let same : f.0 ≡ m = a₂.apart f.0 m p g.0 (same_over m r.0) (mem_name-out p f.0.packages g.1) (mem_name-out p m.packages r.1) in
          rw (f.1, same) k

-- ---- demand 3, second half

pub kept : (s₁ : List Descriptor) (rq₁ : Request) (R₁ : List Descriptor) → Accepted s₁ rq₁ R₁
    → (s₂ : List Descriptor) (rq₂ : Request) (R₂ : List Descriptor) → Accepted s₂ rq₂ R₂
    → Wider s₁ rq₁ s₂ rq₂ → Kept rq₁ R₁ rq₂ R₂
kept s₁ rq₁ R₁ a₁ s₂ rq₂ R₂ a₂ w =
    record {
      members = members-over s₁ rq₁ R₁ a₁ s₂ rq₂ R₂ a₂ w;
      found = find-over s₁ rq₁ R₁ a₁ s₂ rq₂ R₂ a₂ w;
      reads = reads_over s₁ rq₁ R₁ a₁ s₂ rq₂ R₂ a₂ w;
      owners = owner-over s₁ rq₁ R₁ a₁ s₂ rq₂ R₂ a₂ w;
    }

-- told by the test of membership
pub kept-has : {rq₁ : Request} {R₁ : List Descriptor} {rq₂ : Request} {R₂ : List Descriptor} → Kept rq₁ R₁ rq₂ R₂ → (n : Name) → has_module R₁ n ≡ true
    → has_module R₂ n ≡ true
kept-has {R₁} {R₂} k n h = let r = has_some n R₁ h in has-find n R₂ r.0 (k.found n r.0 r.1)

pub wider : (s₁ : List Descriptor) (rq₁ : Request) (t₁ : State) (s₂ : List Descriptor) (rq₂ : Request) (t₂ : State)
    → resolve s₁ rq₁ ≡ done t₁ → resolve s₂ rq₂ ≡ done t₂ → Wider s₁ rq₁ s₂ rq₂ → Kept rq₁ t₁.resolved rq₂ t₂.resolved
wider s₁ rq₁ t₁ s₂ rq₂ t₂ h₁ h₂ w =
    kept s₁ rq₁ t₁.resolved (accepted s₁ rq₁ t₁ h₁) s₂ rq₂ t₂.resolved (accepted s₂ rq₂ t₂ h₂) w
