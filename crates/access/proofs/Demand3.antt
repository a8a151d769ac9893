-- Demand 3, whole, over bytes.
use mathlib.Core.Path.{◌≡◌, sym, ap, ◌∙◌, subst}
use Prim.Native.Nat.{ℕ}
use mathlib.Core.Bool.{Bool, true, false}
use mathlib.Core.Option.{some}
use mathlib.Core.List.{List}
use Rattle.records.specs.Descriptor.{Descriptor}
use Rattle.records.specs.Request.{request_of, has_grant}
use Rattle.records.specs.Set.{modules}
use Rattle.resolution.specs.Closed.{Closed, Smallest, Member, Wider, Kept}
use Rattle.resolution.specs.Lists.{Name}
use Rattle.resolution.specs.Owner.{owner}
use Rattle.resolution.specs.Positions.{module_at}
use Rattle.resolution.specs.Resolution.{find, has_module, index_of}
use Rattle.resolution.proofs.Edges.{grant-over}
use Rattle.resolution.proofs.Find.{find-mem, find_in, has-find, has_some}
use Rattle.resolution.proofs.PackageOwner.{owner-resolved}
use Rattle.resolution.proofs.Positions.{find_at, visible-found, index-visible}
use Rattle.resolution.proofs.Sets.{unaltered_over}
use Rattle.resolution.proofs.Wider as Wider
use Rattle.access.specs.Access.{reads_name, resolved_module, is_reflection, grants_of, verdict, check_access}
use Rattle.access.specs.Demand3.{configuration, Resolved, Owns, Grows, KeepsAll, Demand3}
use Rattle.access.specs.declared.access.AccessCheckResult.TheVariants.{Allowed}
use Rattle.access.proofs.Names.{Done, accepted-out, configuration_enough, done-accepted, done-named}
use Rattle.access.proofs.Verdicts.{verdict-over, answer-is, verdict-out}
use Rattle.std.specs.Prelude.{Ok}

-- ---- the first half

module _ (s q ws : List ℕ) (d : Done s q ws) where
  -- a member by the words is a member by name
  pub member-out : (n : Name) → Resolved s q ws n → Member d.state.resolved n
  member-out n h =
      let f = has_some n d.state.resolved (sym ((done-named s q ws d).member n) ∙ h) in
      let r = find-mem n d.state.resolved f.0 f.1 in
      (f.0, r.0, r.1)

  pub member_in : (n : Name) → Member d.state.resolved n → Resolved s q ws n
  member_in n h =
      let f = find_in n d.state.resolved h.0 h.1 h.2 in
      (done-named s q ws d).member n ∙ has-find n d.state.resolved f.0 f.1

  closed-named : Closed (modules s) (request_of q) (Resolved s q ws)
  closed-named =
      let c = (done-accepted s q ws d).members.closed in
      record {
        base = member_in _ c.base;
        root = λ n m p. member_in n (c.root n m p);
        requirement = λ n m r k a f u l p g. member_in r.name (c.requirement n m r k (member-out n a) f u l p g);
        provider = λ n m v x k a f u p g w. member_in x (c.provider n m v x k (member-out n a) f u p g w);
      }

  pub smallest-named : Smallest (modules s) (request_of q) (Resolved s q ws)
  smallest-named =
      let m = (done-accepted s q ws d).members in
      record {
        observable = λ n a. m.observable n (member-out n a);
        closed = closed-named;
        smallest = λ C c n a. m.smallest C c n (member-out n a);
      }

-- ---- the second half

module _ (s₁ q₁ ws₁ s₂ q₂ ws₂ : List ℕ) (d₁ : Done s₁ q₁ ws₁) (d₂ : Done s₂ q₂ ws₂) (w : Grows s₁ q₁ s₂ q₂) where
  over : Wider (modules s₁) (request_of q₁) (modules s₂) (request_of q₂)
  over = record {
    modules = unaltered_over s₁ s₂ w.modules;
    roots = w.roots;
    permits = w.permitted;
    add_reads = w.add_reads;
    add_exports = w.add_exports;
    add_opens = w.add_opens;
    static = w.static;
  }

  kept : Kept (request_of q₁) d₁.state.resolved (request_of q₂) d₂.state.resolved
  kept = Wider.kept (modules s₁) (request_of q₁) d₁.state.resolved (done-accepted s₁ q₁ ws₁ d₁)
      (modules s₂) (request_of q₂) d₂.state.resolved (done-accepted s₂ q₂ ws₂ d₂) over

  reads_kept : (x y : Name) → reads_name s₁ (configuration s₁ q₁ ws₁) x y ≡ true → reads_name s₂ (configuration s₂ q₂ ws₂) x y ≡ true
  reads_kept x y h = (done-named s₂ q₂ ws₂ d₂).read x y ∙ kept.reads x y (sym ((done-named s₁ q₁ ws₁ d₁).read x y) ∙ h)

  found-kept : (n : Name) (m : Descriptor) → resolved_module s₁ (configuration s₁ q₁ ws₁) n ≡ some m → resolved_module s₂ (configuration s₂ q₂ ws₂) n ≡ some m
  found-kept n m h = (done-named s₂ q₂ ws₂ d₂).module_of n ∙ kept.found n m (sym ((done-named s₁ q₁ ws₁ d₁).module_of n) ∙ h)

  -- overrides of access, and of reflection
  grants-kept : (reflection : Bool) (x p y : Name) → has_grant (grants_of reflection (request_of q₁)) x p y ≡ true
      → has_grant (grants_of reflection (request_of q₂)) x p y ≡ true
  unfolding grants_of
  grants-kept false x p y h = grant-over x p y (request_of q₁).add_exports (request_of q₂).add_exports w.add_exports h
  grants-kept true x p y h = grant-over x p y (request_of q₁).add_opens (request_of q₂).add_opens w.add_opens h

  -- the owner's position in the second set is that of its name there
  owners-kept : (n p : Name) → Owns s₁ q₁ ws₁ n p → Owns s₂ q₂ ws₂ n p
  owners-kept n p h =
      let o₁ = owner-resolved s₁ q₁ ws₁ d₁.count d₁.state d₁.taken d₁.enough d₁.finished p in
      let o₂ = owner-resolved s₂ q₂ ws₂ d₂.count d₂.state d₂.taken d₂.enough d₂.finished p in
      let a = o₁.at h.0 h.1 in
      let m : Descriptor = module_at (modules s₁) h.0 in
      let f : find n (modules s₂) ≡ some m
      = over.modules n m (subst (λ (z : Name). find z (modules s₁) ≡ some m) h.2 (visible-found (modules s₁) h.0 a.0)) in
      let y : has_module (modules s₂) n ≡ true = has-find n (modules s₂) m f in
      let i : ℕ = index_of n (modules s₂) in
      let z : (module_at (modules s₂) i).name ≡ n = (find-mem n (modules s₂) (module_at (modules s₂) i) (find_at n (modules s₂) y)).1 in
      let b : owner d₂.state.resolved p ≡ some (module_at (modules s₂) i).name
      = kept.owners p n (a.1 ∙ ap some h.2) ∙ ap some (sym z) in
      (i, o₂.is_at_lem i (index-visible n (modules s₂) y) b, z)

  allowed_kept : (reflection : Bool) (asker target p : Name) → check_access reflection s₁ q₁ (configuration s₁ q₁ ws₁) asker target p ≡ Ok Allowed
      → check_access reflection s₂ q₂ (configuration s₂ q₂ ws₂) asker target p ≡ Ok Allowed
  allowed_kept reflection asker target p h =
      answer-is reflection s₂ q₂ d₂.count d₂.taken (configuration s₂ q₂ ws₂) (configuration_enough s₂ q₂ ws₂ d₂) asker target p
      ∙ ap Ok (verdict-over reflection s₁ (request_of q₁) (configuration s₁ q₁ ws₁) s₂ (request_of q₂) (configuration s₂ q₂ ws₂)
      reads_kept found-kept (grants-kept reflection) asker target p
      (verdict-out (verdict reflection s₁ (request_of q₁) (configuration s₁ q₁ ws₁) asker target p)
      (sym (answer-is reflection s₁ q₁ d₁.count d₁.taken (configuration s₁ q₁ ws₁) (configuration_enough s₁ q₁ ws₁ d₁) asker target p) ∙ h)))

  pub all-kept : KeepsAll s₁ q₁ ws₁ s₂ q₂ ws₂
  all-kept = record {
    members = λ n h. member_in s₂ q₂ ws₂ d₂ n (kept.members n (member-out s₁ q₁ ws₁ d₁ n h));
    reads = reads_kept;
    owners = owners-kept;
    allowed = λ kind. allowed_kept (is_reflection kind);
  }

pub demand3 : Demand3
demand3 = record {
  smallest = λ s q ws h. smallest-named s q ws (accepted-out s q ws h);
  kept = λ s₁ q₁ ws₁ s₂ q₂ ws₂ h₁ h₂ w. all-kept s₁ q₁ ws₁ s₂ q₂ ws₂ (accepted-out s₁ q₁ ws₁ h₁) (accepted-out s₂ q₂ ws₂ h₂) w;
}
