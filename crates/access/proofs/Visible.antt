-- A set that the check takes gives with a request what its visible blocks give, one after the other.
use mathlib.Core.Path.{◌≡◌, refl, sym, ap, ◌∙◌, subst}
use Prim.Native.Nat.{ℕ}
use mathlib.Core.Bool.{Bool, ◌||◌}
use mathlib.Core.Option.{Option}
use mathlib.Core.List.{List, map, flatten}
use Rattle.records.specs.Bytes.{same_bytes}
use Rattle.records.specs.Descriptor.{Descriptor, descriptor_of}
use Rattle.records.specs.Finder.{visible_blocks}
use Rattle.records.specs.Name.{java_base}
use Rattle.records.specs.Request.{Request, request_of, check_inputs}
use Rattle.records.specs.Set.{modules, count_of, starts_in}
use Rattle.records.proofs.request.Taken.{inputs-taken, inputs-over}
use Rattle.records.proofs.set.Blocks.{good-set}
use Rattle.records.proofs.set.Visible.{VisibleSet, visible-set}
use Rattle.resolution.specs.Lists.{Name, Mem}
use Rattle.resolution.specs.Resolution.{observable}
use Rattle.resolution.specs.Resolution as Resolution
use Rattle.resolution.proofs.SameResolution.{visible-done, done-visible}
use Rattle.resolution.proofs.Sets.{blocks-observable}
use Rattle.access.specs.Access.{reads_name, resolved_module, is_reflection, named_verdict, unnamed_verdict, verdict, check_access}
use Rattle.access.specs.Demand3.{configuration, Grows}
use Rattle.access.specs.Members.{verdict_by}
use Rattle.access.specs.Visible.{SameByNames}
use Rattle.access.specs.declared.access.AccessCheckResult.{AccessCheckResult}
use Rattle.access.proofs.Demand3.{all-kept}
use Rattle.access.proofs.Names.{Done, accepted-out, accepted_in, configuration_enough, done-named}
use Rattle.access.proofs.Verdicts.{answer-is}
use Rattle.std.specs.Prelude.{Ok}

-- a verdict looks at whether the asker reads the target, and at the target where it is resolved
pub verdict-is : (reflection : Bool) (s : List ℕ) (rq : Request) (c : List ℕ) (asker target p : Name)
    → verdict reflection s rq c asker target p ≡ verdict_by reflection rq (resolved_module s c target) (reads_name s c asker target || same_bytes target java_base) asker target p
unfolding verdict named_verdict unnamed_verdict verdict_by
verdict-is reflection s rq c asker target p = refl

module _ (s q ws : List ℕ) (n : ℕ) (h : count_of (check_inputs s q) ≡ Ok n) where
  abbrev v : List ℕ
  v = flatten (visible_blocks s)

  set-of : VisibleSet s v
  set-of = visible-set s n (starts_in (check_inputs s q)) (inputs-taken s q n (check_inputs s q) refl h)

  modules_are : modules v ≡ observable (modules s)
  unfolding modules
  modules_are = ap (map descriptor_of) set-of.blocks_are ∙ blocks-observable s

  resolved : Resolution.resolve (modules v) (request_of q) ≡ Resolution.resolve (observable (modules s)) (request_of q)
  resolved = ap (λ (m : List Descriptor). Resolution.resolve m (request_of q)) modules_are

  -- one is done where the other is, with the same modules resolved
  over : Done s q ws → Done v q ws
  over d = record {
    count = set-of.count;
    state = d.state;
    taken = inputs-over s q n h v set-of.count set-of.starts (good-set v set-of.count set-of.starts set-of.taken).short set-of.taken;
    enough = d.enough;
    finished = resolved ∙ visible-done (modules s) (request_of q) d.state d.finished;
  }

  back : Done v q ws → Done s q ws
  back d = record { count = n; state = d.state; taken = h; enough = d.enough; finished = done-visible (modules s) (request_of q) d.state (sym resolved ∙ d.finished) }

  -- each grows to the other
  grows : Grows s q v q
  grows = record {
    modules = λ b m. subst (λ (l : List (List ℕ)). Mem b l) (sym set-of.visible_are) m;
    roots = λ x m. m;
    permitted = λ x m. m;
    add_reads = λ x m. m;
    add_exports = λ x m. m;
    add_opens = λ x m. m;
    static = λ e. e;
  }

  grows_back : Grows v q s q
  grows_back = record {
    modules = λ b m. subst (λ (l : List (List ℕ)). Mem b l) set-of.visible_are m;
    roots = λ x m. m;
    permitted = λ x m. m;
    add_reads = λ x m. m;
    add_exports = λ x m. m;
    add_opens = λ x m. m;
    static = λ e. e;
  }

  module _ (d : Done s q ws) where
    same_reads : (x y : Name) → reads_name s (configuration s q ws) x y ≡ reads_name v (configuration v q ws) x y
    unfolding over
    same_reads x y = (done-named s q ws d).read x y ∙ sym ((done-named v q ws (over d)).read x y)

    same_module : (x : Name) → resolved_module s (configuration s q ws) x ≡ resolved_module v (configuration v q ws) x
    unfolding over
    same_module x = (done-named s q ws d).module_of x ∙ sym ((done-named v q ws (over d)).module_of x)

    same-verdict : (reflection : Bool) (asker target p : Name)
        → check_access reflection s q (configuration s q ws) asker target p ≡ check_access reflection v q (configuration v q ws) asker target p
    same-verdict reflection asker target p =
        answer-is reflection s q d.count d.taken (configuration s q ws) (configuration_enough s q ws d) asker target p
        ∙ ap Ok (verdict-is reflection s (request_of q) (configuration s q ws) asker target p
        ∙ ap (λ (m : Option Descriptor). by_both m (reads_name s (configuration s q ws) asker target)) (same_module target)
        ∙ ap (by_both (resolved_module v (configuration v q ws) target)) (same_reads asker target)
        ∙ sym (verdict-is reflection v (request_of q) (configuration v q ws) asker target p))
        ∙ sym (answer-is reflection v q (over d).count (over d).taken (configuration v q ws) (configuration_enough v q ws (over d)) asker target p)
      where
        by_both : Option Descriptor → Bool → AccessCheckResult
        by_both m r = verdict_by reflection (request_of q) m (r || same_bytes target java_base) asker target p

  pub visible-same : SameByNames s v q ws
  unfolding over
  visible-same = record {
    accepted = λ a. accepted_in v q ws (over (accepted-out s q ws a));
    accepted_back = λ a. accepted_in s q ws (back (accepted-out v q ws a));
    members = λ a x. let d = accepted-out s q ws a in (done-named s q ws d).member x ∙ sym ((done-named v q ws (over d)).member x);
    reads = λ a. same_reads (accepted-out s q ws a);
    owners = λ a. let d = accepted-out s q ws a in (all-kept s q ws v q ws d (over d) grows).owners;
    owners_back = λ a. let d = accepted-out s q ws a in (all-kept v q ws s q ws (over d) d grows_back).owners;
    verdicts = λ a kind. same-verdict (accepted-out s q ws a) (is_reflection kind);
  }
