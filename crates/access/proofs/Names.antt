-- An accepted pair of a set and a request: what the words of its configuration say, told by names of the modules resolved.
use mathlib.Core.Path.{◌≡◌, refl, sym, ap, ◌∙◌, subst}
use Prim.Native.Nat.{ℕ, ◌≤◌}
use native.Mathlib.Omega.{arith}
use mathlib.Core.Bool.{Bool, true, false, ◌&&◌, ◌||◌, or-false}
use mathlib.Core.Option.{Option, none, some}
use mathlib.Core.List.{List, ◌++◌}
use lib.ListN.{length, drop}
use Rattle.records.specs.Bytes.{same_bytes}
use Rattle.records.specs.Descriptor.{Descriptor}
use Rattle.records.specs.Finder.{find_module}
use Rattle.records.specs.Name.{all_unnamed}
use Rattle.records.specs.Request.{Request, request_of, check_inputs}
use Rattle.records.specs.Set.{modules, count_of, starts_in}
use Rattle.records.specs.Finder.{Found}
use Rattle.records.specs.Set.{CountAnswer}
use Rattle.records.proofs.Logic.{clash, by, true≠false}
use Rattle.records.proofs.bytes.Laws.{same-eq}
use Rattle.records.proofs.set.Blocks.{GoodSet, good-set}
use Rattle.resolution.specs.Closed.{Accepted}
use Rattle.resolution.specs.Lists.{Name}
use Rattle.resolution.specs.Loop.{Result, failed, done}
use Rattle.resolution.specs.Observed.{has_member, has_edge, has_unnamed_edge}
use Rattle.resolution.specs.Positions.{module_at}
use Rattle.resolution.specs.Reads.{reads, reads_from}
use Rattle.resolution.specs.Resolution.{find, has_module, Refusal, State}
use Rattle.resolution.specs.Resolution as Resolution
use Rattle.resolution.specs.Resolve.{member_at, edge_at, unnamed_at, configuration_of, ResolveResult, refused, told, answered, resolve}
use Rattle.resolution.specs.Configuration.{word_count, with_words}
use Rattle.resolution.proofs.Find.{find-mem, has-find, has-names, has_some}
use Rattle.resolution.proofs.ConfigurationWords.{with-taken}
use Rattle.resolution.proofs.PackageOwner.{words_are_told, long_enough}
use Rattle.resolution.proofs.Observed.{member_is, edge-is, unnamed-is}
use Rattle.resolution.proofs.Positions.{Located, find_none, located_visible}
use Rattle.resolution.proofs.Sets.{set-length, set-accepted, set_located, set-not_located}
use Rattle.records.proofs.request.Taken.{inputs-taken}
use Rattle.access.specs.Access.{passes, is_member, edge_to, is_reader, reads_name, resolved_module}
use Rattle.access.specs.Demand3.{IsAccepted, configuration}
use Rattle.std.specs.Prelude.{Some, None, Ok, Err}

-- ---- an accepted pair

-- the inputs are taken, the words are enough, and resolution is done
pub record Done (s q ws : List ℕ) : Type 0 where
  pub count : ℕ
  pub state : State
  pub taken : count_of (check_inputs s q) ≡ Ok count
  pub enough : word_count ≤ length ws
  pub finished : Resolution.resolve (modules s) (request_of q) ≡ done state

module _ (s q ws : List ℕ) where
  told-out : (n : ℕ) (r : Result State Refusal) → with_words ws (count_of (check_inputs s q)) ≡ Ok n → Resolution.resolve (modules s) (request_of q) ≡ r
      → (told s q ws r).outcome ≡ Ok tt → Done s q ws
  unfolding told refused
  told-out n (failed x) c e h = clash (cc)
  told-out n (done st) c e h = let t = with-taken ws (count_of (check_inputs s q)) n c in record { count = n; state = st; taken = t.0; enough = t.1; finished = e }

  answered-out : (a : CountAnswer) → with_words ws (count_of (check_inputs s q)) ≡ a → (answered s q ws a).outcome ≡ Ok tt → Done s q ws
  unfolding answered refused
  answered-out (Err x) c h = clash (cc)
  answered-out (Ok n) c h = told-out n (Resolution.resolve (modules s) (request_of q)) c refl h

  pub accepted-out : IsAccepted s q ws → Done s q ws
  unfolding resolve
  accepted-out h = answered-out (with_words ws (count_of (check_inputs s q))) refl h

  module _ (d : Done s q ws) where
    done-told : resolve s q ws ≡ record { outcome = (Ok tt); words = configuration_of (modules s) (request_of q) d.state.resolved ++ drop word_count ws }
    done-told = words_are_told s q ws d.count d.state d.taken d.enough d.finished

    pub accepted_in : IsAccepted s q ws
    accepted_in = ap (λ (r : ResolveResult). r.outcome) done-told

    -- its configuration is that of the modules resolved, and the words beyond
    pub configuration-is : configuration s q ws ≡ configuration_of (modules s) (request_of q) d.state.resolved ++ drop word_count ws
    configuration-is = ap (λ (r : ResolveResult). r.words) done-told

    -- which are enough for every question
    pub configuration_enough : word_count ≤ length (configuration s q ws)
    configuration_enough = subst (λ (c : List ℕ). word_count ≤ length c) (sym configuration-is) (long_enough (modules s) (request_of q) d.state.resolved (drop word_count ws))

-- ---- reads of the modules resolved

-- a module that is not resolved reads nothing
reads-source : (R : List Descriptor) (rq : Request) (x y : Name) → has_module R x ≡ false → reads R rq x y ≡ false
unfolding reads reads_from
reads-source R rq x y h = ap (reads_from R rq x y) (find_none x R h)

-- a name that is neither resolved nor ALL-UNNAMED is not read
reads-target : (R : List Descriptor) (rq : Request) (x y : Name) → has_module R y ≡ false → same_bytes y all_unnamed ≡ false → reads R rq x y ≡ false
unfolding reads reads_from
reads-target R rq x y h k = turned (find x R)
  where
    turned : (o : Option Descriptor) → reads_from R rq x y o ≡ false
    turned none = refl
    turned (some m) = rw (h, k)

-- ---- the words, by names

-- what the configuration of the modules resolved says
pub record ByNames (s : List ℕ) (rq : Request) (c : List ℕ) (R : List Descriptor) : Type 0 where
  pub member : (n : Name) → is_member s c n ≡ has_module R n
  pub read : (x y : Name) → reads_name s c x y ≡ reads R rq x y
  pub module_of : (n : Name) → resolved_module s c n ≡ find n R

module _ (s : List ℕ) (n : ℕ) (t : List ℕ) (g : GoodSet s n t) (rq : Request) (R : List Descriptor) (a : Accepted (modules s) rq R) (rest : List ℕ) where
  abbrev S : List Descriptor
  S = modules s

  abbrev c : List ℕ
  c = configuration_of (modules s) rq R ++ rest

  long : length S ≤ 512
  long = omega (arith, set-length s n t g, g.few)

  name-at : (x : Name) (i : ℕ) → Located x S i → (module_at S i).name ≡ x
  name-at x i o = (find-mem x S (module_at S i) o.is).1

  -- a module resolved is one of the set
  found_in_lem : (x : Name) (m : Descriptor) → find x R ≡ some m → find x S ≡ some m
  found_in_lem x m e = let r = find-mem x R m e in subst (λ (z : Name). find z S ≡ some m) r.1 (a.sound m r.0)

  not_in : (x : Name) → has_module S x ≡ false → has_module R x ≡ false
  not_in x h = by (has_module R x) (λ y. let r = has_some x R y in true≠false (has-find x S r.0 (found_in_lem x r.0 r.1)) h) (λ y. y)

  -- no module of the set is ALL-UNNAMED
  named : (y : Name) → has_module S y ≡ true → same_bytes y all_unnamed ≡ false
  named y h = by (same_bytes y all_unnamed)
      (λ k. true≠false (subst (λ (z : Name). has_module S z ≡ true) (same-eq y all_unnamed k) h) (has-names S all_unnamed ∙ g.named))
      (λ k. k)

  members-named : (x : Name) → is_member s c x ≡ has_module R x
  unfolding is_member passes member_at
  members-named x = turned (find_module s x) refl
    where
      turned : (f : Found) → find_module s x ≡ f → passes (has_member S c) f ≡ has_module R x
      turned (Some i) e =
          let o = set_located s x i e in
          member_is S long rq R rest i ∙ rw (located_visible x S i o) (ap (has_module R) (name-at x i o))
      turned None e = sym (not_in x (set-not_located s x e).0)

  -- an edge, where the source is a module of the set
  edges-named : (x y : Name) (i : ℕ) → Located x S i → (f : Found) → find_module s y ≡ f
      → passes (has_edge S c i) f || (same_bytes y all_unnamed && has_unnamed_edge S c i) ≡ reads R rq x y
  unfolding passes edge_at unnamed_at
  edges-named x y i o (Some j) e =
      let k = set_located s y j e in
      let u : has_edge S c i j ≡ reads R rq x y
      = edge-is S long rq R rest i j ∙ rw (located_visible x S i o, located_visible y S j k, name-at x i o, name-at y j k) in
      rw (named y k.observable, u) (or-false (reads R rq x y))
  edges-named x y i o None e = by (same_bytes y all_unnamed)
      (λ k.
      let u : has_unnamed_edge S c i ≡ reads R rq x y
      = unnamed-is S long rq R rest i ∙ rw (located_visible x S i o, name-at x i o, same-eq y all_unnamed k) in
      rw (k, u))
      (λ k. rw (k, reads-target R rq x y (not_in y (set-not_located s y e).0) k))

  -- so the test that the source is a member changes nothing
  source-counts : (x y : Name) (b : Bool) → has_module R x ≡ b → b && reads R rq x y ≡ reads R rq x y
  source-counts x y true e = refl
  source-counts x y false e = sym (reads-source R rq x y e)

  reads-named : (x y : Name) → reads_name s c x y ≡ reads R rq x y
  unfolding reads_name passes is_reader edge_to member_at
  reads-named x y = turned (find_module s x) refl
    where
      turned : (f : Found) → find_module s x ≡ f → passes (is_reader s c y) f ≡ reads R rq x y
      turned (Some i) e =
          let o = set_located s x i e in
          let m : has_member S c i ≡ has_module R x = member_is S long rq R rest i ∙ rw (located_visible x S i o) (ap (has_module R) (name-at x i o)) in
          rw m (ap (λ (b : Bool). has_module R x && b) (edges-named x y i o (find_module s y) refl) ∙ source-counts x y (has_module R x) refl)
      turned None e = sym (reads-source R rq x y (not_in x (set-not_located s x e).0))

  module_named : (x : Name) → resolved_module s c x ≡ find x R
  unfolding resolved_module
  module_named x = rw (members-named x) (by (has_module R x)
      (λ h. let r = has_some x R h in rw (h, r.1, found_in_lem x r.0 r.1))
      (λ h. rw (h, find_none x R h)))

  pub by_names : ByNames s rq c R
  by_names = record { member = members-named; read = reads-named; module_of = module_named }

-- ---- over bytes

module _ (s q ws : List ℕ) (d : Done s q ws) where
  pub done-good : GoodSet s d.count (starts_in (check_inputs s q))
  done-good = good-set s d.count (starts_in (check_inputs s q)) (inputs-taken s q d.count (check_inputs s q) refl d.taken)

  pub done-accepted : Accepted (modules s) (request_of q) d.state.resolved
  done-accepted = set-accepted s d.count (starts_in (check_inputs s q)) done-good (request_of q) d.state d.finished

  pub done-named : ByNames s (request_of q) (configuration s q ws) d.state.resolved
  done-named = subst (λ (c : List ℕ). ByNames s (request_of q) c d.state.resolved) (sym (configuration-is s q ws d))
      (by_names s d.count (starts_in (check_inputs s q)) done-good (request_of q) d.state.resolved done-accepted (drop word_count ws))
