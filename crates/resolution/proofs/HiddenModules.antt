-- In the words that `resolve` writes, all bits of a position whose module is hidden are zero.
use mathlib.Core.Path.{◌≡◌}
use mathlib.Core.Bool.{false, and-false}
use mathlib.Core.List.{List, ◌++◌}
use Prim.Native.Nat.{ℕ}
use lib.ListN.{drop}
use Rattle.records.specs.Descriptor.{Descriptor}
use Rattle.records.specs.Request.{Request, request_of, check_inputs}
use Rattle.records.specs.Set.{modules, count_of}
use Rattle.records.specs.Set.{CountAnswer}
use Rattle.records.proofs.Logic.{clash}
use Rattle.resolution.specs.Configuration.{word_count, with_words}
use Rattle.resolution.specs.Hidden.{AllZero}
use Rattle.resolution.specs.Loop.{Result, failed, done}
use Rattle.resolution.specs.Positions.{is_visible}
use Rattle.resolution.specs.Resolution.{Refusal, State}
use Rattle.resolution.specs.Resolution as Resolution
use Rattle.resolution.specs.Resolve.{answered, configuration_of, edge_at, member_at, refused, resolve, told, unnamed_at}
use Rattle.resolution.proofs.ConfigurationWords.{member-not, edge-not, unnamed-not}
use Rattle.std.specs.Prelude.{Ok, Err}

configured_zero : (s : List Descriptor) (rq : Request) (ms : List Descriptor) (rest : List ℕ) (k : ℕ) → is_visible s k ≡ false → AllZero (configuration_of s rq ms ++ rest) k
unfolding configuration_of
configured_zero s rq ms rest k v = record {
  member = member-not (member_at s ms) (edge_at s rq ms) (unnamed_at s rq ms) rest k (unfold member_at in rw v);
  source = λ j. edge-not (member_at s ms) (edge_at s rq ms) (unnamed_at s rq ms) rest k j (unfold edge_at in rw v);
  target = λ j. edge-not (member_at s ms) (edge_at s rq ms) (unnamed_at s rq ms) rest j k (unfold edge_at in rw v (and-false (is_visible s j)));
  unnamed = unnamed-not (member_at s ms) (edge_at s rq ms) (unnamed_at s rq ms) rest k (unfold unnamed_at in rw v);
}

module _ (s q ws : List ℕ) (k : ℕ) (v : is_visible (modules s) k ≡ false) where
  told-zero : (r : Result State Refusal) → (told s q ws r).outcome ≡ Ok tt → AllZero (told s q ws r).words k
  unfolding told refused
  told-zero (failed a) h = clash (cc)
  told-zero (done st) h = configured_zero (modules s) (request_of q) st.resolved (drop word_count ws) k v

  answered-zero : (a : CountAnswer) → (answered s q ws a).outcome ≡ Ok tt → AllZero (answered s q ws a).words k
  unfolding answered refused
  answered-zero (Err e) h = clash (cc)
  answered-zero (Ok n) h = told-zero (Resolution.resolve (modules s) (request_of q)) h

  -- the words that `resolve` writes have none of its bits set
  pub hidden-zero : (resolve s q ws).outcome ≡ Ok tt → AllZero (resolve s q ws).words k
  unfolding resolve
  hidden-zero h = answered-zero (with_words ws (count_of (check_inputs s q))) h
