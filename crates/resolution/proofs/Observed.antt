-- The three tests of a configuration: at observable modules they are the bits of its words, and over the configuration that
-- resolution gives they say what its modules resolved say.
use mathlib.Core.Path.{◌≡◌, refl}
use Prim.Native.Nat.{ℕ, ◌≤◌}
use native.Mathlib.Omega.{arith}
use mathlib.Core.Bool.{Bool, true, false, ◌&&◌}
use mathlib.Core.List.{List, ◌++◌}
use lib.ListN.{length}
use Rattle.records.specs.Descriptor.{Descriptor}
use Rattle.records.specs.Name.{all_unnamed}
use Rattle.records.specs.Request.{Request}
use Rattle.records.proofs.Logic.{and_left}
use Rattle.resolution.specs.Positions.{module_at, is_visible}
use Rattle.resolution.specs.Configuration.{member_bit, edge_bit, unnamed_bit}
use Rattle.resolution.specs.Reads.{reads}
use Rattle.resolution.specs.Resolution.{has_module}
use Rattle.resolution.specs.Observed.{has_member, has_edge, has_unnamed_edge}
use Rattle.resolution.specs.Resolve.{member_at, edge_at, unnamed_at, configuration_of}
use Rattle.resolution.proofs.Positions.{visible_in}
use Rattle.resolution.proofs.ConfigurationWords.{member_of_lem, edge_of, unnamed-of}

module _ (s : List Descriptor) (c : List ℕ) where
  pub member-visible : (i : ℕ) → has_member s c i ≡ true → is_visible s i ≡ true
  unfolding has_member
  member-visible i h = and_left (is_visible s i) (member_bit c i) h

  pub member-bit : (i : ℕ) → is_visible s i ≡ true → has_member s c i ≡ member_bit c i
  unfolding has_member
  member-bit i v = rw v

  pub edge-bit : (i j : ℕ) → is_visible s i ≡ true → is_visible s j ≡ true → has_edge s c i j ≡ edge_bit c i j
  unfolding has_edge
  edge-bit i j v w = rw (v, w)

  pub unnamed-bit : (i : ℕ) → is_visible s i ≡ true → has_unnamed_edge s c i ≡ unnamed_bit c i
  unfolding has_unnamed_edge
  unnamed-bit i v = rw v

-- two tests that ask first whether a module is observable are the same where it is
seen-only : (v h r : Bool) → (v ≡ true → h ≡ v && r) → v && h ≡ v && r
seen-only true h r f = f refl
seen-only false h r f = refl

both-seen : (v w h r : Bool) → (v ≡ true → w ≡ true → h ≡ v && (w && r)) → v && (w && h) ≡ v && (w && r)
both-seen true true h r f = f refl refl
both-seen true false h r f = refl
both-seen false w h r f = refl

module _ (s : List Descriptor) (long : length s ≤ 512) (rq : Request) (ms : List Descriptor) (rest : List ℕ) where
  abbrev c : List ℕ
  c = configuration_of s rq ms ++ rest

  member-word : (i : ℕ) → is_visible s i ≡ true → member_bit c i ≡ member_at s ms i
  unfolding configuration_of
  member-word i v = member_of_lem (member_at s ms) (edge_at s rq ms) (unnamed_at s rq ms) rest i (omega (arith, long, visible_in s i v))

  unnamed-word : (i : ℕ) → is_visible s i ≡ true → unnamed_bit c i ≡ unnamed_at s rq ms i
  unfolding configuration_of
  unnamed-word i v = unnamed-of (member_at s ms) (edge_at s rq ms) (unnamed_at s rq ms) rest i (omega (arith, long, visible_in s i v))

  edge-word : (i j : ℕ) → is_visible s i ≡ true → is_visible s j ≡ true → edge_bit c i j ≡ edge_at s rq ms i j
  unfolding configuration_of
  edge-word i j v w = edge_of (member_at s ms) (edge_at s rq ms) (unnamed_at s rq ms) rest i j (omega (arith, long, visible_in s i v)) (omega (arith, long, visible_in s j w))

  pub member_is : (i : ℕ) → has_member s c i ≡ member_at s ms i
  unfolding has_member member_at
  member_is i = seen-only (is_visible s i) (member_bit c i) (has_module ms (module_at s i).name) (member-word i)

  pub edge-is : (i j : ℕ) → has_edge s c i j ≡ edge_at s rq ms i j
  unfolding has_edge edge_at
  edge-is i j = both-seen (is_visible s i) (is_visible s j) (edge_bit c i j) (reads ms rq (module_at s i).name (module_at s j).name) (edge-word i j)

  pub unnamed-is : (i : ℕ) → has_unnamed_edge s c i ≡ unnamed_at s rq ms i
  unfolding has_unnamed_edge unnamed_at
  unnamed-is i = seen-only (is_visible s i) (unnamed_bit c i) (reads ms rq (module_at s i).name all_unnamed) (unnamed-word i)
