-- Of what is read, only the set and the table of starts matter to the questions about modules at positions.
use mathlib.Core.Path.{◌≡◌, refl}
use mathlib.Core.Bool.{◌&&◌}
use mathlib.Core.List.{List}
use mathlib.Core.Option.{Option, none, some}
use Prim.Native.Nat.{ℕ}
use Rattle.records.specs.declared.record.Kind.{Kind}
use Rattle.resolution.specs.Lists.{Name, any, keep}
use Rattle.resolution.specs.Owner.{least}
use Rattle.resolution.specs.Row.{holds}
use Rattle.resolution.specs.Resolver.{Inputs, start_of, block_of, names_of, has_named, is_met_before, owner_at, split_of, split_at, is_provider_at}
use Rattle.resolution.specs.Filter.{Covers, asked, asked_before, first_named}

module _ (w : Inputs) where
  pub names-asked : (k : Kind) (i : ℕ) → names_of w k i ≡ names_of (asked w.set w.starts) k i
  unfolding names_of block_of
  names-asked k i = refl

  pub named-asked : (k : Kind) (ps : List ℕ) (n : Name) → has_named w k ps n ≡ has_named (asked w.set w.starts) k ps n
  unfolding has_named names_of block_of
  named-asked k ps n = refl

  pub first-asked : (k : Kind) (ps : List ℕ) (n : Name) → first_named w k ps n ≡ first_named (asked w.set w.starts) k ps n
  unfolding first_named names_of block_of
  first-asked k ps n = refl

  pub owner-asked : (ps : List ℕ) (n : Name) → owner_at w ps n ≡ owner_at (asked w.set w.starts) ps n
  unfolding owner_at names_of block_of
  owner-asked ps n = refl

  refusal-asked : (ps : List ℕ) (p : ℕ) (o : Option Name) → split_of w ps p o ≡ split_of (asked w.set w.starts) ps p o
  unfolding split_of owner_at start_of names_of block_of
  refusal-asked ps p none = refl
  refusal-asked ps p (some n) = refl

  pub split-asked : (ps : List ℕ) (p : ℕ) → split_at w ps p ≡ split_at (asked w.set w.starts) ps p
  unfolding split_at has_named names_of block_of
  split-asked ps p = refusal-asked ps p (least (keep (has_named w Kind.Package ps) (names_of w Kind.Package p)))

  pub provider_asked : (ps : List ℕ) (i : ℕ) → is_provider_at w ps i
      ≡ (holds w.permitted i && any (has_named (asked w.set w.starts) Kind.Uses ps) (names_of (asked w.set w.starts) Kind.Provides i))
  unfolding is_provider_at has_named names_of block_of
  provider_asked ps i = refl

  pub met-asked : (n : Name) → is_met_before w n ≡ is_met_before (asked_before w.set w.request w.starts w.before) n
  unfolding is_met_before block_of
  met-asked n = refl

  pub covers-asked : (k : Kind) (words ps : List ℕ) → Covers w k words ps → Covers (asked w.set w.starts) k words ps
  unfolding names_of block_of
  covers-asked k words ps c = record { each = c.each }

  pub covers_of : (k : Kind) (words ps : List ℕ) → Covers (asked w.set w.starts) k words ps → Covers w k words ps
  unfolding names_of block_of
  covers_of k words ps c = record { each = c.each }
