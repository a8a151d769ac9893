-- What a lookup of a name by the index asks; and how a package's owner is looked for.
use Rattle.std.specs.Prelude.{ℕ, ◌≤◌, Bool, ◌&&◌, List, map, length, take}
use Rattle.records.specs.Name.{mem_name}
use Rattle.records.specs.Descriptor.{Descriptor}
use Rattle.records.specs.Set.{name_at}
use Rattle.records.specs.Finder.{is_first}
use Rattle.std.proofs.Props.{props}
use Rattle.records.specs.Sorted.{Indexed, KeysAt}
use Rattle.resolution.specs.Lists.{Name}
use Rattle.resolution.specs.Configuration.{member_bit}

-- the index has the names of the first `count` modules
pub record Lookup (set starts : List ℕ) (count : ℕ) (index : List ℕ) : Type 0 where
  pub few : count ≤ 512
  pub within : count ≤ length starts
  pub indexed : Indexed (map (name_at set) (take count starts)) index

-- there is one proof of it at most, so a struct may keep it
keys-prop : (names : List (List ℕ)) (index : List ℕ) (p : ℕ) → IsProp (KeysAt names index p)
unfolding KeysAt
keys-prop names index p = Prim.hlevel props

pub lookup-prop : (set starts : List ℕ) (count : ℕ) (index : List ℕ) → IsProp (Lookup set starts count index)
lookup-prop set starts count index = Prim.hlevel (keys-prop, props)

-- the module m at k owns p, as code finds it: the packages first, of the members alone, and last whether the name finds the
-- position. ws are the words of the configuration, l the names of the set's modules
unfoldable pub owns_by : List Name → List ℕ → Name → ℕ → Descriptor → Bool
unfolding member_bit mem_name is_first
owns_by l ws p k m = member_bit ws k && (mem_name p m.packages && is_first l m.name k)
