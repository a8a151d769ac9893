-- A quick test that a name is in none of the modules seen so far: a table of 65,536 bits, two of them for a name; and the
-- questions about modules at positions as the code asks them, of a set and the table of its starts.
use Rattle.std.specs.Prelude.{ℕ, ◌/◌, ◌%◌, ◌≡◌, Bool, true, false, ◌&&◌, ◌||◌, List, [], eqb}
use Rattle.std.proofs.Math.Option.{Option, none, some}
use Rattle.records.specs.Bytes.{before_bytes}
use Rattle.records.specs.Name.{mem_name}
use Rattle.records.specs.Order.{name_in}
use Rattle.records.specs.Record.{bodies}
use Rattle.records.specs.Finder.{Found}
use Rattle.records.specs.declared.record.Kind.{Kind}
use Rattle.resolution.specs.Lists.{Name, Mem, any, keep, first}
use Rattle.resolution.specs.Owner.{least, lesser}
use Rattle.resolution.specs.Row.{holds}
use Rattle.resolution.specs.Hash.{hash_of}
use Rattle.resolution.specs.Resolver.{Inputs, block_of, names_of, requires_name}
use Rattle.std.specs.Prelude.{Some, None}

-- ---- the filter

-- both bits of a name's number are set
unfoldable pub has_bits : List ℕ → ℕ → Bool
has_bits words h = holds words (h % 65536) && holds words (h / 65536 % 65536)

unfoldable pub is_marked : List ℕ → Name → Bool
is_marked words n = has_bits words (hash_of n)

-- `after` has the bits of `before`, and bit a
pub record BitSet (before : List ℕ) (a : ℕ) (after : List ℕ) : Type 0 where
  pub each : (k : ℕ) → holds after k ≡ holds before k || eqb k a

-- `after` has the bits of `before`, and both of this number
pub record BitsSet (before : List ℕ) (h : ℕ) (after : List ℕ) : Type 0 where
  pub kept : (x : ℕ) → has_bits before x ≡ true → has_bits after x ≡ true
  pub new : has_bits after h ≡ true

-- `after` has the marks of `before`, and marks these names
pub record MarkedAll (before : List ℕ) (names : List Name) (after : List ℕ) : Type 0 where
  pub kept : (n : Name) → is_marked before n ≡ true → is_marked after n ≡ true
  pub new : (n : Name) → mem_name n names ≡ true → is_marked after n ≡ true

-- each name in front of the records of this kind of the modules at these positions is marked
pub record Covers (w : Inputs) (k : Kind) (words ps : List ℕ) : Type 0 where
  pub each : (i : ℕ) → Mem i ps → (n : Name) → mem_name n (names_of w k i) ≡ true → is_marked words n ≡ true

-- ---- the least of some names

-- where the name stands in the set is told by an entry
unfoldable pub least_of : List ℕ → Found → Option Name
least_of set (Some entry) = some (name_in set entry)
least_of set None = none

-- this name stands before it, or there is none
unfoldable pub is_less : List ℕ → Found → Name → Bool
is_less set (Some entry) n = before_bytes n (name_in set entry)
is_less set None n = true

-- the lesser of two, where there are two
unfoldable pub lesser_of : Option Name → Option Name → Option Name
lesser_of none o = o
lesser_of (some x) o = lesser x o

-- the least of these names that is in the table
unfoldable pub least_in : List Name → List Name → Option Name
least_in table names = least (keep (λ n. mem_name n table) names)

-- ---- modules at positions

-- what is read where only the set, the request, the table of starts and the positions resolved before the rounds are
abbrev pub asked_before : List ℕ → List ℕ → List ℕ → List ℕ → Inputs
asked_before set request starts before = record {
  set = set;
  request = request;
  starts = starts;
  count = 0;
  permitted = [];
  in_round = false;
  before = before;
}

-- where only the set and the table are
abbrev pub asked : List ℕ → List ℕ → Inputs
asked set starts = asked_before set [] starts []

unfoldable pub found_of : Option ℕ → Found
found_of none = None
found_of (some i) = Some i

-- the position, 0 where there is none
unfoldable pub position_in : Found → ℕ
position_in (Some i) = i
position_in None = 0

-- of these positions, the first whose module has a record of this kind with this name in front
unfoldable pub first_named : Inputs → Kind → List ℕ → Name → Option ℕ
unfolding first
first_named w k ps n = first (λ i. mem_name n (names_of w k i)) ps

-- a requirement of the block that is not static is of this name
unfoldable pub requires_in : List ℕ → Name → Bool
unfolding any
requires_in b n = any (requires_name n) (bodies Kind.Requires b)

-- a module at one of these positions has such a requirement
unfoldable pub is_required : Inputs → List ℕ → Name → Bool
unfolding any
is_required w ps n = any (λ i. requires_in (block_of w i) n) ps
