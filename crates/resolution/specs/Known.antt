-- What the tables that the queue reads tell.
use Rattle.std.specs.Prelude.{ℕ, ◌≤◌, ◌≡◌, Bool, true, false, ◌||◌, Option, Some, List, map, length}
use Rattle.records.specs.Bytes.{same_bytes}
use Rattle.records.specs.Name.{java_base, mem_name}
use Rattle.records.specs.Order.{name_in, is_ordered}
use Rattle.records.specs.Request.{request_of, is_permitted}
use Rattle.resolution.specs.Lists.{Name}
use Rattle.resolution.specs.Resolver.{inputs_of, is_met_before}
use Rattle.resolution.specs.Lookup.{Lookup, lookup-prop}
use Rattle.std.proofs.Props.{props}
use Rattle.resolution.specs.Table.{told_in}
use Rattle.resolution.specs.declared.resolver.Phase.{Phase}

-- a request that is not limited permits every name
pub record Limited (request : List ℕ) (limited : Bool) : Type 0 where
  pub free : limited ≡ false → (x : Name) → is_permitted (request_of request) x ≡ true

-- the first r entries of the table tell in order which names the request permits beside java.base; None where that is not known
pub record LimitTold (request table : List ℕ) (r : Option ℕ) : Type 0 where
  pub room : (n : ℕ) → r ≡ Some n → n ≤ length table
  pub sorted : (n : ℕ) → r ≡ Some n → is_ordered (told_in request table n) ≡ true
  pub permits : (n : ℕ) → r ≡ Some n → (x : Name) → (same_bytes x java_base || mem_name x (told_in request table n)) ≡ is_permitted (request_of request) x

-- the first r entries of the table tell the roots of the request in order
pub record RootsTold (request table : List ℕ) (r : ℕ) : Type 0 where
  pub room : r ≤ length table
  pub sorted : is_ordered (told_in request table r) ≡ true
  pub told : (x : Name) → mem_name x (told_in request table r) ≡ mem_name x (request_of request).roots

-- before the rounds the table `names` tells which names the request permits
pub record Limits (request : List ℕ) (phase : Phase) (names : List ℕ) : Type 0 where
  pub free : phase.limited ≡ false → (x : Name) → is_permitted (request_of request) x ≡ true
  pub sorted : phase.known ≡ true → phase.in_round ≡ false → is_ordered (map (name_in request) names) ≡ true
  pub permits : phase.known ≡ true → phase.in_round ≡ false → (x : Name) → (same_bytes x java_base || mem_name x (map (name_in request) names)) ≡ is_permitted (request_of request) x

-- in a round the tables `names` and `needed` tell which absent names were met before the rounds
pub record Met (set request starts old : List ℕ) (phase : Phase) (names needed : List ℕ) : Type 0 where
  pub sorted : phase.known ≡ true → phase.in_round ≡ true → is_ordered (map (name_in request) names) ≡ true
  pub sorted_needed : phase.known ≡ true → phase.in_round ≡ true → is_ordered (map (name_in set) needed) ≡ true
  pub met : phase.known ≡ true → phase.in_round ≡ true
      → (x : Name) → (mem_name x (map (name_in request) names) || mem_name x (map (name_in set) needed)) ≡ is_met_before (inputs_of set request starts old phase) x

-- and the index of the names of the set, and whether the request has an ST
pub record Tables (set request starts old : List ℕ) (phase : Phase) (index names needed : List ℕ) : Type 0 where
  pub lookup : Lookup set starts phase.count index
  pub limits : Limits request phase names
  pub met : Met set request starts old phase names needed
  pub statics : phase.statics ≡ (request_of request).has_static

pub limits-prop : (request : List ℕ) (phase : Phase) (names : List ℕ) → IsProp (Limits request phase names)
limits-prop request phase names = Prim.hlevel props

pub met-prop : (set request starts old : List ℕ) (phase : Phase) (names needed : List ℕ) → IsProp (Met set request starts old phase names needed)
met-prop set request starts old phase names needed = Prim.hlevel props

-- there is one proof of it at most, so a struct may keep it
pub tables-prop : (set request starts old : List ℕ) (phase : Phase) (index names needed : List ℕ) → IsProp (Tables set request starts old phase index names needed)
tables-prop set request starts old phase index names needed = Prim.hlevel (lookup-prop, props)

-- what the rounds read beside the queue, before there are tables of names
pub record Later (set request starts old : List ℕ) (phase : Phase) (index : List ℕ) : Type 0 where
  pub lookup : Lookup set starts phase.count index
  pub short : length request ≤ 65535
  pub within : phase.before ≤ length old
  pub later : phase.in_round ≡ true
  pub unknown : phase.known ≡ false
  pub free : phase.limited ≡ false → (x : Name) → is_permitted (request_of request) x ≡ true
  pub statics : phase.statics ≡ (request_of request).has_static
