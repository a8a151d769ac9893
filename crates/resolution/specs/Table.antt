-- Tables of names in byte order, which records of modules tell: the services that they use, or what they require and is not static.
use Rattle.std.specs.Prelude.{ℕ, ◌≤◌, ◌≡◌, Bool, true, ◌||◌, Option, Some, List, map, length, take}
use Rattle.records.specs.Bytes.{same_bytes}
use Rattle.records.specs.Name.{mem_name, name_of}
use Rattle.records.specs.Order.{name_in, is_ordered}
use Rattle.records.specs.Record.{bodies}
use Rattle.records.specs.Set.{block_at}
use Rattle.records.specs.declared.record.Kind.{Kind}
use Rattle.resolution.specs.Lists.{Name, any}
use Rattle.resolution.specs.Resolver.{requires_name}
use Rattle.resolution.specs.declared.table.Told.{Told}
use Rattle.resolution.specs.declared.table.Told.TheVariants.{Services, Requirements}

-- the names that the first `count` entries of a table tell
abbrev pub told_in : List ℕ → List ℕ → ℕ → List Name
told_in set table count = map (name_in set) (take count table)

-- the kind of the records that tell these names
unfoldable pub kind_of : Told → Kind
kind_of Requirements = Kind.Requires
kind_of Services = Kind.Uses

-- the record with this body tells the name
unfoldable pub tells : Told → Name → List ℕ → Bool
unfolding requires_name
tells Requirements x b = requires_name x b
tells Services x b = same_bytes (name_of b) x

-- one of these records does
unfoldable pub tells_in : Told → List ℕ → Name → Bool
unfolding any tells kind_of
tells_in t part x = any (tells t x) (bodies (kind_of t) part)

-- one of the modules at these positions does
unfoldable pub tells_at : Told → List ℕ → List ℕ → List ℕ → Name → Bool
unfolding any tells_in
tells_at t set starts ps x = any (λ i. tells_in t (block_at set starts i) x) ps

-- the name of a record is put into the table, if it tells one
pub record NamePut (t : Told) (set body before : List ℕ) (count : ℕ) (after : List ℕ) (r : ℕ) : Type 0 where
  pub room : r ≤ length after
  pub sorted : is_ordered (told_in set after r) ≡ true
  pub told : (x : Name) → mem_name x (told_in set after r) ≡ (mem_name x (told_in set before count) || tells t x body)

-- those of these records are, and r is how many the table tells then; None where it has no room for all
pub record NamesAdded (t : Told) (set part before : List ℕ) (count : ℕ) (after : List ℕ) (r : Option ℕ) : Type 0 where
  pub room : (n : ℕ) → r ≡ Some n → n ≤ length after
  pub sorted : (n : ℕ) → r ≡ Some n → is_ordered (told_in set after n) ≡ true
  pub told : (n : ℕ) → r ≡ Some n → (x : Name) → mem_name x (told_in set after n) ≡ (mem_name x (told_in set before count) || tells_in t part x)

-- the first r entries of the table tell in order the names that the modules at these positions tell; None where it has no room for all
pub record NamesTold (t : Told) (set starts ps table : List ℕ) (r : Option ℕ) : Type 0 where
  pub room : (n : ℕ) → r ≡ Some n → n ≤ length table
  pub sorted : (n : ℕ) → r ≡ Some n → is_ordered (told_in set table n) ≡ true
  pub told : (n : ℕ) → r ≡ Some n → (x : Name) → mem_name x (told_in set table n) ≡ tells_at t set starts ps x
