-- Lookup of a module by its name: a table of the positions of the visible modules in ascending byte order of their names, and a
-- search of it by halves.
use Rattle.std.specs.Prelude.{ℕ, zero, suc, ◌+◌, ◌-◌, ◌*◌, ◌/◌, ◌≤◌, ◌<◌, ◌≡◌, List, [], ◌∷◌, ◌++◌, map, Bool, true, false, ◌&&◌, ◌||◌, length, get_or, take, drop, set, ltb, eqb, Some, None, Result, Ok, Err}
use Rattle.std.proofs.Props.{props}
use Rattle.records.specs.Bytes.{same_bytes, before_bytes}
use Rattle.records.specs.Name.{mem_name}
use Rattle.records.specs.Order.{is_ordered, shifted}
use Rattle.records.specs.Set.{name_at, module_limit, VerdictAnswer, SetAnswer}
use Rattle.records.specs.Finder.{is_first}
use Rattle.records.specs.Keys.{standing, Keys}
use Rattle.records.specs.Finder.{Found}
use Rattle.std.specs.declared.cmp.Ordering.{Ordering}
use Rattle.records.specs.declared.set.Verdict.TheVariants.{Start, Main, Enter, Pass}
use Rattle.records.specs.declared.set.Checked.{Checked}
use Rattle.std.specs.declared.cmp.Ordering.TheVariants.{Less, Equal, Greater}

-- ---- the search

-- the name of a position
unfoldable pub name_of_position : List (List ℕ) → ℕ → List ℕ
name_of_position names p = get_or names p []

-- the names of the positions of a table
unfoldable pub names_by : List (List ℕ) → List ℕ → List (List ℕ)
names_by names table = map (name_of_position names) table

unfoldable pub middle_of : ℕ → ℕ → ℕ
middle_of low high = low + (high - low) / 2

-- the entry that a name stands at, or else the entry that it belongs before
abbrev pub Place : Type 0
Place = Result ℕ ℕ

abbrev pub pick_place : Bool → Place → Place → Place
pick_place true a b = a
pick_place false a b = b

abbrev pub by_standing : Ordering → Place → Place → Place → Place
by_standing Equal a b c = a
by_standing Less a b c = b
by_standing Greater a b c = c

-- where the name n stands among the entries of the table from low up to high, or belongs. At most k names of modules are compared
-- with it: first that of entry m, and then each time the one in the middle of what is left
unfoldable pub search_at : ℕ → List (List ℕ) → List ℕ → List ℕ → ℕ → ℕ → ℕ → Place
search_at zero names table n low m high = Err low
search_at (suc k) names table n low m high = pick_place (ltb low high)
    (by_standing (standing (name_of_position names (get_or table m 0)) n)
    (Ok m)
    (search_at k names table n (m + 1) (middle_of (m + 1) high) high)
    (search_at k names table n low (middle_of low m) m))
    (Err low)

-- the position that stands there
unfoldable pub found_in : List ℕ → Place → Found
found_in table (Ok m) = Some (get_or table m 0)
found_in table (Err k) = None

-- the position of the name n, where at most ten names are compared with it, first that of entry m
unfoldable pub search_ten : List (List ℕ) → List ℕ → ℕ → List ℕ → Found
search_ten names table m n = found_in table (search_at 10 names table n 0 m (length table))

-- ---- the table

-- the position is visible: the walk from the front finds it by its own name
unfoldable pub is_visible : List (List ℕ) → ℕ → Bool
unfolding is_first
is_visible names p = is_first names (name_of_position names p) p

unfoldable pub all_visible : List (List ℕ) → List ℕ → Bool
all_visible names [] = true
all_visible names (p ∷ l) = is_visible names p && all_visible names l

-- the position is in the table
unfoldable pub has_position : ℕ → List ℕ → Bool
has_position p [] = false
has_position p (q ∷ l) = eqb p q || has_position p l

-- the table holds visible positions in ascending byte order of their names, and one for each name
pub record Sorted (names : List (List ℕ)) (table : List ℕ) : Type 0 where
  pub ascending : is_ordered (names_by names table) ≡ true
  pub visible : all_visible names table ≡ true
  pub every : (n : List ℕ) → mem_name n names ≡ true → mem_name n (names_by names table) ≡ true

-- ---- where a name belongs in it

-- the name stands at m
pub record Held (names : List (List ℕ)) (table name : List ℕ) (m : ℕ) : Type 0 where
  pub within : m < length table
  pub same : same_bytes (name_of_position names (get_or table m 0)) name ≡ true

-- the name belongs at r: the names of the entries below r stand before it, and those from r on behind it
pub record Gap (names : List (List ℕ)) (table name : List ℕ) (r : ℕ) : Type 0 where
  pub within : r ≤ length table
  pub below : (i : ℕ) → i < r → before_bytes (name_of_position names (get_or table i 0)) name ≡ true
  pub above : (i : ℕ) → r ≤ i → i < length table → before_bytes name (name_of_position names (get_or table i 0)) ≡ true

pub record Placing (names : List (List ℕ)) (table name : List ℕ) (r : Place) : Type 0 where
  pub there : (m : ℕ) → r ≡ Ok m → Held names table name m
  pub free : (k : ℕ) → r ≡ Err k → Gap names table name k

-- ---- the index: three numbers for each of 512 positions, of its name the first eight bytes, the next eight and the length; how many
-- entries the table has; the entry that is compared first; and the table

-- where the index tells how many entries the table has
abbrev pub entries_slot : ℕ
entries_slot = 1536

-- where it tells which of them is compared first
abbrev pub first_slot : ℕ
first_slot = 1537

-- where the table begins
abbrev pub table_slot : ℕ
table_slot = 1538

-- how many entries the index has
abbrev pub index_length : ℕ
index_length = 2050

unfoldable pub entries_in : List ℕ → ℕ
entries_in index = get_or index entries_slot 0

unfoldable pub table_in : List ℕ → List ℕ
unfolding entries_in
table_in index = take (entries_in index) (drop table_slot index)

-- the three numbers of position p
unfoldable pub KeysAt : List (List ℕ) → List ℕ → ℕ → Type 0
KeysAt names index p = Keys (name_of_position names p) (get_or index (3 * p) 0) (get_or index (3 * p + 1) 0) (get_or index (3 * p + 2) 0)

pub record Indexed (names : List (List ℕ)) (index : List ℕ) : Type 0 where
  pub long : length index ≡ index_length
  pub most : length names ≤ module_limit
  pub few : entries_in index ≤ length names
  pub first : get_or index first_slot 0 ≤ entries_in index - 1
  pub sorted : Sorted names (table_in index)
  pub keys : (p : ℕ) → has_position p (table_in index) ≡ true → KeysAt names index p

-- there is one proof of it at most, so a struct may keep it
keys-prop : (names : List (List ℕ)) (index : List ℕ) (p : ℕ) → IsProp (KeysAt names index p)
unfolding KeysAt
keys-prop names index p = Prim.hlevel props

pub indexed-prop : (names : List (List ℕ)) (index : List ℕ) → IsProp (Indexed names index)
indexed-prop names index = Prim.hlevel (keys-prop, props)

-- ---- how it is made

-- the names of the entries below h stand before the name
pub record Below (names : List (List ℕ)) (table name : List ℕ) (h : ℕ) : Type 0 where
  pub all : (i : ℕ) → i < h → before_bytes (name_of_position names (get_or table i 0)) name ≡ true

-- the index with position i at entry `at` and the three numbers of its name
unfoldable pub put_at : List ℕ → ℕ → ℕ → ℕ → ℕ → ℕ → List ℕ
put_at index at i k j len =
    set (set (set (set (set (set (shifted index (table_slot + at) (table_slot + entries_in index)) (table_slot + at) i) entries_slot (entries_in index + 1)) first_slot at) (3 * i) k) (3 * i + 1) j) (3 * i + 2) len

-- one name more is in the index, and it was none of the names if r says so
pub record Added (names : List (List ℕ)) (name index : List ℕ) (r : Bool) : Type 0 where
  pub indexed : Indexed (names ++ (name ∷ [])) index
  pub new : r ≡ true → mem_name name names ≡ false

-- ---- in the check of a set

-- these leave the modules as they are
unfoldable pub leaves : VerdictAnswer → Bool
leaves (Err e) = false
leaves (Ok Start) = false
leaves (Ok Main) = true
leaves (Ok Enter) = true
leaves (Ok Pass) = true

-- where a module starts, its name is in the index with those before it
pub record Kept (names : List (List ℕ)) (name before after : List ℕ) (r : VerdictAnswer) : Type 0 where
  pub start : r ≡ (Ok Start) → Indexed (names ++ (name ∷ [])) after
  pub other : leaves r ≡ true → after ≡ before

-- where the set is not refused, the index is that of its modules
pub record IndexedSet (s : List ℕ) (r : SetAnswer) (index : List ℕ) : Type 0 where
  pub names : (c : Checked) → r ≡ Ok c → Indexed (map (name_at s) (take c.count c.starts)) index
