-- Names in byte order without repeats.
use Rattle.std.specs.Prelude.{ℕ, ◌+◌, ◌-◌, ◌/◌, ◌%◌, ◌≤◌, ◌<◌, ◌≡◌, List, [], ◌∷◌, ◌++◌, map, Bool, true, false, cond, ◌&&◌, length, get_or, take, drop, ltb, leb}
use Rattle.records.specs.Bytes.{same_bytes, before_bytes}
use Rattle.records.specs.Name.{name_of}
use Rattle.records.specs.Record.{bodies}
use Rattle.records.specs.declared.record.Kind.TheVariants.{Package}

-- the name put where it belongs in an ordered list, unless it stands there
unfoldable pub insert_name : List ℕ → List (List ℕ) → List (List ℕ)
insert_name n [] = n ∷ []
insert_name n (m ∷ l) = cond (before_bytes n m) (n ∷ m ∷ l) (cond (same_bytes n m) (m ∷ l) (m ∷ insert_name n l))

unfoldable pub ordered_from : List (List ℕ) → List (List ℕ) → List (List ℕ)
ordered_from done [] = done
ordered_from done (n ∷ l) = ordered_from (insert_name n done) l

-- the names in byte order without repeats
unfoldable pub ordered : List (List ℕ) → List (List ℕ)
ordered l = ordered_from [] l

-- each name stands before the next
unfoldable pub is_ordered : List (List ℕ) → Bool
is_ordered [] = true
is_ordered (n ∷ []) = true
is_ordered (n ∷ m ∷ l) = before_bytes n m && is_ordered (m ∷ l)

-- the name that an entry of a table tells: its start in s, times 65,536, and its length
unfoldable pub name_in : List ℕ → ℕ → List ℕ
name_in s e = take (e % 65536) (drop (e / 65536) s)

-- the packages of package records
unfoldable pub packages_of : List ℕ → List (List ℕ)
packages_of s = map name_of (bodies Package s)

-- every name passes q
unfoldable pub all_names : (List ℕ → Bool) → List (List ℕ) → Bool
all_names q [] = true
all_names q (n ∷ l) = q n && all_names q l

-- the name is short enough for a length byte
unfoldable pub is_short : List ℕ → Bool
is_short n = leb (length n) 255

unfoldable pub all_short : List (List ℕ) → Bool
all_short l = all_names is_short l

-- ---- a table of entries

-- r is the number of the first `count` entries whose names stand before `name`: all those below r, and not the one at r
pub record Placed (s table : List ℕ) (count : ℕ) (name : List ℕ) (r : ℕ) : Type 0 where
  pub within : r ≤ count
  pub below : (i : ℕ) → i < r → before_bytes (name_in s (get_or table i 0)) name ≡ true
  pub above : r < count → before_bytes (name_in s (get_or table r 0)) name ≡ false

-- the name stands at `at`, among the first `count` entries
unfoldable pub stands_at : List ℕ → List ℕ → ℕ → ℕ → List ℕ → Bool
stands_at s table count at name = ltb at count && same_bytes name (name_in s (get_or table at 0))

-- the elements from `from` up to `count` moved up by one; the one at `from` stays there too
unfoldable pub shifted : List ℕ → ℕ → ℕ → List ℕ
shifted t from count = take (from + 1) t ++ (take (count - from) (drop from t) ++ drop (count + 1) t)

-- the entry's name is put among the first `count`, which leaves r entries; what the table holds past them stays
pub record Inserted (s before after : List ℕ) (count entry r : ℕ) : Type 0 where
  pub names_are : map (name_in s) (take r after) ≡ insert_name (name_in s entry) (map (name_in s) (take count before))
  pub long : length after ≡ length before
  pub least : count ≤ r
  pub most : r ≤ count + 1
  pub sorted : is_ordered (map (name_in s) (take r after)) ≡ true
  pub rest : drop r after ≡ drop r before

-- the same for one name after the other
pub record NamesInserted (s : List ℕ) (names : List (List ℕ)) (before after : List ℕ) (count r : ℕ) : Type 0 where
  pub names_are : map (name_in s) (take r after) ≡ ordered_from (map (name_in s) (take count before)) names
  pub sorted : is_ordered (map (name_in s) (take r after)) ≡ true
  pub small : all_short (map (name_in s) (take count before)) ≡ true → all_short (map (name_in s) (take r after)) ≡ true
  pub long : length after ≡ length before
  pub rest : drop r after ≡ drop r before

-- the first r entries tell the packages in byte order without repeats
pub record PackagesOrdered (s before after : List ℕ) (r : ℕ) : Type 0 where
  pub names_are : map (name_in s) (take r after) ≡ ordered (packages_of s)
  pub small : all_short (map (name_in s) (take r after)) ≡ true
  pub long : length after ≡ length before
  pub within : r ≤ length after
  pub most : r < 16384
  pub rest : drop r after ≡ drop r before
