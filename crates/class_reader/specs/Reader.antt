-- What each step of the class reader answers and leaves in the output (forms of the code).
use Rattle.std.specs.Prelude.{ℕ, ◌+◌, ◌≤◌, ◌≡◌, List, map, true, false, length, Option, Some, None, Result}
use Rattle.records.specs.Bytes.{u16_at}
use Rattle.records.specs.Jar.{fitted, output_after}
use Rattle.records.specs.Order.{ordered, all_short, name_in}
use Rattle.records.specs.Jar.{Written}
use Rattle.class_reader.specs.Entry.{Item, bytes_of, is_large}
use Rattle.class_reader.specs.Attribute.{package_names, module_at, module_items, descriptor_items}
use Rattle.class_reader.specs.ClassFile.{sized, then_faults, faults_behind, faults_from, seen_behind, items_from}
use Rattle.class_reader.specs.declared.attribute.Seen.{Seen}
use Rattle.class_reader.specs.declared.pool.Fault.{Fault}

-- the number of indices of the ModulePackages attribute, where there is one
unfoldable pub package_count : List ℕ → Option ℕ → ℕ
package_count f None = 0
package_count f (Some at) = u16_at f (at + 6)

-- `size` is the length of the records of the Module attribute, and no body of theirs is too long
pub record Sized (f t : List ℕ) (s : Seen) (size : ℕ) : Type 0 where
  pub sum : size ≡ length (bytes_of (module_items f t (module_at s)))
  pub low : size ≤ 8519550
  pub narrow : is_large (module_items f t (module_at s)) ≡ false

-- these entries tell the packages in byte order without repeats
pub record Ordered (f t : List ℕ) (s : Seen) (names : List ℕ) : Type 0 where
  pub names_are : map (name_in f) names ≡ ordered (package_names f t s.packages)
  pub small : all_short (map (name_in f) names) ≡ true
  pub few : length names ≤ 65535

-- these records, in an output that may be too short
pub record ItemsFitted (is : List Item) (before after : List ℕ) (r : Written) : Type 0 where
  pub answer : r ≡ fitted (length before) (bytes_of is)
  pub output : after ≡ output_after before r (bytes_of is)

-- the same where a body may be too long
pub record ItemsRead (is : List Item) (before after : List ℕ) (r : Written) : Type 0 where
  pub answer : r ≡ sized (length before) is
  pub output : after ≡ output_after before r (bytes_of is)

-- a file whose pool ends at `at`
pub record BehindRead (f t : List ℕ) (at : ℕ) (before after : List ℕ) (r : Written) : Type 0 where
  pub answer : r ≡ then_faults (faults_behind f t at) (sized (length before) (descriptor_items f t (seen_behind f t at)))
  pub output : after ≡ output_after before r (bytes_of (descriptor_items f t (seen_behind f t at)))

-- a file whose pool was read
pub record PoolRead (f t : List ℕ) (p : Result ℕ Fault) (before after : List ℕ) (r : Written) : Type 0 where
  pub answer : r ≡ then_faults (faults_from f t p) (sized (length before) (items_from f t p))
  pub output : after ≡ output_after before r (bytes_of (items_from f t p))
