-- The jar reader: an automatic module's records, for a jar and its packages (document 01, "Automatic names").
use Rattle.std.specs.Prelude.{ℕ, ◌≤◌, List, map, ◌≡◌, Bool, true, false, length, take, ltb, Result, Ok, Err}
use Rattle.records.specs.Automatic.{Named, derived_name, derived, validated}
use Rattle.records.specs.Request.{RecordsAnswer, check_records}
use Rattle.records.specs.Order.{ordered, packages_of, name_in, all_short}
use Rattle.records.specs.Output.{written, automatic_records}
use Rattle.records.specs.declared.error.Input.TheVariants.{Packages}
use Rattle.records.specs.declared.error.ModuleError.TheVariants.{TooLarge, OutputTooShort}
use Rattle.records.specs.declared.error.ModuleError.{ModuleError}

-- the module's name: a manifest name replaces the derived one
unfoldable pub name_for : Bool → List ℕ → List ℕ → List ℕ
name_for true jar manifest = manifest
name_for false jar manifest = derived_name jar

-- whether there is one: 9, 10
unfoldable pub named_for : Bool → List ℕ → List ℕ → Named
named_for true jar manifest = validated manifest
named_for false jar manifest = derived jar

-- the records of a module of this name with these package records
unfoldable pub records_for : List ℕ → List ℕ → List ℕ
records_for name packages = automatic_records name (ordered (packages_of packages))

-- how many bytes were written, or why none
abbrev pub Written : Type 0
Written = Result ℕ ModuleError

abbrev pub pick_written : Bool → Written → Written → Written
pick_written true a b = a
pick_written false a b = b

-- an output of `room` bytes: too short for s is 4 with the bytes needed
unfoldable pub fitted : ℕ → List ℕ → Written
fitted room s = pick_written (ltb room (length s)) (Err (OutputTooShort (length s))) (Ok (length s))

unfoldable pub then_name : Named → Written → Written
then_name (Ok u) w = w
then_name (Err e) w = Err e

unfoldable pub then_packages : RecordsAnswer → Written → Written
then_packages (Ok u) w = w
then_packages (Err e) w = Err e

-- the answer: lengths (2), the package records (1), the name (9, 10), the output (4)
unfoldable pub jar_answer : List ℕ → Bool → List ℕ → List ℕ → ℕ → Written
jar_answer jar given manifest packages room =
    pick_written (ltb 255 (length jar)) (Err (TooLarge 0))
    (then_packages (check_records Packages packages) (then_name (named_for given jar manifest) (fitted room (records_for (name_for given jar manifest) packages))))

-- the output then: s at its front and the bytes past it as they were, or all as it was
unfoldable pub output_after : List ℕ → Written → List ℕ → List ℕ
output_after o (Ok n) s = written o 0 s
output_after o (Err e) s = o

-- what the jar reader answers, and what it leaves in the output
pub record JarRead (jar : List ℕ) (given : Bool) (manifest packages before after : List ℕ) (r : Written) : Type 0 where
  pub answer : r ≡ jar_answer jar given manifest packages (length before)
  pub output : after ≡ output_after before r (records_for (name_for given jar manifest) packages)

-- the same where the lengths and the package records are good
pub record NamedRead (named : Named) (name packages before after : List ℕ) (r : Written) : Type 0 where
  pub answer : r ≡ then_name named (fitted (length before) (records_for name packages))
  pub output : after ≡ output_after before r (records_for name packages)

-- the first `count` entries of the table tell the packages in byte order without repeats
pub record Ordered (packages table : List ℕ) (count : ℕ) : Type 0 where
  pub names_are : map (name_in packages) (take count table) ≡ ordered (packages_of packages)
  pub small : all_short (map (name_in packages) (take count table)) ≡ true
  pub within : count ≤ length table
  pub most : count ≤ 16384

-- the same where the name is good too
pub record Fitted (name packages before after : List ℕ) (r : Written) : Type 0 where
  pub answer : r ≡ fitted (length before) (records_for name packages)
  pub output : after ≡ output_after before r (records_for name packages)
