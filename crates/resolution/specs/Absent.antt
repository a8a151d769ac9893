-- "The name of refusal 5 is handed back as a part of the request or of the set" (document 01).
use Rattle.std.specs.Prelude.{ℕ, List, [], take, drop}
use Rattle.records.specs.declared.error.Input.{Input}
use Rattle.records.specs.declared.error.Input.TheVariants.{Set, Request, Packages}
use Rattle.records.specs.declared.error.ModuleError.{ModuleError}
use Rattle.records.specs.declared.error.ModuleError.TheVariants.{Malformed, TooLarge, Repeated, OutputTooShort, ModuleNotFound, JavaBaseNotFound, SplitPackage, DescriptorParseError, InvalidAutomaticModuleName, InvalidModuleName}
use Rattle.resolution.specs.Resolve.{Outcome}
use Rattle.std.specs.Prelude.{Ok, Err}

-- the n bytes from `at` on, of the set s or of the request q
unfoldable pub part_of : List ℕ → List ℕ → Input → ℕ → ℕ → List ℕ
part_of s q Set at n = take n (drop at s)
part_of s q Request at n = take n (drop at q)
part_of s q Packages at n = []

unfoldable pub absent_in : List ℕ → List ℕ → ModuleError → List ℕ
unfolding part_of
absent_in s q (ModuleNotFound i at n) = part_of s q i at n
absent_in s q (Malformed i at) = []
absent_in s q (TooLarge at) = []
absent_in s q (Repeated at) = []
absent_in s q (OutputTooShort n) = []
absent_in s q JavaBaseNotFound = []
absent_in s q (SplitPackage at n owner second) = []
absent_in s q (DescriptorParseError at) = []
absent_in s q InvalidAutomaticModuleName = []
absent_in s q InvalidModuleName = []

-- the absent name of an outcome; empty where it is no refusal 5
unfoldable pub absent_name : List ℕ → List ℕ → Outcome → List ℕ
unfolding absent_in
absent_name s q (Ok tt) = []
absent_name s q (Err e) = absent_in s q e
