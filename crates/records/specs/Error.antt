-- The refusals of document 01: the number of each, and what is returned with it.
use Rattle.std.specs.Prelude.{ℕ, List, [], ◌∷◌}
use Rattle.records.specs.declared.error.Input.{Input}
use Rattle.records.specs.declared.error.Input.TheVariants.{Set, Request, Packages}
use Rattle.records.specs.declared.error.ModuleError.{ModuleError}
use Rattle.records.specs.declared.error.ModuleError.TheVariants.{Malformed, TooLarge, Repeated, OutputTooShort, ModuleNotFound, JavaBaseNotFound, SplitPackage, DescriptorParseError, InvalidAutomaticModuleName, InvalidModuleName}

-- which of the three inputs, or of the two that a name is a part of
unfoldable pub input_number : Input → ℕ
input_number Set = 0
input_number Request = 1
input_number Packages = 2

-- the number of a refusal
unfoldable pub number_of : ModuleError → ℕ
number_of (Malformed i at) = 1
number_of (TooLarge at) = 2
number_of (Repeated at) = 3
number_of (OutputTooShort n) = 4
number_of (ModuleNotFound i at n) = 5
number_of JavaBaseNotFound = 6
number_of (SplitPackage at n o k) = 7
number_of (DescriptorParseError at) = 8
number_of InvalidAutomaticModuleName = 9
number_of InvalidModuleName = 10

-- what is returned with it. 1: which of the three, offset of the mark. 2 and 3: offset of the record. 4: bytes or words needed.
-- 5: the slice that has the name, where its bytes start, and how many they are. 7: the same of the package in the set, then
-- the positions of the owner and of the second module. 8: offset.
unfoldable pub particulars_of : ModuleError → List ℕ
particulars_of (Malformed i at) = input_number i ∷ at ∷ []
particulars_of (TooLarge at) = at ∷ []
particulars_of (Repeated at) = at ∷ []
particulars_of (OutputTooShort n) = n ∷ []
particulars_of (ModuleNotFound i at n) = input_number i ∷ at ∷ n ∷ []
particulars_of JavaBaseNotFound = []
particulars_of (SplitPackage at n o k) = at ∷ n ∷ o ∷ k ∷ []
particulars_of (DescriptorParseError at) = at ∷ []
particulars_of InvalidAutomaticModuleName = []
particulars_of InvalidModuleName = []
