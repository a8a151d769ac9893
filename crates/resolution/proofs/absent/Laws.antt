-- The absent name: what each return shows.
use Prim.Native.Nat.{ℕ}
use mathlib.Core.Path.{◌≡◌, refl, sym, ◌∙◌}
use mathlib.Core.List.{List, [], ◌∷◌}
use lib.ListN.{take, drop}
use types.Run.{OneOf, miss}
use denote.Enum.Declared.{tag_of}
use Rattle.records.specs.declared.error.Input.{Input}
use Rattle.records.specs.declared.error.Input.TheVariants.{Set, Request, Packages}
use Rattle.records.specs.declared.error.ModuleError.{ModuleError}
use Rattle.records.specs.declared.error.ModuleError.TheVariants.{Malformed, TooLarge, Repeated, OutputTooShort, ModuleNotFound, JavaBaseNotFound, SplitPackage, DescriptorParseError, InvalidAutomaticModuleName, InvalidModuleName}
use Rattle.records.specs.contracts.error.ModuleError.{the_type}
use Rattle.resolution.specs.Absent.{part_of, absent_in, absent_name}
use Rattle.resolution.specs.Resolve.{Outcome}
use Rattle.std.specs.Prelude.{Ok, Err}

-- all refusals but 5
abbrev pub others : List ℕ
others = 0 ∷ 1 ∷ 2 ∷ 3 ∷ 5 ∷ 6 ∷ 7 ∷ 8 ∷ 9 ∷ []

not-absent : (s q : List ℕ) (e : ModuleError) → OneOf others (tag_of the_type e) → absent_in s q e ≡ []
unfolding absent_in
not-absent s q (ModuleNotFound i at n) h = absurd (miss others 4 tt h)
not-absent s q (Malformed i at) h = refl
not-absent s q (TooLarge at) h = refl
not-absent s q (Repeated at) h = refl
not-absent s q (OutputTooShort n) h = refl
not-absent s q JavaBaseNotFound h = refl
not-absent s q (SplitPackage at n owner second) h = refl
not-absent s q (DescriptorParseError at) h = refl
not-absent s q InvalidAutomaticModuleName h = refl
not-absent s q InvalidModuleName h = refl

module _ (s q : List ℕ) (o : Outcome) (r : List ℕ) where
  pub absent-accepted : r ≡ take 0 (drop 0 s) → o ≡ Ok tt → r ≡ absent_name s q o
  unfolding absent_name
  absent-accepted e h = e ∙ sym (rw h)

  module _ (x : ModuleError) (h : o ≡ Err x) where
    pub absent-other : r ≡ take 0 (drop 0 s) → OneOf others (tag_of the_type x) → r ≡ absent_name s q o
    unfolding absent_name
    absent-other e t = e ∙ sym (rw (h, not-absent s q x t))

    module _ (i : Input) (at n : ℕ) (k : x ≡ ModuleNotFound i at n) where
      pub absent-set : i ≡ Set → r ≡ take n (drop at s) → r ≡ absent_name s q o
      unfolding absent_name absent_in part_of
      absent-set z e = e ∙ sym (rw (h, k, z))

      pub absent-request : i ≡ Request → r ≡ take n (drop at q) → r ≡ absent_name s q o
      unfolding absent_name absent_in part_of
      absent-request z e = e ∙ sym (rw (h, k, z))

      pub absent_packages : i ≡ Packages → r ≡ take 0 (drop 0 s) → r ≡ absent_name s q o
      unfolding absent_name absent_in part_of
      absent_packages z e = e ∙ sym (rw (h, k, z))

pub ruleset absent-laws = (absent-accepted, absent-other, absent-set, absent-request, absent_packages)
