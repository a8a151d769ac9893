-- Document 01's ten cases ("Cases to prove"), of the definitions over bytes.
use Rattle.std.specs.Prelude.{ℕ, ◌≤◌, ◌≡◌, true, List, [], ◌∷◌, length, replicate}
use Rattle.std.proofs.Math.Option.{some}
use Rattle.records.specs.Name.{java_base}
use Rattle.records.specs.Request.{request_of}
use Rattle.records.specs.Set.{modules}
use Rattle.records.specs.Automatic.{derived, derived_name}
use Rattle.records.specs.Cases.{foot_notes_jar, foot_notes, versions_jar, only_jar}
use Rattle.records.specs.declared.error.Input.TheVariants as Input
use Rattle.records.specs.declared.error.ModuleError.TheVariants.{ModuleNotFound, JavaBaseNotFound, InvalidAutomaticModuleName, InvalidModuleName}
use Rattle.resolution.specs.Configuration.{word_count}
use Rattle.resolution.specs.Lists.{Name}
use Rattle.resolution.specs.Loop.{Result}
use Rattle.resolution.specs.Resolution.{State, Refusal}
use Rattle.resolution.specs.Resolution as Resolution
use Rattle.resolution.specs.Resolve.{refused, resolve}
use Rattle.resolution.specs.Cases.{members_of, reads_of, owners_of, a, b, c, java_lang, page_core, page_foot, page_frames, foot_package, frame_package, base_set, listing_set, cycle_set, listing_request, root_a, root_a_nothing_permitted}
use Rattle.access.specs.Access.{reads_name, is_reflection, check_access}
use Rattle.access.specs.Demand3.{configuration}
use Rattle.access.specs.declared.access.AccessKind.TheVariants.{Access}
use Rattle.access.specs.declared.access.AccessCheckResult.TheVariants.{NotExported}
use Rattle.std.specs.Prelude.{Ok, Err}

-- java.base; a (EX p to b, EX p unqualified); c (RQ a)
unfoldable pub exports_set : List ℕ
exports_set = 77 ∷ 79 ∷ 0 ∷ 14 ∷ 0 ∷ 0 ∷ 0 ∷ 9 ∷ 106 ∷ 97 ∷ 118 ∷ 97 ∷ 46 ∷ 98 ∷ 97 ∷ 115 ∷ 101 ∷ 0 ∷ 80 ∷ 75 ∷ 0 ∷ 10 ∷ 9 ∷ 106 ∷ 97 ∷ 118 ∷ 97 ∷ 47 ∷ 108 ∷ 97 ∷ 110 ∷ 103 ∷ 77 ∷ 79 ∷ 0 ∷ 6 ∷ 0 ∷ 0 ∷ 0 ∷ 1 ∷ 97 ∷ 0 ∷ 69 ∷ 88 ∷ 0 ∷ 6 ∷ 1 ∷ 112 ∷ 0 ∷ 1 ∷ 1 ∷ 98 ∷ 69 ∷ 88 ∷ 0 ∷ 4 ∷ 1 ∷ 112 ∷ 0 ∷ 0 ∷ 77 ∷ 79 ∷ 0 ∷ 6 ∷ 0 ∷ 0 ∷ 0 ∷ 1 ∷ 99 ∷ 0 ∷ 82 ∷ 81 ∷ 0 ∷ 5 ∷ 0 ∷ 0 ∷ 1 ∷ 97 ∷ 0 ∷ []

-- RT c
unfoldable pub root_c : List ℕ
root_c = 82 ∷ 84 ∷ 0 ∷ 2 ∷ 1 ∷ 99 ∷ []

-- the package p
unfoldable pub p : Name
p = 112 ∷ []

-- 4,616 lent words, and what `resolve` makes of them
unfoldable pub lent : List ℕ
lent = replicate word_count 0

abbrev pub resolved_to : List ℕ → List ℕ → List ℕ
resolved_to s q = configuration s q lent

-- what the modules of a set resolve to with a request
abbrev pub resolved : List ℕ → List ℕ → Result State Refusal
resolved s q = Resolution.resolve (modules s) (request_of q)

-- where `ws` stands, whatever words are lent, if they are enough
pub record TenCases : Type 0 where
  -- "(1) the listing"
  pub case1 : (ws : List ℕ) → word_count ≤ length ws → (resolve listing_set listing_request ws).outcome ≡ Ok tt
  pub case1_modules : members_of (resolved listing_set listing_request) ≡ java_base ∷ page_core ∷ page_foot ∷ page_frames ∷ []
  pub case1_reads : reads_of (request_of listing_request) (resolved listing_set listing_request)
      ≡ (java_base, []) ∷ (page_core, java_base ∷ page_frames ∷ []) ∷ (page_foot, java_base ∷ page_frames ∷ []) ∷ (page_frames, java_base ∷ []) ∷ []
  pub case1_owners : owners_of (resolved listing_set listing_request) ≡ (java_lang, some java_base) ∷ (foot_package, some page_foot) ∷ (frame_package, some page_frames) ∷ []
  -- "(2) empty set: 6"
  pub case2 : (ws : List ℕ) → word_count ≤ length ws → resolve [] [] ws ≡ refused JavaBaseNotFound ws
  -- "(3) java.base alone, no root: one module"
  pub case3 : (ws : List ℕ) → word_count ≤ length ws → (resolve base_set [] ws).outcome ≡ Ok tt
  pub case3_modules : members_of (resolved base_set []) ≡ java_base ∷ []
  -- "(4) that, root absent a: 5"
  pub case4 : (ws : List ℕ) → word_count ≤ length ws → resolve base_set root_a ws ≡ refused (ModuleNotFound Input.Request 5 1) ws
  -- "(5) (4) with empty LM: accepted"
  pub case5 : (ws : List ℕ) → word_count ≤ length ws → (resolve base_set root_a_nothing_permitted ws).outcome ≡ Ok tt
  -- "(6) `foot-notes-2.4.jar`: foot.notes"
  pub case6 : derived foot_notes_jar ≡ Ok tt
  pub case6_name : derived_name foot_notes_jar ≡ foot_notes
  -- "(7) `a-1-2.jar`: 10"
  pub case7 : derived versions_jar ≡ Err InvalidModuleName
  -- "(8) `.jar`: 9"
  pub case8 : derived only_jar ≡ Err InvalidAutomaticModuleName
  -- "(9) EX p to b, then EX p unqualified, asker c reading it: NotExported"
  pub case9_reads : reads_name exports_set (resolved_to exports_set root_c) c a ≡ true
  pub case9 : check_access (is_reflection Access) exports_set root_c (resolved_to exports_set root_c) c a p ≡ Ok NotExported
  -- "(10) java.base, root a, a and b requiring each other transitively: both read themselves"
  pub case10 : (ws : List ℕ) → word_count ≤ length ws → (resolve cycle_set root_a ws).outcome ≡ Ok tt
  pub case10_reads : reads_of (request_of root_a) (resolved cycle_set root_a) ≡ (a, a ∷ b ∷ java_base ∷ []) ∷ (b, a ∷ b ∷ java_base ∷ []) ∷ (java_base, []) ∷ []
