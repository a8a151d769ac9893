-- Document 01's cases 1 to 5 and 10, of the definitions over bytes. What the bytes say is computed; what follows from it is
-- proofs/Cases.
use Prim.Native.Nat.{ℕ, ◌≤◌}
use mathlib.Core.Path.{◌≡◌, refl, ap, ◌∙◌}
use mathlib.Core.Option.{none, some}
use mathlib.Core.List.{List, [], ◌∷◌}
use lib.ListN.{length}
use Rattle.records.specs.Bytes.{same_bytes, u16_at}
use Rattle.records.specs.Name.{printable, name_of, after_name, is_field, is_name, is_empty, is_names, is_list, is_version, is_name_version, is_name_list, mem_name, java_base, names_of, list_of}
use Rattle.records.specs.Record.{mark_of, size_of, body_of, record_more, whole, records_from, records, mark_for, set_kind, request_kind, kind_in, is_module, is_requires, is_body, is_of, bodies_in, bodies, nth_in}
use Rattle.records.specs.Descriptor.{Descriptor, has_flag, requirement_of, entry_of, module_name, header_of, descriptor_of}
use Rattle.records.specs.Request.{same_kind, row_of, row_on, check_records_from, check_records, then_request, check_inputs, read_of, grant_of, limit_of, request_of, has_any}
use Rattle.records.specs.Set.{body_at, name_at, is_placed, admit_at, pass_at, judge_at, table_of, accepted, go_on, check_from, check_set, up_to_next, blocks_of, blocks, modules, count_of}
use Rattle.records.specs.Set.{CountAnswer}
use Rattle.records.specs.declared.error.Input.TheVariants as Input
use Rattle.records.specs.declared.error.ModuleError.TheVariants.{ModuleNotFound, JavaBaseNotFound}
use Rattle.records.specs.Request.{Request}
use Rattle.records.proofs.Logic.{clash}
use Rattle.resolution.specs.Lists.{Name}
use Rattle.resolution.specs.Loop.{Result, failed, done}
use Rattle.resolution.specs.Resolution.{State, Refusal, root, module_not_found, java_base_not_found}
use Rattle.resolution.specs.Resolution as Resolution
use Rattle.resolution.specs.Resolve.{body_start, absent_of, error_of, refused, told, answered, resolve}
use Rattle.resolution.specs.Resolve as Resolve
use Rattle.resolution.specs.Configuration.{word_count}
use Rattle.resolution.proofs.ConfigurationWords.{with_enough}
use Rattle.resolution.proofs.Cases.{case1_modules, case1_reads, case1_owners, case2, case3, case4, case5, case10, case10_modules}
use Rattle.resolution.specs.Cases.{members_of, reads_of, owners_of, module_of, requirement, request, a, b, java_lang, base_module, cycle, pages, page_core, page_foot, page_frames, reader, foot_package, frame_package, base_set, listing_set, cycle_set, listing_request, root_a, root_a_nothing_permitted}
use Rattle.std.specs.Prelude.{Ok}

-- one line opens all that decoding and the checks use
decode : List ℕ → List Descriptor
unfolding modules blocks blocks_of up_to_next is_of mark_for descriptor_of header_of bodies bodies_in module_name has_flag requirement_of entry_of names_of list_of limit_of read_of grant_of has_any request_of after_name name_of records records_from whole record_more body_of size_of mark_of u16_at base_set listing_set cycle_set listing_request root_a root_a_nothing_permitted module_of requirement request a b java_lang base_module cycle pages page_core page_foot page_frames reader foot_package frame_package
decode s = modules s

check : List ℕ → List ℕ → CountAnswer
unfolding check_inputs then_request check_records check_records_from row_on row_of same_kind mark_for kind_in request_kind check_set check_from go_on judge_at pass_at admit_at is_placed accepted table_of name_at body_at module_name mem_name is_body is_module is_requires is_name_list is_name_version is_version is_list is_names is_name is_field is_empty after_name name_of printable set_kind records records_from whole record_more body_of size_of mark_of u16_at same_bytes base_set listing_set cycle_set listing_request root_a root_a_nothing_permitted
check s q = (count_of (check_inputs s q))

listing-modules : modules listing_set ≡ pages
unfolding decode
listing-modules = refl

listing-request : request_of listing_request ≡ request (page_core ∷ []) none
unfolding decode
listing-request = refl

base-modules : modules base_set ≡ base_module ∷ []
unfolding decode
base-modules = refl

cycle-modules : modules cycle_set ≡ cycle
unfolding decode
cycle-modules = refl

empty-request : request_of [] ≡ request [] none
unfolding decode
empty-request = refl

root-request : request_of root_a ≡ request (a ∷ []) none
unfolding decode
root-request = refl

limited-request : request_of root_a_nothing_permitted ≡ request (a ∷ []) (some [])
unfolding decode
limited-request = refl

-- ---- the answers

abbrev resolved : List ℕ → List ℕ → Result State Refusal
resolved s q = Resolution.resolve (modules s) (request_of q)

-- the set and the request are taken, and this is what their resolution gives
accepts : (s q : List ℕ) (n : ℕ) (z : Result State Refusal) → count_of (check_inputs s q) ≡ Ok n → resolved s q ≡ z → (ws : List ℕ) → word_count ≤ length ws → resolve s q ws ≡ told s q ws z
unfolding resolve answered
accepts s q n z e h ws l = ap (answered s q ws) (with_enough ws (count_of (check_inputs s q)) n e l) ∙ ap (told s q ws) h

-- (1) the listing: accepted; its modules, their reads, the owners
pub record Listing (s q : List ℕ) : Type 0 where
  pub outcome : (ws : List ℕ) → word_count ≤ length ws → (resolve s q ws).outcome ≡ Ok tt
  pub modules_are : members_of (resolved s q) ≡ java_base ∷ page_core ∷ page_foot ∷ page_frames ∷ []
  pub reads_are : reads_of (request_of q) (resolved s q)
      ≡ (java_base, []) ∷ (page_core, java_base ∷ page_frames ∷ []) ∷ (page_foot, java_base ∷ page_frames ∷ []) ∷ (page_frames, java_base ∷ []) ∷ []
  pub owners_are : owners_of (resolved s q) ≡ (java_lang, some java_base) ∷ (foot_package, some page_foot) ∷ (frame_package, some page_frames) ∷ []

outcome-of : (s q : List ℕ) (n : ℕ) (m : List Name) (x : Name) → count_of (check_inputs s q) ≡ Ok n → members_of (resolved s q) ≡ x ∷ m → (ws : List ℕ) → word_count ≤ length ws → (resolve s q ws).outcome ≡ Ok tt
unfolding told members_of
outcome-of s q n m x e h ws l = turned (resolved s q) refl h
  where
    turned : (z : Result State Refusal) → resolved s q ≡ z → members_of z ≡ x ∷ m → (resolve s q ws).outcome ≡ Ok tt
    turned (failed r) k j = clash (cc)
    turned (done st) k j = ap (λ (u : Resolve.ResolveResult). u.outcome) (accepts s q n (done st) e k ws l)

listing-resolved : resolved listing_set listing_request ≡ Resolution.resolve pages (request (page_core ∷ []) none)
listing-resolved = ap (λ (m : List Descriptor). Resolution.resolve m (request_of listing_request)) listing-modules ∙ ap (Resolution.resolve pages) listing-request

pub byte_case1 : Listing listing_set listing_request
byte_case1 = record {
  outcome = outcome-of listing_set listing_request 4 (page_core ∷ page_foot ∷ page_frames ∷ []) java_base taken members;
  modules_are = members;
  reads_are = ap (λ (r : Request). reads_of r (resolved listing_set listing_request)) listing-request ∙ ap (reads_of (request (page_core ∷ []) none)) listing-resolved ∙ case1_reads;
  owners_are = ap owners_of listing-resolved ∙ case1_owners;
}
  where
    taken : count_of (check_inputs listing_set listing_request) ≡ Ok 4
    taken = unfold check in refl

    members : members_of (resolved listing_set listing_request) ≡ java_base ∷ page_core ∷ page_foot ∷ page_frames ∷ []
    members = ap members_of listing-resolved ∙ case1_modules

-- (2) the empty set: 6
pub byte_case2 : (ws : List ℕ) → word_count ≤ length ws → resolve [] [] ws ≡ refused JavaBaseNotFound ws
byte_case2 ws l = accepts [] [] 0 (failed java_base_not_found) taken (ap (λ (m : List Descriptor). Resolution.resolve m (request_of [])) none-there ∙ ap (Resolution.resolve []) empty-request ∙ case2) ws l ∙ told_is
  where
    taken : count_of (check_inputs [] []) ≡ Ok 0
    taken = unfold check in refl

    none-there : modules [] ≡ []
    none-there = unfold decode in refl

    told_is : told [] [] ws (failed java_base_not_found) ≡ refused JavaBaseNotFound ws
    told_is = unfold told error_of in refl

-- java.base alone
base-resolved : (q : List ℕ) (rq : Request) → request_of q ≡ rq → resolved base_set q ≡ Resolution.resolve (base_module ∷ []) rq
base-resolved q rq e = ap (λ (m : List Descriptor). Resolution.resolve m (request_of q)) base-modules ∙ ap (Resolution.resolve (base_module ∷ [])) e

pub record OneModule (s q : List ℕ) : Type 0 where
  pub outcome : (ws : List ℕ) → word_count ≤ length ws → (resolve s q ws).outcome ≡ Ok tt
  pub modules_are : members_of (resolved s q) ≡ java_base ∷ []

-- (3) java.base alone, no root: one module
pub byte_case3 : OneModule base_set []
byte_case3 = record { outcome = outcome-of base_set [] 1 [] java_base taken members; modules_are = members }
  where
    taken : count_of (check_inputs base_set []) ≡ Ok 1
    taken = unfold check in refl

    members : members_of (resolved base_set []) ≡ java_base ∷ []
    members = ap members_of (base-resolved [] (request [] none) empty-request) ∙ case3

-- (4) that, root absent a: 5, the one byte at 5 of the request
pub byte_case4 : (ws : List ℕ) → word_count ≤ length ws → resolve base_set root_a ws ≡ refused (ModuleNotFound Input.Request 5 1) ws
byte_case4 ws l = accepts base_set root_a 1 (failed (module_not_found a (root 0))) taken (base-resolved root_a (request (a ∷ []) none) root-request ∙ case4) ws l ∙ told_is
  where
    taken : count_of (check_inputs base_set root_a) ≡ Ok 1
    taken = unfold check in refl

    told_is : told base_set root_a ws (failed (module_not_found a (root 0))) ≡ refused (ModuleNotFound Input.Request 5 1) ws
    told_is = unfold decode nth_in told error_of absent_of body_start in refl

-- (5) (4) with empty LM: accepted
pub byte_case5 : OneModule base_set root_a_nothing_permitted
byte_case5 = record { outcome = outcome-of base_set root_a_nothing_permitted 1 [] java_base taken members; modules_are = members }
  where
    taken : count_of (check_inputs base_set root_a_nothing_permitted) ≡ Ok 1
    taken = unfold check in refl

    members : members_of (resolved base_set root_a_nothing_permitted) ≡ java_base ∷ []
    members = ap members_of (base-resolved root_a_nothing_permitted (request (a ∷ []) (some [])) limited-request) ∙ case5

-- (10) java.base, root a, a and b requiring each other transitively: both read themselves
pub record Cycle (s q : List ℕ) : Type 0 where
  pub outcome : (ws : List ℕ) → word_count ≤ length ws → (resolve s q ws).outcome ≡ Ok tt
  pub reads_are : reads_of (request_of q) (resolved s q) ≡ (a, a ∷ b ∷ java_base ∷ []) ∷ (b, a ∷ b ∷ java_base ∷ []) ∷ (java_base, []) ∷ []

cycle-resolved : resolved cycle_set root_a ≡ Resolution.resolve cycle (request (a ∷ []) none)
cycle-resolved = ap (λ (m : List Descriptor). Resolution.resolve m (request_of root_a)) cycle-modules ∙ ap (Resolution.resolve cycle) root-request

pub byte_case10 : Cycle cycle_set root_a
byte_case10 = record {
  outcome = outcome-of cycle_set root_a 3 (b ∷ java_base ∷ []) a taken (ap members_of cycle-resolved ∙ case10_modules);
  reads_are = ap (λ (r : Request). reads_of r (resolved cycle_set root_a)) root-request ∙ ap (reads_of (request (a ∷ []) none)) cycle-resolved ∙ case10;
}
  where
    taken : count_of (check_inputs cycle_set root_a) ≡ Ok 3
    taken = unfold check in refl
