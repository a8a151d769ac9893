-- What the jar reader writes is itself a set that the check takes, of one module that has the jar's module name.
use Prim.Native.Nat.{ℕ, suc, ◌+◌, ◌≤◌, ◌<◌}
use mathlib.Core.Path.{◌≡◌, refl, sym, ◌∙◌, ap}
use mathlib.Core.List.{List, [], ◌∷◌, ◌++◌, map, append-nil}
use mathlib.Core.Bool.{Bool, true, false, ◌||◌}
use native.Mathlib.Omega.{arith}
use lib.ListN.{length, get_or, take, drop, length-append}
use lib.Dec.{ltb}
use borrow.Author.Tests.{le-ltb, eq-eqb}
use Rattle.records.specs.Bytes.{same_bytes}
use Rattle.records.specs.Name.{java_base, all_unnamed, printable, name_of, after_name, is_field, is_name, is_empty, is_version, is_name_version, mem_name}
use Rattle.records.specs.Record.{mark_of, record_more, records, mark_for, set_kind, is_requires, is_body}
use Rattle.records.specs.Descriptor.{Descriptor, module_name}
use Rattle.records.specs.Set.{Passed, none_yet, name_at, is_placed, admit_at, pass_at, judge_at, table_of, accepted, go_on, check_from, check_set, modules}
use Rattle.records.specs.Automatic.{derived_name, is_module_name, validated, derived, pick_named, without_jar, file_name}
use Rattle.records.specs.Request.{check_records}
use Rattle.records.specs.Order.{ordered, packages_of, all_names}
use Rattle.records.specs.Output.{record_bytes, name_bytes, module_record, base_record, group, no_targets, automatic_records, package_records}
use Rattle.records.specs.Jar.{name_for, named_for, records_for, pick_written, fitted, then_name, then_packages, jar_answer}
use Rattle.records.specs.Automatic.{Named}
use Rattle.records.specs.declared.error.Input.TheVariants.{Packages}
use Rattle.records.specs.declared.error.ModuleError.TheVariants.{TooLarge, OutputTooShort, InvalidModuleName, InvalidAutomaticModuleName}
use Rattle.records.specs.declared.record.Kind.{Kind}
use Rattle.records.specs.declared.record.Kind.TheVariants.{Module, Requires, Exports, Opens, Package}
use Rattle.records.specs.Request.{RecordsAnswer}
use Rattle.records.proofs.Logic.{clash, and_split}
use Rattle.records.proofs.automatic.Parts.{module_name-short, module_name-some, module_name-printable, module_name-not-unnamed}
use Rattle.records.proofs.output.Made.{made-mark, made-body, made-whole, group_records, automatic-records}
use Rattle.records.proofs.output.WellFormed.{name-read, module_made, entry-made, package_made}
use Rattle.records.proofs.record.Laws.{records-cons}
use Rattle.records.proofs.set.Blocks.{good-set}
use Rattle.records.proofs.set.Steps.{is_inner, inner-kind, belongs, step-goes, name-here}
use Rattle.records.proofs.jar.PackageNames.{is_package_name, name-some, name-printable, names-short, good_packages}
use Rattle.std.specs.Prelude.{Ok, Err}

-- ---- a set of one module

-- these records are a set of one module, which has this name
pub record OneModule (s name : List ℕ) : Type 0 where
  pub taken : check_set s ≡ accepted (0 ∷ []) (length s)
  pub named : map (λ (m : Descriptor). m.name) (modules s) ≡ name ∷ []

-- one module, which starts at 0 and has no MC
abbrev pub one : Passed
one = record { starts = 0 ∷ []; here = 0 ∷ []; places = 1; main = false }

-- a record that passes behind the MO
module _ (s : List ℕ) (k : Kind) (i : is_inner k ≡ true) where
  pub passes : (at : ℕ) (b : List ℕ) (rs : List (List ℕ)) → is_body k b ≡ true → check_from s one at (record_bytes k b ∷ rs) ≡ check_from s one (at + length (record_bytes k b)) rs
  unfolding check_from
  passes at b rs e =
      let q : set_kind (mark_of (record_bytes k b)) ≡ k = ap set_kind (made-mark k b) ∙ inner-kind k i in
      step-goes s one at (record_bytes k b) (λ p. check_from s p (at + length (record_bytes k b)) rs) (belongs (record { kind = rw q i; good = rw (q, made-body k b) e; behind = omega arith }))

-- an MO with this body, and `rest` behind it, which are the records rs
module _ (header rest : List ℕ) (rs : List (List ℕ)) (made : is_body Module header ≡ true) (short : length header < 65536) (unlike : same_bytes (module_name header) all_unnamed ≡ false) where
  abbrev set : List ℕ
  set = record_bytes Module header ++ rest

  module_starts : check_from set none_yet 0 (record_bytes Module header ∷ rs) ≡ check_from set one (length (record_bytes Module header)) rs
  unfolding check_from judge_at go_on is_placed pass_at admit_at mem_name set_kind mark_for
  module_starts =
      let z : 0 + length (record_bytes Module header) ≡ length (record_bytes Module header) = omega arith in
      rw (made-mark Module header, made-body Module header, made, unlike, z)

  module _ (shown : records set ≡ record_bytes Module header ∷ rs) where
    first-name : name_at set 0 ≡ module_name header
    first-name =
        let cut : take (suc (record_more set)) set ∷ records (drop (suc (record_more set)) set) ≡ record_bytes Module header ∷ rs =
        sym (records-cons set (made-whole Module header rest short)) ∙ shown in
        let first : take (suc (record_more set)) set ≡ record_bytes Module header = cc in
        name-here set set 0 (made-whole Module header rest short) refl ∙ rw (first, made-body Module header)

    -- where the check takes what stands behind the MO
    pub one_module : check_from set one (length (record_bytes Module header)) rs ≡ accepted (0 ∷ []) (length set) → length set ≤ 65535 → OneModule set (module_name header)
    unfolding check_set accepted table_of
    one_module e l =
        let t : check_set set ≡ accepted (0 ∷ []) (length set) = rw (le-ltb 65535 (length set) l, shown) (module_starts ∙ e) in
        record { taken = t; named = sym (good-set set 1 (table_of (0 ∷ []) (length set)) t).names ∙ rw first-name }

-- ---- the records of an automatic module

module _ (s : List ℕ) (k : Kind) (i : is_inner k ≡ true) (end : List ℕ) (made : (n : List ℕ) → is_package_name n ≡ true → is_body k (name_bytes n ++ end) ≡ true) where
  group-passes : (at : ℕ) (ns rs : List (List ℕ)) → all_names is_package_name ns ≡ true → check_from s one at (group_records k end ns ++ rs) ≡ check_from s one (at + length (group k end ns)) rs
  unfolding group_records group all_names
  group-passes at [] rs e = let z : at + 0 ≡ at = omega arith in rw z
  group-passes at (n ∷ ns) rs e =
      let p : (is_package_name n ≡ true) × (all_names is_package_name ns ≡ true) = and_split (is_package_name n) (all_names is_package_name ns) e in
      let r : List ℕ = record_bytes k (name_bytes n ++ end) in
      let w : at + length r + length (group k end ns) ≡ at + length (r ++ group k end ns) = rw length-append (omega arith) in
      passes s k i at (name_bytes n ++ end) (group_records k end ns ++ rs) (made n p.0) ∙ group-passes (at + length r) ns rs p.1 ∙ rw w

-- with these packages
module _ (n : List ℕ) (ps : List (List ℕ)) (v : is_module_name n ≡ true) (g : all_names is_package_name ps ≡ true) where
  abbrev s : List ℕ
  s = automatic_records n ps

  -- the body of its MO
  abbrev header : List ℕ
  header = 0 ∷ 0 ∷ 1 ∷ (name_bytes n ++ (0 ∷ []))

  -- the records from the first OP on, and from the first EX on
  abbrev opened : List (List ℕ)
  opened = group_records Opens no_targets ps ++ group_records Package [] ps

  abbrev exported : List (List ℕ)
  exported = group_records Exports no_targets ps ++ opened

  base-passes : (at : ℕ) (rs : List (List ℕ)) → check_from s one at (base_record ∷ rs) ≡ check_from s one (at + length base_record) rs
  unfolding base_record is_body is_requires is_name_version is_version is_name is_field is_empty after_name name_of printable name_bytes same_bytes is_inner
  base-passes at rs = passes s Requires refl at (0x80 ∷ 0 ∷ (name_bytes java_base ++ (0 ∷ []))) rs refl

  exports_pass : (at : ℕ) (rs : List (List ℕ)) → check_from s one at (group_records Exports no_targets ps ++ rs) ≡ check_from s one (at + length (group Exports no_targets ps)) rs
  unfolding is_body is_inner
  exports_pass at rs = group-passes s Exports refl no_targets (λ p h. entry-made p (name-printable p h) (name-some p h)) at ps rs g

  opens-pass : (at : ℕ) (rs : List (List ℕ)) → check_from s one at (group_records Opens no_targets ps ++ rs) ≡ check_from s one (at + length (group Opens no_targets ps)) rs
  unfolding is_body is_inner
  opens-pass at rs = group-passes s Opens refl no_targets (λ p h. entry-made p (name-printable p h) (name-some p h)) at ps rs g

  packages_pass : (at : ℕ) (rs : List (List ℕ)) → check_from s one at (group_records Package [] ps ++ rs) ≡ check_from s one (at + length (group Package [] ps)) rs
  unfolding is_body is_inner
  packages_pass at rs = group-passes s Package refl [] (λ p h. package_made p (name-printable p h) (name-some p h)) at ps rs g

  used : length (module_record n) + length base_record + length (group Exports no_targets ps) + length (group Opens no_targets ps) + length (group Package [] ps) ≡ length s
  unfolding automatic_records
  used = simp length-append (omega arith)

  rest-taken : check_from s one (length (module_record n)) (base_record ∷ exported) ≡ accepted (0 ∷ []) (length s)
  unfolding check_from
  rest-taken =
      let b : ℕ = length (module_record n) + length base_record in
      let c : ℕ = b + length (group Exports no_targets ps) in
      let d : ℕ = c + length (group Opens no_targets ps) in
      base-passes (length (module_record n)) exported
      ∙ exports_pass b opened
      ∙ opens-pass c (group_records Package [] ps)
      ∙ ap (check_from s one d) (sym (append-nil (group_records Package [] ps)))
      ∙ packages_pass d []
      ∙ rw (eq-eqb (d + length (group Package [] ps)) (length s) used)

  header-name : module_name header ≡ n
  unfolding module_name
  header-name = name-read n (0 ∷ [])

  header-short : length header < 65536
  unfolding name_bytes
  header-short = rw length-append (omega (arith, module_name-short n v))

  automatic-is-set : length s ≤ 65535 → OneModule s n
  unfolding automatic_records package_records module_record is_body
  automatic-is-set l =
      rw header-name at
      (one_module header (base_record ++ package_records ps) (base_record ∷ exported) (module_made n (module_name-printable n v) (module_name-some n v)) header-short (rw header-name (module_name-not-unnamed n v))
      (automatic-records n ps (module_name-short n v) (names-short ps g)) rest-taken l)

-- ---- what an answer that is no refusal shows

record Answered (name packages : List ℕ) (n : ℕ) : Type 0 where
  packages_good : check_records Packages packages ≡ (Ok tt)
  named : is_module_name name ≡ true
  long : n ≡ length (records_for name packages)

validated-name : (m : List ℕ) → validated m ≡ (Ok tt) → is_module_name m ≡ true
unfolding validated
validated-name m e = go (is_module_name m) e
  where
    go : (t : Bool) → pick_named t (Ok tt) (Err InvalidModuleName) ≡ (Ok tt) → t ≡ true
    go true h = refl
    go false h = clash (cc)

derived-valid : (jar : List ℕ) → derived jar ≡ (Ok tt) → validated (derived_name jar) ≡ (Ok tt)
unfolding derived
derived-valid jar e = go (is_empty (without_jar (file_name jar)) || is_empty (derived_name jar)) e
  where
    go : (t : Bool) → pick_named t (Err InvalidAutomaticModuleName) (validated (derived_name jar)) ≡ (Ok tt) → validated (derived_name jar) ≡ (Ok tt)
    go true h = clash (cc)
    go false h = h

valid-name : (given : Bool) (jar manifest : List ℕ) → named_for given jar manifest ≡ (Ok tt) → is_module_name (name_for given jar manifest) ≡ true
unfolding named_for name_for
valid-name true jar manifest e = validated-name manifest e
valid-name false jar manifest e = validated-name (derived_name jar) (derived-valid jar e)

answered : (jar : List ℕ) (given : Bool) (manifest packages : List ℕ) (room n : ℕ) → jar_answer jar given manifest packages room ≡ Ok n → Answered (name_for given jar manifest) packages n
unfolding jar_answer then_packages then_name fitted
answered jar given manifest packages room n e =
    go (ltb 255 (length jar)) (check_records Packages packages) refl (named_for given jar manifest) refl (ltb room (length s)) e
  where
    s : List ℕ
    s = records_for (name_for given jar manifest) packages

    go : (t : Bool) (a : RecordsAnswer) → check_records Packages packages ≡ a → (m : Named) → named_for given jar manifest ≡ m → (u : Bool)
        → pick_written t (Err (TooLarge 0)) (then_packages a (then_name m (pick_written u (Err (OutputTooShort (length s))) (Ok (length s))))) ≡ Ok n → Answered (name_for given jar manifest) packages n
    go true a ea m em u h = clash (cc)
    go false (Err x) ea m em u h = clash (cc)
    go false (Ok v) ea (Err x) em u h = clash (cc)
    go false (Ok v) ea (Ok w) em true h = clash (cc)
    go false (Ok v) ea (Ok w) em false h = record { packages_good = ea; named = valid-name given jar manifest em; long = cc }

-- ---- the theorem

-- what the jar reader writes, where it is at most 65,535 bytes, is a set of exactly one module with that name.
-- `bytes` says that the package records are a byte string
pub jar_is_set : (jar : List ℕ) (given : Bool) (manifest packages : List ℕ) (room n : ℕ)
    → ((i : ℕ) → get_or packages i 0 < 256)
    → jar_answer jar given manifest packages room ≡ Ok n → n ≤ 65535
    → OneModule (records_for (name_for given jar manifest) packages) (name_for given jar manifest)
unfolding records_for
jar_is_set jar given manifest packages room n bytes e l =
    let a : Answered (name_for given jar manifest) packages n = answered jar given manifest packages room n e in
    let g : all_names is_package_name (ordered (packages_of packages)) ≡ true = good_packages packages bytes a.packages_good in
    let k : length (automatic_records (name_for given jar manifest) (ordered (packages_of packages))) ≤ 65535 = omega (arith, a.long) in
    automatic-is-set (name_for given jar manifest) (ordered (packages_of packages)) a.named g k
