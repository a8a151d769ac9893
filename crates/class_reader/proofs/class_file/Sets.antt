-- What the class reader writes is itself a set that the check takes, of one module that has the name in the file.
use Prim.Native.Nat.{ℕ, ◌+◌, ◌≤◌, ◌<◌}
use mathlib.Core.Path.{◌≡◌, refl, sym, ap, ◌∙◌}
use mathlib.Core.List.{List, [], ◌∷◌, ◌++◌, append_assoc}
use mathlib.Core.Bool.{Bool, true, false, cond}
use native.Mathlib.Omega.{arith}
use lib.ListN.{length, get_or}
use lib.Dec.{ltb}
use Rattle.std.proofs.Common.{Option, Some, None, Result, Ok, Err}
use Rattle.std.specs.Option.{is_none, unwrap_or}
use Rattle.records.specs.Bytes.{same_bytes, u16_at}
use Rattle.records.specs.Name.{all_unnamed}
use Rattle.records.specs.Descriptor.{module_name}
use Rattle.records.specs.Record.{is_body}
use Rattle.records.specs.Jar.{pick_written, fitted}
use Rattle.records.specs.declared.error.ModuleError.TheVariants.{TooLarge, OutputTooShort}
use Rattle.records.specs.declared.record.Kind.TheVariants as Kind
use Rattle.records.proofs.Logic.{clash}
use Rattle.records.proofs.output.WellFormed.{name-read}
use Rattle.records.proofs.jar.Sets.{OneModule}
use Rattle.class_reader.specs.Pool.{pool_end, pool_of, name_at}
use Rattle.class_reader.specs.Entry.{Item, bytes_of, is_large, kind_of, prefix_of, suffix_of, entry_body, entry_item, tables_items, module_tables}
use Rattle.class_reader.specs.Attribute.{nothing_seen, fault_unless, attribute_faults, seen_from, module_at, module_items, package_items, main_items, descriptor_items}
use Rattle.class_reader.specs.ClassFile.{head_good, fields_good, faults_behind, faults_from, faults, seen_behind, items_from, items_of, name_from, described_name, sized, then_faults, class_answer}
use Rattle.class_reader.specs.Walk.{walk_from, Readable}
use Rattle.class_reader.specs.declared.entry.Entry.TheVariants.{Module, MainClass}
use Rattle.class_reader.specs.declared.attribute.Seen.{Seen}
use Rattle.class_reader.specs.declared.attribute.Walked.{Walked}
use Rattle.class_reader.specs.declared.pool.Fault.{Fault}
use Rattle.class_reader.proofs.attribute.Faults.{StartsWith, walk-fault, walk-seen, found_readable}
use Rattle.class_reader.proofs.entry.Bodies.{entry-body}
use Rattle.class_reader.proofs.class_file.Inner.{module_inner, packages_inner}
use Rattle.class_reader.proofs.class_file.Passes.{all_inner, inner-append, main_or, module_all, items-set}
use Rattle.std.specs.Prelude.{Ok, Err}

-- ---- what a file without fault shows

none-behind : (b : Bool) (at : ℕ) (l : List ℕ) → fault_unless b at ++ l ≡ [] → l ≡ []
unfolding fault_unless
none-behind true at l e = e
none-behind false at l e = clash (cc)

-- the attributes that are met can be read
none_readable : (f t : List ℕ) (n at : ℕ) → attribute_faults f t n nothing_seen at ≡ [] → Readable f t (seen_from f t n nothing_seen at)
none_readable f t n at e = go (walk_from f t n nothing_seen at) refl
  where
    go : (w : Result Walked Fault) → walk_from f t n nothing_seen at ≡ w → Readable f t (seen_from f t n nothing_seen at)
    go (Ok w) h = rw (walk-seen f t n nothing_seen at w h) (found_readable f t n at w h)
    go (Err o) h =
        let s : StartsWith (attribute_faults f t n nothing_seen at) o.at = walk-fault f t n nothing_seen at o.at h in
        let x : o.at ∷ s.rest ≡ [] = sym s.starts ∙ e in
        clash (cc)

behind_readable : (f t : List ℕ) (at : ℕ) → faults_behind f t at ≡ [] → Readable f t (seen_behind f t at)
unfolding faults_behind seen_behind
behind_readable f t at e = go (fields_good f t at) e
  where
    n : ℕ
    n = u16_at f (at + 12)

    go : (b : Bool) → cond b (attribute_faults f t n nothing_seen (at + 14)) (at ∷ []) ≡ [] → Readable f t (seen_from f t n nothing_seen (at + 14))
    go true h = none_readable f t n (at + 14) h
    go false h = clash (cc)

-- ---- the records of a descriptor

module _ (f t : List ℕ) (s : Seen) (bytes : (i : ℕ) → get_or f i 0 < 256) (r : Readable f t s) where
  abbrev p : ℕ
  p = module_at s

  abbrev inner : List Item
  inner = tables_items f t module_tables (p + 6) ++ package_items f t s.packages

  abbrev none : Bool
  none = is_none s.main

  shown : descriptor_items f t s ≡ module_all (entry_body Module f t p) inner none (entry_body MainClass f t (unwrap_or s.main 0 + 6))
  unfolding descriptor_items module_items entry_item kind_of main_items main_or
  shown =
      ap (λ (m : List Item). entry_item Module f t p ∷ (tables_items f t module_tables (p + 6) ++ (package_items f t s.packages ++ m))) (go s.main)
      ∙ ap (λ (m : List Item). entry_item Module f t p ∷ m)
      (sym (append_assoc (tables_items f t module_tables (p + 6)) (package_items f t s.packages) (main_or none (entry_body MainClass f t (unwrap_or s.main 0 + 6)))))
    where
      go : (o : Option ℕ) → main_items f t o ≡ main_or (is_none o) (entry_body MainClass f t (unwrap_or o 0 + 6))
      go None = refl
      go (Some m) = refl

  header-name : module_name (entry_body Module f t p) ≡ name_at f t (u16_at f p)
  unfolding module_name entry_body prefix_of
  header-name = name-read (name_at f t (u16_at f p)) (suffix_of Module f t p)

  header_made : is_body Kind.Module (entry_body Module f t p) ≡ true
  unfolding kind_of
  header_made = entry-body Module f t p r.module_good bytes

  main-made : none ≡ false → is_body Kind.MainClass (entry_body MainClass f t (unwrap_or s.main 0 + 6)) ≡ true
  unfolding kind_of
  main-made e = go s.main refl e
    where
      go : (o : Option ℕ) → s.main ≡ o → is_none o ≡ false → is_body Kind.MainClass (entry_body MainClass f t (unwrap_or o 0 + 6)) ≡ true
      go None q z = clash (cc)
      go (Some m) q z = entry-body MainClass f t (m + 6) (r.main_good m q) bytes

  all-inner : all_inner inner ≡ true
  all-inner =
      inner-append (tables_items f t module_tables (p + 6)) (package_items f t s.packages) (module_inner f t bytes (p + 6) r.tables_are_good)
      (packages_inner f t s.packages r.packages_good)

  descriptor_set : is_large (descriptor_items f t s) ≡ false → length (bytes_of (descriptor_items f t s)) ≤ 65535 → same_bytes (name_at f t (u16_at f p)) all_unnamed ≡ false
      → OneModule (bytes_of (descriptor_items f t s)) (name_at f t (u16_at f p))
  descriptor_set narrow l unlike =
      rw (shown, ← header-name)
      (items-set (entry_body Module f t p) inner none (entry_body MainClass f t (unwrap_or s.main 0 + 6)) header_made (rw header-name unlike) all-inner main-made (rw shown at narrow) (rw shown at l))

-- those of a file whose pool was read
pool-set : (f t : List ℕ) → ((i : ℕ) → get_or f i 0 < 256) → (p : Result ℕ Fault) → faults_from f t p ≡ [] → is_large (items_from f t p) ≡ false
    → length (bytes_of (items_from f t p)) ≤ 65535 → same_bytes (name_from f t p) all_unnamed ≡ false → OneModule (bytes_of (items_from f t p)) (name_from f t p)
unfolding faults_from items_from name_from
pool-set f t bytes (Err x) e narrow l unlike = clash (cc)
pool-set f t bytes (Ok at) e narrow l unlike = descriptor_set f t (seen_behind f t at) bytes (behind_readable f t at e) narrow l unlike

-- ---- what an answer that is no refusal shows

record Answered (f : List ℕ) (n : ℕ) : Type 0 where
  faultless : faults f ≡ []
  narrow : is_large (items_of f) ≡ false
  long : n ≡ length (bytes_of (items_of f))

answered : (f : List ℕ) (room n : ℕ) → class_answer f room ≡ Ok n → Answered f n
unfolding class_answer then_faults sized fitted
answered f room n e = go (ltb 65535 (length f)) (faults f) refl (is_large (items_of f)) refl (ltb room m) e
  where
    m : ℕ
    m = length (bytes_of (items_of f))

    go : (a : Bool) (l : List ℕ) → faults f ≡ l → (b : Bool) → is_large (items_of f) ≡ b → (c : Bool)
        → pick_written a (Err (TooLarge 0)) (then_faults l (pick_written b (Err (TooLarge 0)) (pick_written c (Err (OutputTooShort m)) (Ok m)))) ≡ Ok n → Answered f n
    go true l el b eb c h = clash (cc)
    go false (x ∷ l) el b eb c h = clash (cc)
    go false [] el true eb c h = clash (cc)
    go false [] el false eb true h = clash (cc)
    go false [] el false eb false h = record { faultless = el; narrow = eb; long = cc }

-- ---- the theorem

-- what the class reader writes, where it is at most 65,535 bytes and the module is not named ALL-UNNAMED, is a set of exactly
-- one module with that name. `bytes` says that the file is a byte string
pub class-is-set : (f : List ℕ) (room n : ℕ)
    → ((i : ℕ) → get_or f i 0 < 256)
    → class_answer f room ≡ Ok n → n ≤ 65535
    → same_bytes (described_name f) all_unnamed ≡ false
    → OneModule (bytes_of (items_of f)) (described_name f)
unfolding faults items_of described_name
class-is-set f room n bytes e l unlike =
    let a : Answered f n = answered f room n e in
    let k : length (bytes_of (items_of f)) ≤ 65535 = omega (arith, a.long) in
    pool-set f (pool_of f) bytes (pool_end f) (none-behind (head_good f) 0 (faults_from f (pool_of f) (pool_end f)) a.faultless) a.narrow k unlike
