-- Items that are an MO, then records of its module, then at most one MC, are a set of one module.
use Prim.Native.Nat.{ℕ, ◌+◌, ◌≤◌, ◌<◌}
use mathlib.Core.Path.{◌≡◌, refl, ◌∙◌}
use mathlib.Core.List.{List, [], ◌∷◌, ◌++◌}
use mathlib.Core.Bool.{Bool, true, false, cond, ◌&&◌}
use native.Mathlib.Omega.{arith}
use lib.ListN.{length, length-append}
use lib.Dec.{ltb}
use borrow.Author.Tests.{eq-eqb, ltb-false}
use Rattle.records.specs.Bytes.{same_bytes}
use Rattle.records.specs.Name.{all_unnamed}
use Rattle.records.specs.Record.{records, mark_for, set_kind, is_body}
use Rattle.records.specs.Descriptor.{module_name}
use Rattle.records.specs.Set.{is_placed, pass_at, judge_at, go_on, accepted, check_from}
use Rattle.records.specs.Output.{record_bytes}
use Rattle.records.specs.declared.record.Kind.{Kind}
use Rattle.records.specs.declared.record.Kind.TheVariants.{Module, MainClass}
use Rattle.records.proofs.Logic.{and_left, and_right, neither_left}
use Rattle.records.proofs.output.Made.{made-mark, made-body, made-records}
use Rattle.records.proofs.record.Laws.{records-end}
use Rattle.records.proofs.jar.Sets.{OneModule, one, passes, one_module}
use Rattle.records.proofs.set.Steps.{is_inner}
use Rattle.class_reader.specs.Entry.{Item, bytes_of, is_large}
use Rattle.class_reader.proofs.entry.Items.{bytes-long}
use Rattle.class_reader.proofs.output.Items.{rest-fits}

-- ---- the items as records

unfoldable pub records_in : List Item → List (List ℕ)
records_in [] = []
records_in (i ∷ is) = record_bytes i.kind i.body ∷ records_in is

records-append : (is js : List Item) → records_in (is ++ js) ≡ records_in is ++ records_in js
unfolding records_in
records-append [] js = refl
records-append (i ∷ is) js = rw (records-append is js)

first-narrow : (i : Item) (is : List Item) → is_large (i ∷ is) ≡ false → length i.body < 65536
unfolding is_large
first-narrow i is e = omega (arith, ltb-false 65535 (length i.body) (neither_left (ltb 65535 (length i.body)) (is_large is) e))

items-records : (is : List Item) → is_large is ≡ false → records (bytes_of is) ≡ records_in is
unfolding bytes_of records_in
items-records [] e = records-end [] 0 (omega arith)
items-records (i ∷ is) e =
    made-records i.kind i.body (bytes_of is) (first-narrow i is e) ∙ rw (items-records is (rest-fits i is e))

-- ---- records behind an MO, and before an MC

-- each item is such a record, with a well-formed body
unfoldable pub all_inner : List Item → Bool
all_inner [] = true
all_inner (i ∷ is) = (is_inner i.kind && is_body i.kind i.body) && all_inner is

pub inner-append : (is js : List Item) → all_inner is ≡ true → all_inner js ≡ true → all_inner (is ++ js) ≡ true
unfolding all_inner
inner-append [] js e h = h
inner-append (i ∷ is) js e h =
    let b : Bool = is_inner i.kind && is_body i.kind i.body in
    rw (and_left b (all_inner is) e) (inner-append is js (and_right b (all_inner is) e) h)

module _ (s : List ℕ) where
  items-pass : (is : List Item) (at : ℕ) (rs : List (List ℕ)) → all_inner is ≡ true → check_from s one at (records_in is ++ rs) ≡ check_from s one (at + length (bytes_of is)) rs
  unfolding all_inner records_in bytes_of
  items-pass [] at rs e = let z : at + 0 ≡ at = omega arith in rw z
  items-pass (i ∷ is) at rs e =
      let k : Kind = i.kind in
      let b : List ℕ = i.body in
      let h : (is_inner k && is_body k b) ≡ true = and_left (is_inner k && is_body k b) (all_inner is) e in
      let r : List ℕ = record_bytes k b in
      let w : at + length r + length (bytes_of is) ≡ at + length (r ++ bytes_of is) = rw length-append (omega arith) in
      passes s k (and_left (is_inner k) (is_body k b) h) at b (records_in is ++ rs) (and_right (is_inner k) (is_body k b) h)
      ∙ items-pass is (at + length r) rs (and_right (is_inner k && is_body k b) (all_inner is) e)
      ∙ rw w

-- ---- at the end an MC, or nothing

unfoldable pub main_or : Bool → List ℕ → List Item
main_or none b = cond none [] (record { kind = MainClass; body = b } ∷ [])

end-taken : (s : List ℕ) (none : Bool) (b : List ℕ) → (none ≡ false → is_body MainClass b ≡ true) → (at : ℕ) → at + length (bytes_of (main_or none b)) ≡ length s
    → check_from s one at (records_in (main_or none b)) ≡ accepted (0 ∷ []) (length s)
unfolding main_or bytes_of records_in check_from judge_at go_on is_placed pass_at set_kind mark_for
end-taken s true b h at l = let z : at ≡ length s = omega (arith, l) in rw (eq-eqb at (length s) z)
end-taken s false b h at l =
    let r : List ℕ = record_bytes MainClass b in
    let z : at + length r ≡ length s = omega (arith, l, length-append r []) in
    rw (made-mark MainClass b, made-body MainClass b, h refl, eq-eqb (at + length r) (length s) z)

-- ---- the set

module _ (header : List ℕ) (is : List Item) (none : Bool) (b : List ℕ) where
  abbrev pub module_all : List Item
  module_all = record { kind = Module; body = header } ∷ (is ++ main_or none b)

  pub items-set : is_body Module header ≡ true → same_bytes (module_name header) all_unnamed ≡ false → all_inner is ≡ true → (none ≡ false → is_body MainClass b ≡ true)
      → is_large module_all ≡ false → length (bytes_of module_all) ≤ 65535 → OneModule (bytes_of module_all) (module_name header)
  unfolding bytes_of records_in
  items-set made unlike inner main narrow l =
      let s : List ℕ = bytes_of module_all in
      let m : List ℕ = record_bytes Module header in
      let used : length m + length (bytes_of is) + length (bytes_of (main_or none b)) ≡ length s = rw (length-append, bytes-long is (main_or none b)) (omega arith) in
      let goes : check_from s one (length m) (records_in (is ++ main_or none b)) ≡ accepted (0 ∷ []) (length s) =
      rw (records-append is (main_or none b)) (items-pass s is (length m) (records_in (main_or none b)) inner ∙ end-taken s none b main (length m + length (bytes_of is)) used) in
      one_module header (bytes_of (is ++ main_or none b)) (records_in (is ++ main_or none b)) made (first-narrow (record { kind = Module; body = header }) (is ++ main_or none b) narrow) unlike (items-records module_all narrow) goes l
