-- What each return and each turn of the loops that measure shows.
use Prim.Native.Nat.{ℕ, suc, ◌+◌, ◌*◌, ◌-◌, ◌^◌, ◌≤◌, ◌<◌}
use mathlib.Core.Path.{◌≡◌, refl, sym, ◌∙◌}
use mathlib.Core.List.{List, [], ◌∷◌, ◌++◌}
use mathlib.Core.Bool.{Bool, true, false, cond, ◌&&◌, ◌||◌}
use native.Mathlib.Omega.{arith}
use native.Mathlib.Numerals.{add-one}
use lib.ListN.{length, drop, get_or, drop_of_length-le, length-append}
use lib.Seq.{drop-cons}
use lib.Dec.{ltb, leb}
use borrow.Author.Tests.{leb-true, lt-ltb, le-ltb, ltb-true, ltb-false}
use Rattle.std.proofs.Common.{Option, Some, None}
use Rattle.std.specs.Option.{ForSome, option_map, option_and_then}
use Rattle.records.specs.Bytes.{u16_at}
use Rattle.records.specs.Output.{name_bytes, record_bytes}
use Rattle.records.proofs.Logic.{and_left}
use Rattle.records.proofs.output.Made.{made-long}
use Rattle.class_reader.specs.Pool.{has_name, version_at}
use Rattle.class_reader.specs.Entry.{Item, name_tag, entry_end, rest_good, is_entry, entry_body, entry_item, bytes_of, is_large, entries_good, entries_end, entries_items, module_tables}
use Rattle.class_reader.specs.Measure.{with_items, adding, measure_entries, measure_table, measure_tables, Small}
use Rattle.class_reader.specs.declared.entry.Entry.{Entry}
use Rattle.class_reader.specs.declared.entry.Entry.TheVariants.{Requires, Exports, Opens, Uses, Provides}
use Rattle.class_reader.specs.declared.measure.Measured.{Measured}
use Rattle.class_reader.proofs.entry.Laws.{told_true, told_same, told_false}
use Rattle.class_reader.proofs.entry.Small.{entry_small}

pub version_long : (f t : List ℕ) (i : ℕ) → length (name_bytes (version_at f t i)) ≡ 1 + length (version_at f t i)
unfolding name_bytes
version_long f t i = omega arith

-- ---- the loop over entries

-- the bytes so far with those of a record of n bytes
abbrev pub with_bytes : Option ℕ → ℕ → Option ℕ
with_bytes size n = cond (ltb 65539 n) None (option_map (λ m. m + n) size)

over : (n : ℕ) → ltb 65539 (4 + n) ≡ ltb 65535 n
over n = go (ltb 65535 n) refl where
  go : (b : Bool) → ltb 65535 n ≡ b → ltb 65539 (4 + n) ≡ b
  go true e = let l : 65535 < n = ltb-true 65535 n e in lt-ltb 65539 (4 + n) (omega arith)
  go false e = let l : n ≤ 65535 = ltb-false 65535 n e in le-ltb 65539 (4 + n) (omega arith)

-- a record, and those behind it
with-more : (size : Option ℕ) (i : Item) (is : List Item) → with_items size (i ∷ is) ≡ with_items (with_bytes size (4 + length i.body)) is
unfolding bytes_of is_large
with-more None i is = rw over (go (ltb 65535 (length i.body)))
  where
    go : (b : Bool) → ◌≡◌ {A = Option ℕ} None (with_items (cond b None None) is)
    go true = refl
    go false = refl
with-more (Some n) i is = rw over (go (ltb 65535 (length i.body)))
  where
    e : n + length (record_bytes i.kind i.body ++ bytes_of is) ≡ n + (4 + length i.body) + length (bytes_of is)
    e = rw (length-append, made-long i.kind i.body) (omega arith)

    go : (b : Bool) → cond (b || is_large is) None (Some (n + length (record_bytes i.kind i.body ++ bytes_of is)))
        ≡ with_items (cond b None (Some (n + (4 + length i.body)))) is
    go true = refl
    go false = rw e

-- i of the entries are measured
pub record MeasureAt (f t : List ℕ) (e : Entry) (n : ℕ) (from m : Measured) (i : ℕ) : Type 0 where
  pub few : length f ≤ 65535
  pub small : Small f m
  pub left : measure_entries e f t n from ≡ measure_entries e f t (n - i) m

pub measure-start : (f t : List ℕ) (e : Entry) (n : ℕ) (from : Measured) → length f ≤ 65535 → Small f from → MeasureAt f t e n from from 0
measure-start f t e n from l h =
    let z : n - 0 ≡ n = omega arith in
    record { few = l; small = h; left = rw z }

module _ {f t : List ℕ} {e : Entry} {n : ℕ} {from m : Measured} {i : ℕ} (h : MeasureAt f t e n from m i) where
  pub measure-place : m.next ≤ 65541
  measure-place = omega (arith, h.few, h.small.low)

  module _ (l : i < n) where
    next : n - i ≡ suc (n - (i + 1))
    next = omega arith

    pub measure-bad : (r : Option Measured) → None ≡ cond (is_entry e f t m.next) (Some (4 + length (entry_body e f t m.next))) None → r ≡ None
        → r ≡ measure_entries e f t n from
    unfolding measure_entries entries_good
    measure-bad r b er =
        let g : is_entry e f t m.next ≡ false = told_false (is_entry e f t m.next) (4 + length (entry_body e f t m.next)) (sym b) in
        er ∙ sym (h.left ∙ rw (next, g))

    module _ (s : ℕ) (es : Some s ≡ cond (is_entry e f t m.next) (Some (4 + length (entry_body e f t m.next))) None) where
      good : is_entry e f t m.next ≡ true
      good = told_true (is_entry e f t m.next) (4 + length (entry_body e f t m.next)) s (sym es)

      same : 4 + length (entry_body e f t m.next) ≡ s
      same = told_same (is_entry e f t m.next) (4 + length (entry_body e f t m.next)) s (sym es)

      small : s + 130 * m.next ≤ 130 * entry_end e f m.next
      small = rw same at (entry_small e f t m.next good)

      within : entry_end e f m.next ≤ length f
      unfolding is_entry
      within = leb-true (entry_end e f m.next) (length f)
          (and_left (leb (entry_end e f m.next) (length f)) (has_name (name_tag e) f t (u16_at f m.next) && rest_good e f t m.next) good)

      pub measure-sum : ForSome m.size (λ k. k + s < 2 ^ 64)
      measure-sum = go m.size refl
        where
          go : (o : Option ℕ) → m.size ≡ o → ForSome o (λ k. k + s < 2 ^ 64)
          go None q = λ k w. absurd (cc)
          go (Some a) q = λ k w. let v : a ≡ k = cc in omega (arith, h.small.light a q, small, within, h.few)

      step : measure_entries e f t (suc (n - (i + 1))) m ≡ measure_entries e f t (n - (i + 1)) (record { next = entry_end e f m.next; size = with_bytes m.size s })
      unfolding measure_entries entries_good entries_end entries_items adding entry_item
      step = rw (good, with-more m.size (entry_item e f t m.next) (entries_items e f t (n - (i + 1)) (entry_end e f m.next)), same)

      pub measure-more : (p : ℕ) (size : Option ℕ) → p ≡ entry_end e f m.next → size ≡ with_bytes m.size s → MeasureAt f t e n from (record { next = p; size = size }) (i + 1)
      measure-more p size ep eq = record {
        few = h.few;
        small = record { low = rw ep within; light = λ k w. light k w };
        left = h.left ∙ rw (next, ep, eq) step;
      }
        where
          light : (k : ℕ) → size ≡ Some k → k ≤ 130 * p
          light k w = go m.size refl (ltb 65539 s) (sym eq ∙ w)
            where
              go : (o : Option ℕ) → m.size ≡ o → (b : Bool) → cond b None (option_map (λ x. x + s) o) ≡ Some k → k ≤ 130 * p
              go None q true z = absurd (cc)
              go None q false z = absurd (cc)
              go (Some a) q true z = absurd (cc)
              go (Some a) q false z = let v : a + s ≡ k = cc in rw ep (omega (arith, h.small.light a q, small))

  pub measure-done : n ≤ i → Some m ≡ measure_entries e f t n from
  unfolding measure_entries entries_good entries_end entries_items adding bytes_of is_large
  measure-done l =
      let z : n - i ≡ 0 = omega arith in
      sym (h.left ∙ rw z (go m.size refl))
    where
      go : (o : Option ℕ) → m.size ≡ o → ◌≡◌ {A = Option Measured} (Some (record { next = m.next; size = with_items m.size [] })) (Some m)
      go None q = rw q (cc)
      go (Some a) q = let y : a + 0 ≡ a = omega arith in rw (q, y) (cc)

  pub measure-small : Small f m
  measure-small = h.small

pub ruleset measure-laws = (measure-start, measure-place, measure-bad, measure-sum, measure-more, measure-done, measure-small)

-- ---- the tables of a Module attribute

-- i of the tables are measured
pub record TablesAt (f t : List ℕ) (from : Measured) (es : List Entry) (m : Measured) (i : ℕ) : Type 0 where
  pub small : Small f m
  pub left : measure_tables f t module_tables from ≡ measure_tables f t (drop i es) m

pub tables_start : (f t : List ℕ) (from : Measured) (es : List Entry) → es ≡ module_tables → Small f from → TablesAt f t from es from 0
tables_start f t from es e h = record { small = h; left = rw e }

pub tables_all : Requires ∷ Exports ∷ Opens ∷ Uses ∷ Provides ∷ [] ≡ module_tables
unfolding module_tables
tables_all = refl

module _ {f t : List ℕ} {from m : Measured} {es : List Entry} {i : ℕ} (h : TablesAt f t from es m i) where
  module _ (l : i < length es) (d : Entry) where
    turn : measure_tables f t module_tables from ≡ option_and_then (measure_tables f t (drop (suc i) es)) (measure_table (get_or es i d) f t m)
    unfolding measure_tables
    turn = h.left ∙ rw (drop-cons es i d l)

    pub tables_bad : (r : Option Measured) → None ≡ measure_table (get_or es i d) f t m → r ≡ None → r ≡ measure_tables f t module_tables from
    tables_bad r b er = er ∙ sym (turn ∙ rw (← b))

    pub tables_more : (m' : Measured) → Some m' ≡ measure_table (get_or es i d) f t m → Small f m' → TablesAt f t from es m' (i + 1)
    tables_more m' b k = record { small = k; left = rw add-one (turn ∙ rw (← b)) }

  pub tables-done : length es ≤ i → Some m ≡ measure_tables f t module_tables from
  unfolding measure_tables
  tables-done l = sym (h.left ∙ rw (drop_of_length-le es {i = i} l))

pub ruleset tables-laws = (tables_start, tables_all, tables_bad, tables_more, tables-done)
