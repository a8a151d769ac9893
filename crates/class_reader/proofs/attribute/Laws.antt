-- What each return and each turn of the functions that walk over the attributes shows.
use Prim.Native.Nat.{ℕ, suc, ◌+◌, ◌-◌, ◌≤◌, ◌<◌}
use mathlib.Core.Path.{◌≡◌, refl, sym, ◌∙◌}
use mathlib.Core.List.{List}
use mathlib.Core.Bool.{Bool, true, false, cond, ◌&&◌, and-true, and_assoc}
use native.Mathlib.Omega.{arith}
use lib.ListN.{length}
use lib.Dec.{leb, eqb}
use borrow.Author.Tests.{eq-eqb}
use Rattle.std.proofs.Common.{Option, Some, None, Result, Ok, Err}
use Rattle.std.specs.Option.{is_some, is_none}
use Rattle.std.specs.Result.{IfOk}
use Rattle.records.specs.Bytes.{u16_at}
use Rattle.records.proofs.Logic.{clash}
use Rattle.class_reader.specs.Pool.{is_tag}
use Rattle.class_reader.specs.Entry.{is_entry, entry_end, entries_good, entries_end, table_good, tables_good, tables_end, module_tables}
use Rattle.class_reader.specs.Attribute.{attribute_end, attribute_at, contents_good, nothing_seen, seen_at, see, attribute_good, module_items}
use Rattle.class_reader.specs.Measure.{nothing_measured, adding, measure_entries, measure_table, Small}
use Rattle.class_reader.specs.Walk.{measure_contents, size_in, keep, Light, met, walk_named, walk_one, walk_end, module_size, walk_from}
use Rattle.class_reader.specs.declared.entry.Entry.TheVariants as Entry
use Rattle.class_reader.specs.declared.measure.Measured.{Measured}
use Rattle.class_reader.specs.declared.pool.Fault.{Fault}
use Rattle.class_reader.specs.declared.attribute.Attribute.{Attribute}
use Rattle.class_reader.specs.declared.attribute.Attribute.TheVariants.{Module, ModulePackages, ModuleMainClass, Other}
use Rattle.class_reader.specs.declared.attribute.Walked.{Walked}
use Rattle.class_reader.proofs.measure.Module.{measure_module_lem}

pub end-far : (f : List ℕ) (at : ℕ) → at + 6 ≤ attribute_end f at
unfolding attribute_end
end-far f at = omega arith

-- ---- the contents

-- what is measured ends there
abbrev pub ends_at : Option Measured → ℕ → Bool
ends_at None end = false
ends_at (Some m) end = eqb m.next end

place_end : (b : Bool) (m : Measured) (end : ℕ) → ends_at (cond b (Some m) None) end ≡ (b && eqb m.next end)
place_end true m end = refl
place_end false m end = refl

-- contents that measure up to their end are good
pub contents_good_lem : (a : Attribute) (f t : List ℕ) (p end : ℕ) → contents_good a f t p end ≡ ends_at (measure_contents a f t p end) end
unfolding measure_contents contents_good measure_table measure_entries entries_good entries_end entry_end adding
contents_good_lem Module f t p end =
    let g : Bool = is_entry Entry.Module f t p in
    let h : Bool = tables_good f t module_tables (p + 6) in
    let n : ℕ = tables_end f module_tables (p + 6) in
    sym (rw (measure_module_lem f t p) (place_end (g && h) (adding (nothing_measured p) n (module_items f t p)) end ∙ and_assoc g h (eqb n end)))
contents_good_lem ModulePackages f t p end = sym (place_end (table_good Entry.Package f t p) _ end)
contents_good_lem ModuleMainClass f t p end = sym (rw (and-true (is_entry Entry.MainClass f t p)) (place_end (is_entry Entry.MainClass f t p) _ end))
contents_good_lem Other f t p end = sym (eq-eqb end end refl)

pub keep_light : (a : Attribute) (before : Option ℕ) (f : List ℕ) (m : Measured) → length f ≤ 65535 → Light before → Small f m → Light (keep a before m.size)
unfolding keep Light
keep_light Module before f m l h k = λ n e. omega (arith, k.light n e, k.low)
keep_light ModulePackages before f m l h k = h
keep_light ModuleMainClass before f m l h k = h
keep_light Other before f m l h k = h

-- ---- the loop

-- a result that is Ok only where b holds
module _ {A E : Type 0} (w : A) (x : E) where
  ok-true : (b : Bool) (w' : A) → cond b (Ok w) (Err x) ≡ Ok w' → b ≡ true
  ok-true true w' e = refl
  ok-true false w' e = cc

  ok-same : (b : Bool) (w' : A) → cond b (Ok w) (Err x) ≡ Ok w' → w ≡ w'
  ok-same true w' e = cc
  ok-same false w' e = cc

  err-false : (b : Bool) (x' : E) → cond b (Ok w) (Err x) ≡ Err x' → b ≡ false
  err-false true x' e = cc
  err-false false x' e = refl

  err-same : (b : Bool) (x' : E) → cond b (Ok w) (Err x) ≡ Err x' → x ≡ x'
  err-same true x' e = cc
  err-same false x' e = cc

-- one attribute that is good
one-all : (f t : List ℕ) (w : Walked) (at : ℕ)
    → walk_one f t w at
    ≡ cond (leb (attribute_end f at) (length f) && attribute_good f t w.seen at) (Ok (met (attribute_at f t at) f t w at (attribute_end f at))) (Err (record { at = at }))
unfolding walk_one walk_named attribute_good
one-all f t w at =
    go (leb (attribute_end f at) (length f)) (is_tag 1 f t (u16_at f at))
    (is_none (seen_at (attribute_at f t at) w.seen) && contents_good (attribute_at f t at) f t (at + 6) (attribute_end f at)) _ _
  where
    go : (a b c : Bool) (w x : Result Walked Fault) → cond (a && b) (cond c w x) x ≡ cond (a && (b && c)) w x
    go true true c w x = refl
    go true false c w x = refl
    go false b c w x = refl

-- what is measured counts only where Module was met
end_same : (f : List ℕ) (w : Walked) (size : Option ℕ) (at : ℕ) → (is_some w.seen.descriptor ≡ true → w.size ≡ size)
    → walk_end f w at ≡ walk_end f (record { seen = w.seen; size = size }) at
unfolding walk_end
end_same f w size at e = go (is_some w.seen.descriptor) refl
  where
    go : (b : Bool) → is_some w.seen.descriptor ≡ b
        → ◌≡◌ {A = Result Walked Fault} (cond (eqb at (length f)) (cond b (Ok w) (Err (record { at = length f }))) (Err (record { at = at })))
        (cond (eqb at (length f)) (cond b (Ok (record { seen = w.seen; size = size })) (Err (record { at = length f }))) (Err (record { at = at })))
    go true h = let s : w.size ≡ size = e h in rw (← s)
    go false h = refl

-- what is kept is that of the Module attribute met
kept : (f t : List ℕ) (a : Attribute) (w : Walked) (at end : ℕ) → (is_some w.seen.descriptor ≡ true → w.size ≡ module_size f t w.seen)
    → is_some (see a at w.seen).descriptor ≡ true → keep a w.size (size_in (measure_contents a f t (at + 6) end)) ≡ module_size f t (see a at w.seen)
unfolding keep measure_contents see
kept f t Module w at end h l = refl
kept f t ModulePackages w at end h l = h l
kept f t ModuleMainClass w at end h l = h l
kept f t Other w at end h l = h l

-- i attributes are good, and the next stands at b
pub record WalkAt (f t : List ℕ) (n at : ℕ) (w : Walked) (b i : ℕ) : Type 0 where
  pub low : b ≤ length f
  pub left : walk_from f t n nothing_seen at ≡ walk_from f t (n - i) w.seen b
  pub measured : is_some w.seen.descriptor ≡ true → w.size ≡ module_size f t w.seen
  pub light : Light w.size

pub walk_start : (f t : List ℕ) (n at : ℕ) → at ≤ length f → WalkAt f t n at (record { seen = nothing_seen; size = None }) at 0
unfolding Light
walk_start f t n at k =
    let z : n - 0 ≡ n = omega arith in
    record { low = k; left = rw z; measured = λ h. clash (cc); light = λ n h. clash (cc) }

module _ {f t : List ℕ} {n at : ℕ} {w : Walked} {b i : ℕ} (h : WalkAt f t n at w b i) where
  pub walk-low : b ≤ length f
  walk-low = h.low

  pub walk-light : Light w.size
  walk-light = h.light

  pub walk-done : (r : Result Walked Fault) → n ≤ i → r ≡ walk_end f w b → r ≡ walk_from f t n nothing_seen at
  unfolding walk_from
  walk-done r l er =
      let z : n - i ≡ 0 = omega arith in
      er ∙ end_same f w (module_size f t w.seen) b h.measured ∙ sym (h.left ∙ rw z)

  module _ (l : i < n) where
    abbrev test : Bool
    test = leb (attribute_end f b) (length f) && attribute_good f t w.seen b

    abbrev next : Walked
    next = met (attribute_at f t b) f t w b (attribute_end f b)

    turn : walk_from f t n nothing_seen at ≡ cond test (walk_from f t (n - (i + 1)) next.seen (attribute_end f b)) (Err (record { at = b }))
    unfolding walk_from
    turn = let e : n - i ≡ suc (n - (i + 1)) = omega arith in h.left ∙ rw e

    pub walk-bad : (x : Fault) → Err x ≡ walk_one f t w b → Err x ≡ walk_from f t n nothing_seen at
    walk-bad x e =
        let q : cond test (Ok next) (Err (record { at = b })) ≡ Err x = sym (e ∙ one-all f t w b) in
        let z : test ≡ false = err-false next (record { at = b }) test x q in
        let y : record { at = b } ≡ x = err-same next (record { at = b }) test x q in
        sym (turn ∙ rw z (rw y))

    pub walk_more : (end : ℕ) (w' : Walked) → end ≡ attribute_end f b → Ok w' ≡ walk_one f t w b → Light w'.size → end ≤ length f → WalkAt f t n at w' end (i + 1)
    walk_more end w' ee e k d =
        let q : cond test (Ok next) (Err (record { at = b })) ≡ Ok w' = sym (e ∙ one-all f t w b) in
        let z : test ≡ true = ok-true next (record { at = b }) test w' q in
        let y : next ≡ w' = ok-same next (record { at = b }) test w' q in
        record {
          low = d;
          left = turn ∙ rw (z, ← y, ee);
          measured = rw (← y) (kept f t (attribute_at f t b) w b (attribute_end f b) h.measured);
          light = k;
        }

pub end-light : (r : Result Walked Fault) (w : Walked) → IfOk r (λ x. x ≡ w) → Light w.size → IfOk r (λ x. Light x.size)
end-light (Ok x) w e h = rw e h
end-light (Err x) w e h = e

pub ruleset walk-laws = (walk_start, walk-low, walk-light, walk-done, walk_more)
