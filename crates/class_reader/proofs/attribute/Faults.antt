-- The first fault that the walk meets begins the list of all, and what it finds is good.
use Prim.Native.Nat.{ℕ, zero, suc, ◌+◌, ◌≤◌}
use mathlib.Core.Path.{◌≡◌, refl, ap, subst}
use mathlib.Core.List.{List, [], ◌∷◌, ◌++◌}
use mathlib.Core.Bool.{Bool, true, false, cond, ◌&&◌}
use native.Mathlib.Omega.{arith}
use lib.ListN.{length}
use lib.Dec.{leb, eqb}
use borrow.Author.Tests.{leb-true}
use Rattle.std.proofs.Common.{Option, Some, None, Result, Ok, Err}
use Rattle.std.specs.Option.{is_some, is_none, unwrap_or}
use Rattle.records.specs.Bytes.{u16_at}
use Rattle.records.proofs.Logic.{clash, and_left, and_right}
use Rattle.class_reader.specs.Pool.{is_tag}
use Rattle.class_reader.specs.Entry.{is_entry, table_good, table_end, tables_good, tables_end, module_tables}
use Rattle.class_reader.specs.Attribute.{attribute_end, attribute_at, contents_good, nothing_seen, seen_at, see, attribute_good, fault_unless, end_faults, attribute_faults, seen_from}
use Rattle.class_reader.specs.Walk.{walk_end, module_size, walk_from, Readable}
use Rattle.class_reader.specs.declared.entry.Entry.TheVariants as Entry
use Rattle.class_reader.specs.declared.pool.Fault.{Fault}
use Rattle.class_reader.specs.declared.attribute.Attribute.{Attribute}
use Rattle.class_reader.specs.declared.attribute.Attribute.TheVariants.{Module, ModulePackages, ModuleMainClass, Other}
use Rattle.class_reader.specs.declared.attribute.Seen.{Seen}
use Rattle.class_reader.specs.declared.attribute.Walked.{Walked}
use Rattle.class_reader.proofs.attribute.Laws.{end-far}

-- a fault there
abbrev pub fault : ℕ → Result Walked Fault
fault at = Err (record { at = at })

-- ---- the first fault

-- the list starts with o
pub record StartsWith (l : List ℕ) (o : ℕ) : Type 0 where
  pub rest : List ℕ
  pub starts : l ≡ o ∷ rest

same-place : (at o : ℕ) → fault at ≡ fault o → at ≡ o
same-place at o e = let f : ◌≡◌ {A = Fault} (record { at = at }) (record { at = o }) = cc in ap (λ (x : Fault). x.at) f

no-fault : {A : Type 0} (w : Walked) (o : ℕ) → ◌≡◌ {A = Result Walked Fault} (Ok w) (fault o) → A
no-fault w o e = cc

end-fault : (at n : ℕ) (w : Walked) (a b : Bool) (o : ℕ) → cond a (cond b (Ok w) (fault n)) (fault at) ≡ fault o
    → StartsWith (cond a [] (at ∷ []) ++ cond b [] (n ∷ [])) o
end-fault at n w true true o e = no-fault w o e
end-fault at n w true false o e = record { rest = []; starts = let z : n ≡ o = same-place n o e in rw z }
end-fault at n w false b o e = record { rest = cond b [] (n ∷ []); starts = let z : at ≡ o = same-place at o e in rw z }

step-fault : (at : ℕ) (w : Result Walked Fault) (l : List ℕ) (o : ℕ) → (w ≡ fault o → StartsWith l o) → (a b : Bool) → cond (a && b) w (fault at) ≡ fault o
    → StartsWith (cond a (cond b [] (at ∷ []) ++ l) (at ∷ [])) o
step-fault at w l o h true true e = h e
step-fault at w l o h true false e = record { rest = l; starts = let z : at ≡ o = same-place at o e in rw z }
step-fault at w l o h false b e = record { rest = []; starts = let z : at ≡ o = same-place at o e in rw z }

-- the attributes met, and what Module measures
abbrev found : List ℕ → List ℕ → Seen → Walked
found f t s = record { seen = s; size = module_size f t s }

pub walk-fault : (f t : List ℕ) (n : ℕ) (s : Seen) (at o : ℕ) → walk_from f t n s at ≡ fault o → StartsWith (attribute_faults f t n s at) o
unfolding walk_from attribute_faults walk_end end_faults fault_unless
walk-fault f t zero s at o e = end-fault at (length f) (found f t s) (eqb at (length f)) (is_some s.descriptor) o e
walk-fault f t (suc n) s at o e =
    let s' : Seen = see (attribute_at f t at) at s in
    let end : ℕ = attribute_end f at in
    step-fault at (walk_from f t n s' end) (attribute_faults f t n s' end) o (λ h. walk-fault f t n s' end o h)
    (leb end (length f)) (attribute_good f t s at) e

-- ---- no fault

module _ (at n : ℕ) (w w' : Walked) where
  abbrev ended : Bool → Bool → Result Walked Fault
  ended a b = cond a (cond b (Ok w) (fault n)) (fault at)

  end_both : (a b : Bool) → ended a b ≡ Ok w' → (a ≡ true) × (b ≡ true)
  end_both true true e = (refl, refl)
  end_both true false e = cc
  end_both false b e = cc

  end_met : (a b : Bool) → ended a b ≡ Ok w' → w ≡ w'
  end_met true true e = cc
  end_met true false e = cc
  end_met false b e = cc

-- a walk that goes on finds nothing at fault in the first attribute
step_both : (at : ℕ) (w : Result Walked Fault) (w' : Walked) (b : Bool) → cond b w (fault at) ≡ Ok w' → b ≡ true
step_both at w w' true e = refl
step_both at w w' false e = cc

step-on : (at : ℕ) (w : Result Walked Fault) (w' : Walked) (b : Bool) → cond b w (fault at) ≡ Ok w' → w ≡ Ok w'
step-on at w w' true e = e
step-on at w w' false e = cc

module _ (f t : List ℕ) (s : Seen) (at : ℕ) (w' : Walked) where
  module _ (e : walk_from f t zero s at ≡ Ok w') where
    ends : ended at (length f) (found f t s) w' (eqb at (length f)) (is_some s.descriptor) ≡ Ok w'
    unfolding walk_from walk_end
    ends = e

    last-place : eqb at (length f) ≡ true
    last-place = (end_both at (length f) (found f t s) w' (eqb at (length f)) (is_some s.descriptor) ends).0

    last-some : is_some s.descriptor ≡ true
    last-some = (end_both at (length f) (found f t s) w' (eqb at (length f)) (is_some s.descriptor) ends).1

    last-met : found f t s ≡ w'
    last-met = end_met at (length f) (found f t s) w' (eqb at (length f)) (is_some s.descriptor) ends

  module _ (n : ℕ) (e : walk_from f t (suc n) s at ≡ Ok w') where
    abbrev rest_found : Result Walked Fault
    rest_found = walk_from f t n (see (attribute_at f t at) at s) (attribute_end f at)

    step-test : (leb (attribute_end f at) (length f) && attribute_good f t s at) ≡ true
    unfolding walk_from
    step-test = step_both at rest_found w' (leb (attribute_end f at) (length f) && attribute_good f t s at) e

    pub step-whole : leb (attribute_end f at) (length f) ≡ true
    step-whole = and_left (leb (attribute_end f at) (length f)) (attribute_good f t s at) step-test

    pub step-good : attribute_good f t s at ≡ true
    step-good = and_right (leb (attribute_end f at) (length f)) (attribute_good f t s at) step-test

    pub step-rest : walk_from f t n (see (attribute_at f t at) at s) (attribute_end f at) ≡ Ok w'
    unfolding walk_from
    step-rest = step-on at rest_found w' (leb (attribute_end f at) (length f) && attribute_good f t s at) e

pub walk_none : (f t : List ℕ) (n : ℕ) (s : Seen) (at : ℕ) (w' : Walked) → walk_from f t n s at ≡ Ok w' → attribute_faults f t n s at ≡ []
unfolding attribute_faults end_faults fault_unless
walk_none f t zero s at w' e = rw (last-place f t s at w' e, last-some f t s at w' e)
walk_none f t (suc n) s at w' e =
    rw (step-whole f t s at w' n e, step-good f t s at w' n e)
    (walk_none f t n (see (attribute_at f t at) at s) (attribute_end f at) w' (step-rest f t s at w' n e))

pub walk-seen : (f t : List ℕ) (n : ℕ) (s : Seen) (at : ℕ) (w' : Walked) → walk_from f t n s at ≡ Ok w' → seen_from f t n s at ≡ w'.seen
unfolding seen_from
walk-seen f t zero s at w' e = ap (λ (x : Walked). x.seen) (last-met f t s at w' e)
walk-seen f t (suc n) s at w' e = walk-seen f t n (see (attribute_at f t at) at s) (attribute_end f at) w' (step-rest f t s at w' n e)

pub found-measured : (f t : List ℕ) (n : ℕ) (s : Seen) (at : ℕ) (w' : Walked) → walk_from f t n s at ≡ Ok w' → w'.size ≡ module_size f t w'.seen
found-measured f t zero s at w' e = let q : found f t s ≡ w' = last-met f t s at w' e in rw (← q)
found-measured f t (suc n) s at w' e = found-measured f t n (see (attribute_at f t at) at s) (attribute_end f at) w' (step-rest f t s at w' n e)

-- ---- what is found is good

-- each of the three that was met stands where it is said to stand, and its contents are good
pub record SeenGood (f t : List ℕ) (s : Seen) : Type 0 where
  pub module_low : (at : ℕ) → s.descriptor ≡ Some at → at + 6 ≤ length f
  pub module_good : (at : ℕ) → s.descriptor ≡ Some at → is_entry Entry.Module f t (at + 6) ≡ true
  pub tables_are_good : (at : ℕ) → s.descriptor ≡ Some at → tables_good f t module_tables (at + 6 + 6) ≡ true
  pub packages_low : (at : ℕ) → s.packages ≡ Some at → at ≤ length f
  pub packages_good : (at : ℕ) → s.packages ≡ Some at → table_good Entry.Package f t (at + 6) ≡ true
  pub main_low : (at : ℕ) → s.main ≡ Some at → at ≤ length f
  pub main_good : (at : ℕ) → s.main ≡ Some at → is_entry Entry.MainClass f t (at + 6) ≡ true

nothing-good : (f t : List ℕ) → SeenGood f t nothing_seen
nothing-good f t = record {
  module_low = λ a h. clash (cc);
  module_good = λ a h. clash (cc);
  tables_are_good = λ a h. clash (cc);
  packages_low = λ a h. clash (cc);
  packages_good = λ a h. clash (cc);
  main_low = λ a h. clash (cc);
  main_good = λ a h. clash (cc);
}

-- what holds of the place that was met
here : (at : ℕ) (P : ℕ → Type 0) → P at → (a : ℕ) → Some at ≡ Some a → P a
here at P h a e = let z : at ≡ a = cc in subst P z h

module _ (f t : List ℕ) (s : Seen) (at end : ℕ) (g : SeenGood f t s) (l : at + 6 ≤ length f) where
  see-good : (a : Attribute) → contents_good a f t (at + 6) end ≡ true → SeenGood f t (see a at s)
  unfolding contents_good see
  see-good Module e =
      let r : (tables_good f t module_tables (at + 6 + 6) && eqb (tables_end f module_tables (at + 6 + 6)) end) ≡ true =
      and_right (is_entry Entry.Module f t (at + 6)) (tables_good f t module_tables (at + 6 + 6) && eqb (tables_end f module_tables (at + 6 + 6)) end) e in
      record {
        module_low = here at (λ a. a + 6 ≤ length f) l;
        module_good = here at (λ a. is_entry Entry.Module f t (a + 6) ≡ true)
            (and_left (is_entry Entry.Module f t (at + 6)) (tables_good f t module_tables (at + 6 + 6) && eqb (tables_end f module_tables (at + 6 + 6)) end) e);
        tables_are_good = here at (λ a. tables_good f t module_tables (a + 6 + 6) ≡ true)
            (and_left (tables_good f t module_tables (at + 6 + 6)) (eqb (tables_end f module_tables (at + 6 + 6)) end) r);
        packages_low = g.packages_low;
        packages_good = g.packages_good;
        main_low = g.main_low;
        main_good = g.main_good;
      }
  see-good ModulePackages e = record {
    module_low = g.module_low;
    module_good = g.module_good;
    tables_are_good = g.tables_are_good;
    packages_low = here at (λ a. a ≤ length f) (omega arith);
    packages_good = here at (λ a. table_good Entry.Package f t (a + 6) ≡ true)
        (and_left (table_good Entry.Package f t (at + 6)) (eqb (table_end Entry.Package f (at + 6)) end) e);
    main_low = g.main_low;
    main_good = g.main_good;
  }
  see-good ModuleMainClass e = record {
    module_low = g.module_low;
    module_good = g.module_good;
    tables_are_good = g.tables_are_good;
    packages_low = g.packages_low;
    packages_good = g.packages_good;
    main_low = here at (λ a. a ≤ length f) (omega arith);
    main_good = here at (λ a. is_entry Entry.MainClass f t (a + 6) ≡ true) (and_left (is_entry Entry.MainClass f t (at + 6)) (eqb (at + 6 + 2) end) e);
  }
  see-good Other e = g

good-told : (f t : List ℕ) (s : Seen) (at : ℕ) → attribute_good f t s at ≡ true → contents_good (attribute_at f t at) f t (at + 6) (attribute_end f at) ≡ true
unfolding attribute_good
good-told f t s at e =
    let a : Attribute = attribute_at f t at in
    let b : Bool = contents_good a f t (at + 6) (attribute_end f at) in
    and_right (is_none (seen_at a s)) b (and_right (is_tag 1 f t (u16_at f at)) (is_none (seen_at a s) && b) e)

pub found-good : (f t : List ℕ) (n : ℕ) (s : Seen) (at : ℕ) (w' : Walked) → SeenGood f t s → walk_from f t n s at ≡ Ok w' → SeenGood f t w'.seen
found-good f t zero s at w' g e = let q : found f t s ≡ w' = last-met f t s at w' e in rw (← q) g
found-good f t (suc n) s at w' g e =
    let l : attribute_end f at ≤ length f = leb-true (attribute_end f at) (length f) (step-whole f t s at w' n e) in
    found-good f t n (see (attribute_at f t at) at s) (attribute_end f at) w'
    (see-good f t s at (attribute_end f at) g (omega (arith, end-far f at)) (attribute_at f t at) (good-told f t s at (step-good f t s at w' n e)))
    (step-rest f t s at w' n e)

found_some : (f t : List ℕ) (n : ℕ) (s : Seen) (at : ℕ) (w' : Walked) → walk_from f t n s at ≡ Ok w' → is_some w'.seen.descriptor ≡ true
found_some f t zero s at w' e = let q : found f t s ≡ w' = last-met f t s at w' e in rw (← q) (last-some f t s at w' e)
found_some f t (suc n) s at w' e = found_some f t n (see (attribute_at f t at) at s) (attribute_end f at) w' (step-rest f t s at w' n e)

-- a place that was met
place-met : (o : Option ℕ) → is_some o ≡ true → o ≡ Some (unwrap_or o 0)
place-met None e = cc
place-met (Some at) e = refl

pub found_readable : (f t : List ℕ) (n at : ℕ) (w : Walked) → walk_from f t n nothing_seen at ≡ Ok w → Readable f t w.seen
found_readable f t n at w e =
    let g : SeenGood f t w.seen = found-good f t n nothing_seen at w (nothing-good f t) e in
    let some : is_some w.seen.descriptor ≡ true = found_some f t n nothing_seen at w e in
    let l : w.seen.descriptor ≡ Some (unwrap_or w.seen.descriptor 0) = place-met w.seen.descriptor some in
    record {
      some = some;
      module_low = g.module_low (unwrap_or w.seen.descriptor 0) l;
      module_good = g.module_good (unwrap_or w.seen.descriptor 0) l;
      tables_are_good = g.tables_are_good (unwrap_or w.seen.descriptor 0) l;
      packages_low = g.packages_low;
      packages_good = g.packages_good;
      main_low = g.main_low;
      main_good = g.main_good;
    }
