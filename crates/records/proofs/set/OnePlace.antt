-- A set without PL is one place: every module of it is visible, and the check's 'same place' is 'same set'.
use Prim.Native.Nat.{ℕ, ◌+◌, ◌≤◌, ◌<◌}
use mathlib.Core.Path.{◌≡◌, refl, sym, ◌∙◌, ap}
use mathlib.Core.List.{List, [], ◌∷◌, ◌++◌, map, map-map}
use mathlib.Core.Bool.{true, false}
use native.Mathlib.Omega.{arith}
use lib.ListN.{length, get_or, length-map, get_or-map}
use borrow.Author.Tests.{le-ltb}
use Rattle.records.specs.Record.{mark_of, body_of, records, set_kind, is_of}
use Rattle.records.specs.Descriptor.{Descriptor, descriptor_of}
use Rattle.records.specs.Set.{Passed, none_yet, judge_at, accepted, go_on, check_from, check_set, blocks, modules, table_of}
use Rattle.records.specs.Places.{has_place, up_to_place, names_in, distinct}
use Rattle.records.specs.Finder.{is_first, visible_blocks}
use Rattle.records.specs.declared.record.Kind.TheVariants.{Place}
use Rattle.records.specs.declared.error.ModuleError.{ModuleError}
use Rattle.records.specs.Set.{VerdictAnswer}
use Rattle.records.specs.declared.set.Verdict.TheVariants.{Start, Main, Enter, Pass}
use Rattle.records.proofs.Logic.{true≠false, neither_left, neither_right}
use Rattle.records.proofs.finder.Distinct.{first-own, distinct-visible}
use Rattle.records.proofs.set.Blocks.{good-set}
use Rattle.records.proofs.set.Places.{first-distinct}
use Rattle.records.proofs.set.Steps.{Step, begins, belongs, mains, enters, place_is, step-goes, Goes, goes, takes}
use Rattle.std.specs.Prelude.{Ok, Err}

-- ---- every module is visible

kept : (rs : List (List ℕ)) → has_place rs ≡ false → up_to_place rs ≡ rs
unfolding has_place up_to_place
kept [] e = refl
kept (r ∷ rs) e = rw (neither_left (is_of Place r) (has_place rs) e, kept rs (neither_right (is_of Place r) (has_place rs) e))

module _ (s : List ℕ) (n : ℕ) (t : List ℕ) (e : check_set s ≡ Ok (record { count = n; starts = t })) (one : has_place (records s) ≡ false) where
  -- no name stands twice in the set
  pub set-distinct : distinct (names_in (blocks s)) ≡ true
  unfolding blocks
  set-distinct = rw (kept (records s) one) at (first-distinct (takes s n t e).walk)

  -- no module is hidden
  pub none_hidden : visible_blocks s ≡ blocks s
  none_hidden = distinct-visible s set-distinct

  -- every position is visible
  pub all-visible : (k : ℕ) → k < n → is_first (map (λ (m : Descriptor). m.name) (modules s)) (get_or (modules s) k (descriptor_of [])).name k ≡ true
  unfolding modules
  all-visible k l =
      let same : map (λ (m : Descriptor). m.name) (modules s) ≡ names_in (blocks s) = map-map (λ (m : Descriptor). m.name) descriptor_of (blocks s) in
      let name : get_or (names_in (blocks s)) k (descriptor_of []).name ≡ (get_or (modules s) k (descriptor_of [])).name =
      ap (λ (ns : List (List ℕ)). get_or ns k (descriptor_of []).name) (sym same) ∙ get_or-map (λ (m : Descriptor). m.name) (modules s) k (descriptor_of []) in
      rw (same, ← name) (first-own (names_in (blocks s)) k (descriptor_of []).name set-distinct (omega (arith, l, length-map (blocks s) (λ (b : List ℕ). (descriptor_of b).name), (good-set s n t e).count)))

-- ---- 'same place' is 'same set'

-- the check of s comes to the records rs at `at` in state p
pub data Comes (s : List ℕ) : Passed → ℕ → List (List ℕ) → Type 0 where
  first : Comes s none_yet 0 (records s)
  next : {p : Passed} {at : ℕ} {r : List ℕ} {p' : Passed} {rs : List (List ℕ)} → Comes s p at (r ∷ rs) → Step s p at r p' → Comes s p' (at + length r) rs

-- there it has the rest of the set to decide
pub comes_check : {s : List ℕ} {p : Passed} {at : ℕ} {rs : List (List ℕ)} → length s ≤ 65535 → Comes s p at rs → check_set s ≡ check_from s p at rs
unfolding check_set check_from
comes_check {s = s} l first = rw (le-ltb 65535 (length s) l)
comes_check {s = s} l (next {p = p} {at = at} {r = r} {rs = rs} c k) = comes_check l c ∙ step-goes s p at r (λ q. check_from s q (at + length r) rs) k

-- and it goes on by a step where it does not stop
pub comes_on : (s : List ℕ) (p : Passed) (at : ℕ) (r : List ℕ) → ((e : ModuleError) → judge_at s p at (set_kind (mark_of r)) (body_of r) ≡ Err e → ⊥) → (p' : Passed) × Step s p at r p'
unfolding go_on accepted
comes_on s p at r h = go (judge_at s p at (set_kind (mark_of r)) (body_of r)) refl
  where
    told : go_on (judge_at s p at (set_kind (mark_of r)) (body_of r)) p at (λ q. accepted [] 0) ≡ accepted [] 0 → (p' : Passed) × Step s p at r p'
    told e = let g : Goes s p at r (λ q. accepted [] 0) 0 (table_of [] 0) = goes s p at r (λ q. accepted [] 0) 0 (table_of [] 0) e in (g.to, g.step)

    go : (v : VerdictAnswer) → judge_at s p at (set_kind (mark_of r)) (body_of r) ≡ v → (p' : Passed) × Step s p at r p'
    go (Err e) ev = absurd (h e ev)
    go (Ok Start) ev = told (rw ev)
    go (Ok Main) ev = told (rw ev)
    go (Ok Enter) ev = told (rw ev)
    go (Ok Pass) ev = told (rw ev)

-- in a set without PL the modules of the present place are those of the set so far
comes_one : {s : List ℕ} {p : Passed} {at : ℕ} {rs : List (List ℕ)} → Comes s p at rs → has_place (records s) ≡ false → (has_place rs ≡ false) × (p.here ≡ p.starts)
unfolding has_place
comes_one first h = (h, refl)
comes_one (next {at = at} {r = r} {rs = rs} c (begins b)) h = (neither_right (is_of Place r) (has_place rs) (comes_one c h).0, ap (λ (l : List ℕ). l ++ (at ∷ [])) (comes_one c h).1)
comes_one (next {r = r} {rs = rs} c (belongs b)) h = (neither_right (is_of Place r) (has_place rs) (comes_one c h).0, (comes_one c h).1)
comes_one (next {r = r} {rs = rs} c (mains b)) h = (neither_right (is_of Place r) (has_place rs) (comes_one c h).0, (comes_one c h).1)
comes_one (next {r = r} {rs = rs} c (enters b)) h = true≠false (place_is r b.kind) (neither_left (is_of Place r) (has_place rs) (comes_one c h).0)

-- so number 3 there is a name that stands before in the set, or ALL-UNNAMED
pub same_place : {s : List ℕ} {p : Passed} {at : ℕ} {rs : List (List ℕ)} → Comes s p at rs → has_place (records s) ≡ false → p.here ≡ p.starts
same_place c h = (comes_one c h).1
