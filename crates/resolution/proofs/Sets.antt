-- Of a set that the check takes: there are at most 512 modules; its modules by position and by name; and when it has all
-- observable modules of another, unaltered.
use mathlib.Core.Path.{◌≡◌, refl, sym, ap, ◌∙◌, subst}
use Prim.Native.Nat.{ℕ, suc, ◌≤◌, ◌<◌}
use native.Mathlib.Omega.{arith}
use mathlib.Core.Bool.{Bool, true, false, cond}
use mathlib.Core.Option.{none, some}
use mathlib.Core.List.Memᴰ
use mathlib.Core.List.{List, [], ◌∷◌, map}
use lib.Dec.{ltb}
use lib.ListN.{length, get_or, take, length-map, length-take, get_or-map}
use lib.Seq.{get_or-take}
use borrow.Author.Tests.{ltb-true, ltb-false}
use Rattle.records.specs.Descriptor.{Descriptor, descriptor_of}
use Rattle.records.specs.Request.{Request}
use Rattle.records.specs.Places.{has_place}
use Rattle.records.specs.Record.{records}
use Rattle.records.specs.Set.{name_at, blocks, block_at, modules, check_set}
use Rattle.records.specs.Finder.{find_module, is_first, found_from, visible_blocks}
use Rattle.records.specs.Sorted.{Indexed}
use Rattle.records.proofs.Logic.{by}
use Rattle.records.proofs.set.Blocks.{GoodSet, good-set}
use Rattle.records.proofs.set.OnePlace.{none_hidden, all-visible}
use Rattle.resolution.specs.Lists.{Name, Mem}
use Rattle.resolution.specs.Lookup.{Lookup}
use Rattle.resolution.specs.Loop.{failed, done, loop}
use Rattle.resolution.specs.Resolution.{names, find, has_module, observable, State, ran_out, round, resolve}
use Rattle.resolution.specs.Closed.{Accepted}
use Rattle.resolution.specs.Positions.{module_at, is_visible}
use Rattle.resolution.proofs.Lists.{map_in, map-out}
use Rattle.resolution.proofs.Accepted.{accepted}
use Rattle.resolution.proofs.Fuel.{rounds_1024}
use Rattle.resolution.proofs.Positions.{Located, get_or-any, located, not_located, visible_in}
use Rattle.resolution.proofs.Wider.{modules-over}
use Rattle.std.specs.Prelude.{Some, None, Ok}

module _ (s : List ℕ) (n : ℕ) (t : List ℕ) (g : GoodSet s n t) where
  pub set-length : length (modules s) ≡ n
  unfolding modules
  set-length = length-map (blocks s) descriptor_of ∙ sym g.count

  pub set-accepted : (rq : Request) (st : State) → resolve (modules s) rq ≡ done st → Accepted (modules s) rq st.resolved
  set-accepted rq st h = accepted (modules s) rq st h

  -- a 1025th round never occurs
  pub set-rounds : (rq : Request) (st : State) → loop (round (modules s) rq) ran_out 1024 st ≡ failed ran_out → ⊥
  set-rounds rq st h = rounds_1024 (modules s) rq (omega (arith, g.few, set-length)) st h

  -- the module at a position is what the block there says
  pub module_block : (i : ℕ) → i < n → module_at (modules s) i ≡ descriptor_of (block_at s t i)
  module_block i l = sym (g.block_is i l)

-- ---- by the table

module _ (s : List ℕ) (n : ℕ) (t : List ℕ) (e : check_set s ≡ Ok (record { count = n; starts = t })) where
  long : length (map (name_at s) (take n t)) ≡ n
  long = ap length (good-set s n t e).names ∙ length-map (modules s) (λ (m : Descriptor). m.name) ∙ set-length s n t (good-set s n t e)

  -- the table has a start for each module
  pub starts-room : n ≤ length t
  starts-room = omega (arith, long, length-map (take n t) (name_at s), length-take n t)

  pub starts-long : (k : ℕ) → k < n → k < length t
  starts-long k l = omega (arith, starts-room)

  -- the name found by the table is the name of the module
  pub name-at-start : (k : ℕ) → k < n → name_at s (get_or t k 0) ≡ (module_at (modules s) k).name
  name-at-start k l =
      ap (name_at s) (sym (get_or-take n t k 0 l)) ∙ sym (get_or-map (name_at s) (take n t) k 0)
      ∙ get_or-any (map (name_at s) (take n t)) k (name_at s 0) (descriptor_of []).name (omega (arith, long))
      ∙ ap (λ (x : List Name). get_or x k (descriptor_of []).name) (good-set s n t e).names
      ∙ get_or-map (λ (m : Descriptor). m.name) (modules s) k (descriptor_of [])

  -- so is the test that it is visible
  pub visible-start : (k : ℕ) → k < n → is_visible (modules s) k ≡ is_first (map (name_at s) (take n t)) (name_at s (get_or t k 0)) k
  unfolding is_visible
  visible-start k l = ap (λ (x : List Name). is_first x (module_at (modules s) k).name k) (sym (good-set s n t e).names) ∙ ap (λ (x : Name). is_first (map (name_at s) (take n t)) x k) (sym (name-at-start k l))

  -- an index of its names is what a lookup by name asks
  pub set-lookup : (index : List ℕ) → Indexed (map (name_at s) (take n t)) index → Lookup s t n index
  set-lookup index x = record { few = (good-set s n t e).few; within = starts-room; indexed = x }

-- and what that has in it
pub lookup-few : (s t index : List ℕ) (n : ℕ) → Lookup s t n index → n ≤ 512
lookup-few s t index n x = x.few

pub lookup-room : (s t index : List ℕ) (n : ℕ) → Lookup s t n index → n ≤ length t
lookup-room s t index n x = x.within

pub lookup-index : (s t index : List ℕ) (n : ℕ) → Lookup s t n index → Indexed (map (name_at s) (take n t)) index
lookup-index s t index n x = x.indexed

-- what the finder says of a name
pub set_located : (s : List ℕ) (n : Name) (i : ℕ) → find_module s n ≡ Some i → Located n (modules s) i
unfolding find_module
set_located s n i e = located n (modules s) i e

pub set-not_located : (s : List ℕ) (n : Name) → find_module s n ≡ None → (has_module (modules s) n ≡ false) × (find n (modules s) ≡ none)
unfolding find_module
set-not_located s n e = not_located n (modules s) e

-- each observable module of the first set is so in the second, unaltered: "MO and the records belonging to it have the same bytes
-- in the same order, wherever the module stands"
visible-modules : (s : List ℕ) (l : List Name) (bs : List (List ℕ)) (k : ℕ)
    → map descriptor_of (found_from (λ (b : List ℕ). (descriptor_of b).name) l k bs) ≡ found_from (λ (m : Descriptor). m.name) l k (map descriptor_of bs)
unfolding found_from
visible-modules s l [] k = refl
visible-modules s l (b ∷ bs) k = turned (is_first l (descriptor_of b).name k) (visible-modules s l bs (suc k))
  where
    turned : (c : Bool) → map descriptor_of (found_from (λ (x : List ℕ). (descriptor_of x).name) l (suc k) bs) ≡ found_from (λ (m : Descriptor). m.name) l (suc k) (map descriptor_of bs)
        → map descriptor_of (cond c (b ∷ found_from (λ (x : List ℕ). (descriptor_of x).name) l (suc k) bs) (found_from (λ (x : List ℕ). (descriptor_of x).name) l (suc k) bs))
        ≡ cond c (descriptor_of b ∷ found_from (λ (m : Descriptor). m.name) l (suc k) (map descriptor_of bs)) (found_from (λ (m : Descriptor). m.name) l (suc k) (map descriptor_of bs))
    turned true e = ap (λ (r : List Descriptor). descriptor_of b ∷ r) e
    turned false e = e

-- the observable modules are what the visible blocks say
pub blocks-observable : (s : List ℕ) → map descriptor_of (visible_blocks s) ≡ observable (modules s)
unfolding visible_blocks observable modules
blocks-observable s = visible-modules s (names (modules s)) (blocks s) 0

-- of a set without PL they are all: nothing is hidden
pub one-place-observable : (s : List ℕ) (n : ℕ) (t : List ℕ) → check_set s ≡ Ok (record { count = n; starts = t }) → has_place (records s) ≡ false → observable (modules s) ≡ modules s
unfolding modules
one-place-observable s n t e one = sym (blocks-observable s) ∙ ap (map descriptor_of) (none_hidden s n t e one)

-- and a position is visible just if it has a module
pub one-place-visible : (s : List ℕ) (n : ℕ) (t : List ℕ) → check_set s ≡ Ok (record { count = n; starts = t }) → has_place (records s) ≡ false → (k : ℕ) → is_visible (modules s) k ≡ ltb k n
unfolding is_visible
one-place-visible s n t e one k = by (ltb k n)
    (λ h. all-visible s n t e one k (ltb-true k n h) ∙ sym h)
    (λ h. by (is_visible (modules s) k) (λ v. absurd (omega (arith, visible_in (modules s) k v, set-length s n t (good-set s n t e), ltb-false k n h))) (λ v. v ∙ sym h))

pub unaltered_over : (s₁ s₂ : List ℕ) → ((b : List ℕ) → Mem b (visible_blocks s₁) → Mem b (visible_blocks s₂))
    → (n : Name) (m : Descriptor) → find n (modules s₁) ≡ some m → find n (modules s₂) ≡ some m
unaltered_over s₁ s₂ f n m e = modules-over (modules s₁) (modules s₂)
    (λ k h. let r = map-out descriptor_of (visible_blocks s₁) (subst (λ (l : List Descriptor). Mem k l) (sym (blocks-observable s₁)) h) in
    subst (λ (l : List Descriptor). Mem k l) (blocks-observable s₂) (Memᴰ.cast r.2 (map_in descriptor_of (f r.0 r.1)))) n m e
