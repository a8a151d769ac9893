-- The places of a set that the check takes: their blocks one after the other are those of the set, there are at most eight, and no
-- name stands twice in one of them.
use Prim.Native.Nat.{ℕ, ◌+◌, ◌≤◌, ◌<◌}
use mathlib.Core.Path.{◌≡◌, refl}
use mathlib.Core.List.Memᴰ
use mathlib.Core.List.{List, [], ◌∷◌, ◌++◌, map, map-append, flatten, Memᴰ}
use mathlib.Core.Logic.{⊎_elim}
use mathlib.Core.Bool.{Bool, true, false, cond, ◌||◌}
use native.Mathlib.Omega.{arith}
use lib.ListN.{length, length-map}
use borrow.Author.Tests.{le-ltb, lt-ltb}
use Rattle.records.specs.Name.{mem_name}
use Rattle.records.specs.Record.{body_of, records, mark_for, is_of}
use Rattle.records.specs.Descriptor.{module_name}
use Rattle.records.specs.Set.{Passed, name_at, places_at, check_set, up_to_next, blocks_of, blocks}
use Rattle.records.specs.Places.{up_to_place, behind_places, places_of, places, names_in, distinct}
use Rattle.records.specs.declared.record.Kind.TheVariants.{Module, Place}
use Rattle.records.proofs.name.Lists.{not_same, mem-left, mem-last}
use Rattle.records.proofs.set.Blocks.{block-name, is_other, other-kind}
use Rattle.records.proofs.set.Steps.{begins, belongs, mains, enters, Here, name_of, Walk, end, on, takes, module_is, module_no_place, place_is, inner-no_module, inner-no-place, main-no_module, main-no-place}
use Rattle.std.specs.Prelude.{Ok}

-- ---- the blocks of the places are those of the set

no_module : (r : List ℕ) → is_of Place r ≡ true → is_of Module r ≡ false
unfolding is_other mark_for
no_module r e = other-kind Module r refl e

same_front : (rs : List (List ℕ)) → up_to_next (up_to_place rs) ≡ up_to_next rs
unfolding up_to_next up_to_place
same_front [] = refl
same_front (r ∷ rs) = go (is_of Place r) refl (same_front rs)
  where
    go : (b : Bool) → is_of Place r ≡ b → up_to_next (up_to_place rs) ≡ up_to_next rs → up_to_next (cond b [] (r ∷ up_to_place rs)) ≡ cond (is_of Module r || b) [] (r ++ up_to_next rs)
    go true e h = rw (no_module r e)
    go false e h = rw (e, h)

parted : (rs : List (List ℕ)) → blocks_of (up_to_place rs) ++ flatten (map blocks_of (behind_places rs)) ≡ blocks_of rs
unfolding blocks_of up_to_place behind_places flatten
parted [] = refl
parted (r ∷ rs) = go (is_of Place r) refl (parted rs)
  where
    mine : (b : Bool) → blocks_of (up_to_place rs) ++ flatten (map blocks_of (behind_places rs)) ≡ blocks_of rs
        → cond b ((r ++ up_to_next (up_to_place rs)) ∷ blocks_of (up_to_place rs)) (blocks_of (up_to_place rs)) ++ flatten (map blocks_of (behind_places rs)) ≡ cond b ((r ++ up_to_next rs) ∷ blocks_of rs) (blocks_of rs)
    mine true h = rw (same_front rs, h)
    mine false h = h

    go : (b : Bool) → is_of Place r ≡ b → blocks_of (up_to_place rs) ++ flatten (map blocks_of (behind_places rs)) ≡ blocks_of rs
        → blocks_of (cond b [] (r ∷ up_to_place rs)) ++ flatten (map blocks_of (cond b (up_to_place rs ∷ behind_places rs) (behind_places rs))) ≡ cond (is_of Module r) ((r ++ up_to_next rs) ∷ blocks_of rs) (blocks_of rs)
    go true e h = rw (no_module r e) h
    go false e h = mine (is_of Module r) h

all_parted : (rs : List (List ℕ)) → flatten (map blocks_of (places_of rs)) ≡ blocks_of rs
unfolding places_of flatten up_to_place blocks_of
all_parted [] = refl
all_parted (r ∷ rs) = go (is_of Place r) refl
  where
    go : (b : Bool) → is_of Place r ≡ b → flatten (map blocks_of (cond b (behind_places (r ∷ rs)) (up_to_place (r ∷ rs) ∷ behind_places (r ∷ rs)))) ≡ blocks_of (r ∷ rs)
    go true e = let q : blocks_of (up_to_place (r ∷ rs)) ≡ [] = rw e in (rw q at (parted (r ∷ rs)))
    go false e = parted (r ∷ rs)

-- the blocks of the places, one after the other, are those of the set
pub places-blocks : (s : List ℕ) → flatten (places s) ≡ blocks s
unfolding places blocks
places-blocks s = all_parted (records s)

-- ---- at most eight places

-- the places behind the present one
rooms : {s : List ℕ} {p q : Passed} {at : ℕ} {rs : List (List ℕ)} → Walk s p at rs q → 0 < at → p.places ≤ 8 → p.places + length (behind_places rs) ≤ 8
unfolding behind_places places_at
rooms (end e) l h = omega arith
rooms (on {r = r} c (begins b) w) l h = rw (module_no_place r b.kind) (rooms w (omega arith) h)
rooms (on {r = r} c (belongs b) w) l h = rw (inner-no-place r b.kind) (rooms w (omega arith) h)
rooms (on {r = r} c (mains b) w) l h = rw (main-no-place r b.kind) (rooms w (omega arith) h)
rooms (on {p = p} {at = at} {r = r} {rs = rs} c (enters b) w) l h =
    let z : places_at p.places at ≡ p.places + 1 = rw (lt-ltb 0 at l) in
    let k : places_at p.places at + length (behind_places rs) ≤ 8 = rooms w (omega arith) (rw z (omega (arith, b.room))) in
    rw (place_is r b.kind) (omega (arith, k, z))

few-places : {s : List ℕ} {p q : Passed} {at : ℕ} {rs : List (List ℕ)} → Walk s p at rs q → at ≤ 0 → p.places ≡ 1 → length (places_of rs) ≤ 8
unfolding places_of behind_places places_at
few-places (end e) l h = omega arith
few-places (on {r = r} c (begins b) w) l h = rw (module_no_place r b.kind) (omega (arith, rooms w (omega (arith, c.one.long)) (omega (arith, h)), h))
few-places (on {r = r} c (belongs b) w) l h = rw (inner-no-place r b.kind) (omega (arith, rooms w (omega (arith, c.one.long)) (omega (arith, h)), h))
few-places (on {r = r} c (mains b) w) l h = rw (main-no-place r b.kind) (omega (arith, rooms w (omega (arith, c.one.long)) (omega (arith, h)), h))
few-places (on {p = p} {at = at} {r = r} {rs = rs} c (enters b) w) l h =
    let z : places_at p.places at ≡ p.places = rw (le-ltb 0 at l) in
    let k : places_at p.places at + length (behind_places rs) ≤ 8 = rooms w (omega (arith, c.one.long)) (rw z (omega (arith, h))) in
    rw (place_is r b.kind) (omega (arith, k, z, h))

pub at-most-eight : (s : List ℕ) (n : ℕ) (t : List ℕ) → check_set s ≡ Ok (record { count = n; starts = t }) → length (places s) ≤ 8
unfolding places
at-most-eight s n t e = rw (length-map (places_of (records s)) blocks_of) (few-places (takes s n t e).walk (omega arith) refl)

-- ---- no name twice in one place

-- the names of the modules in the rest of the present place are none of those before, and stand but once; so it is in each place behind
record Apart (s here : List ℕ) (rs : List (List ℕ)) : Type 0 where
  others : (n : List ℕ) → mem_name n (map (name_at s) here) ≡ true → mem_name n (names_in (blocks_of (up_to_place rs))) ≡ false
  once : distinct (names_in (blocks_of (up_to_place rs))) ≡ true
  behind : (bs : List (List ℕ)) → Memᴰ bs (map blocks_of (behind_places rs)) → distinct (names_in bs) ≡ true

module _ {s here : List ℕ} {r : List ℕ} {rs : List (List ℕ)} where
  -- a record of a module that is there already
  apart-same : is_of Module r ≡ false → is_of Place r ≡ false → Apart s here rs → Apart s here (r ∷ rs)
  unfolding up_to_place behind_places blocks_of
  apart-same m p a = record { others = λ n h. rw (p, m) (a.others n h); once = rw (p, m) a.once; behind = rw p a.behind }

  apart-place : is_of Place r ≡ true → Apart s [] rs → Apart s here (r ∷ rs)
  unfolding up_to_place behind_places blocks_of distinct mem_name
  apart-place p a = record {
    others = λ n h. rw p;
    once = rw p;
    behind = rw p (λ bs h. ⊎_elim (λ (q : bs ≡ blocks_of (up_to_place rs)). rw q a.once) (λ h'. a.behind bs h') (Memᴰ.cases_cons h));
  }

  apart_module : {at : ℕ} → is_of Module r ≡ true → is_of Place r ≡ false → Here s at r → mem_name (module_name (body_of r)) (map (name_at s) here) ≡ false → Apart s (here ++ (at ∷ [])) rs → Apart s here (r ∷ rs)
  unfolding up_to_place behind_places blocks_of distinct mem_name
  apart_module {at} m p c new a = record {
    others = λ n h.
        let k : mem_name n (map (name_at s) (here ++ (at ∷ []))) ≡ true = rw (map-append (name_at s) here (at ∷ [])) (mem-left n (map (name_at s) here) (name_at s at ∷ []) h) in
        rw (p, m, block-name r (up_to_next (up_to_place rs)) c.one m, not_same (map (name_at s) here) (module_name (body_of r)) n new h) (a.others n k);
    once =
        let k : mem_name (module_name (body_of r)) (map (name_at s) (here ++ (at ∷ []))) ≡ true = rw (map-append (name_at s) here (at ∷ []), name_of c) (mem-last (module_name (body_of r)) (map (name_at s) here)) in
        rw (p, m, block-name r (up_to_next (up_to_place rs)) c.one m, a.others (module_name (body_of r)) k) a.once;
    behind = rw p a.behind;
  }

apart : {s : List ℕ} {p q : Passed} {at : ℕ} {rs : List (List ℕ)} → Walk s p at rs q → Apart s p.here rs
unfolding up_to_place behind_places blocks_of distinct mem_name
apart (end e) = record { others = λ n h. refl; once = refl; behind = λ bs h. absurd (Memᴰ.not-nil h) }
apart (on {r = r} c (begins b) w) = apart_module (module_is r b.kind) (module_no_place r b.kind) c b.new (apart w)
apart (on {r = r} c (belongs b) w) = apart-same (inner-no_module r b.kind) (inner-no-place r b.kind) (apart w)
apart (on {r = r} c (mains b) w) = apart-same (main-no_module r b.kind) (main-no-place r b.kind) (apart w)
apart (on {r = r} c (enters b) w) = apart-place (place_is r b.kind) (apart w)

-- in the rest of the present place
pub first-distinct : {s : List ℕ} {p q : Passed} {at : ℕ} {rs : List (List ℕ)} → Walk s p at rs q → distinct (names_in (blocks_of (up_to_place rs))) ≡ true
first-distinct w = (apart w).once

all_apart : {s here : List ℕ} (rs : List (List ℕ)) → Apart s here rs → (bs : List (List ℕ)) → Memᴰ bs (map blocks_of (places_of rs)) → distinct (names_in bs) ≡ true
unfolding places_of
all_apart [] a bs h = absurd (Memᴰ.not-nil h)
all_apart (r ∷ rs) a bs h = go (is_of Place r) h
  where
    go : (b : Bool) → Memᴰ bs (map blocks_of (cond b (behind_places (r ∷ rs)) (up_to_place (r ∷ rs) ∷ behind_places (r ∷ rs)))) → distinct (names_in bs) ≡ true
    go true k = a.behind bs k
    go false k = ⊎_elim (λ (q : bs ≡ blocks_of (up_to_place (r ∷ rs))). rw q a.once) (λ k'. a.behind bs k') (Memᴰ.cases_cons k)

-- no name stands twice in one place
pub place-distinct : (s : List ℕ) (n : ℕ) (t : List ℕ) → check_set s ≡ Ok (record { count = n; starts = t }) → (bs : List (List ℕ)) → Memᴰ bs (places s) → distinct (names_in bs) ≡ true
unfolding places
place-distinct s n t e bs h = all_apart (records s) (apart (takes s n t e).walk) bs h
