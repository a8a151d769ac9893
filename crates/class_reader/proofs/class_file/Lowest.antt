-- The first fault of a file is the lowest, and the answer tells it.
use Prim.Native.Nat.{ℕ, zero, suc, ◌+◌, ◌≤◌, ◌<◌}
use mathlib.Core.Path.{◌≡◌, refl, ◌∙◌}
use mathlib.Core.List.{List, [], ◌∷◌, ◌++◌}
use mathlib.Core.Bool.{Bool, true, false, cond, ◌&&◌}
use native.Mathlib.Omega.{arith}
use lib.ListN.{length, get_or}
use lib.Dec.{ltb, leb, eqb}
use borrow.Author.Tests.{ltb-true, ltb-false, leb-true, le-ltb, le-leb}
use Rattle.std.proofs.Common.{Result, Ok, Err}
use Rattle.std.specs.Option.{is_some}
use Rattle.records.specs.Bytes.{u16_at}
use Rattle.records.specs.declared.error.ModuleError.TheVariants.{DescriptorParseError}
use Rattle.records.specs.Jar.{Written}
use Rattle.records.proofs.Logic.{clash, and_left, and_right}
use Rattle.class_reader.specs.Pool.{pool_end, pool_of}
use Rattle.class_reader.specs.Attribute.{attribute_end, attribute_at, attribute_good, nothing_seen, see, fault_unless, end_faults, attribute_faults}
use Rattle.class_reader.specs.ClassFile.{head_good, is_module_info, fields_good, faults_behind, faults_from, faults, lowest, seen_behind, then_faults}
use Rattle.class_reader.specs.Walk.{walk_from}
use Rattle.class_reader.specs.declared.pool.Fault.{Fault}
use Rattle.class_reader.specs.declared.attribute.Seen.{Seen}
use Rattle.class_reader.specs.declared.attribute.Walked.{Walked}
use Rattle.class_reader.proofs.attribute.Laws.{end-far}
use Rattle.class_reader.proofs.attribute.Faults.{fault, StartsWith, walk-fault, walk_none, walk-seen}

-- ---- the lowest

-- the lower of two is one of them, and neither is below it
lower-first : (at x : ℕ) → cond (ltb x at) x at ≤ at
lower-first at x = go (ltb x at) refl
  where
    go : (b : Bool) → ltb x at ≡ b → cond b x at ≤ at
    go true e = omega (arith, ltb-true x at e)
    go false e = omega arith

lower-second : (at x : ℕ) → cond (ltb x at) x at ≤ x
lower-second at x = go (ltb x at) refl
  where
    go : (b : Bool) → ltb x at ≡ b → cond b x at ≤ x
    go true e = omega arith
    go false e = ltb-false x at e

lowest-first : (at : ℕ) (ats : List ℕ) → lowest at ats ≤ at
unfolding lowest
lowest-first at [] = omega arith
lowest-first at (x ∷ xs) = omega (arith, lower-first at x, lowest-first (cond (ltb x at) x at) xs)

-- none of the offsets is below the lowest
pub lowest-below : (at : ℕ) (ats : List ℕ) (i : ℕ) → i < length (at ∷ ats) → lowest at ats ≤ get_or (at ∷ ats) i 0
unfolding lowest
lowest-below at ats zero l = lowest-first at ats
lowest-below at [] (suc i) l = absurd (omega arith)
lowest-below at (x ∷ xs) (suc zero) l = omega (arith, lower-second at x, lowest-first (cond (ltb x at) x at) xs)
lowest-below at (x ∷ xs) (suc (suc i)) l = lowest-below (cond (ltb x at) x at) xs (suc i) (omega arith)

-- x is one of the list
pub record Among (x : ℕ) (l : List ℕ) : Type 0 where
  pub index : ℕ
  pub within : index < length l
  pub found : get_or l index 0 ≡ x

among_second : (x at y : ℕ) (xs : List ℕ) → Among x (y ∷ xs) → Among x (at ∷ y ∷ xs)
among_second x at y xs h = record { index = suc h.index; within = omega (arith, h.within); found = h.found }

among_first : (x at y : ℕ) (xs : List ℕ) → Among x (at ∷ xs) → Among x (at ∷ y ∷ xs)
among_first x at y xs h = go h.index h.within h.found
  where
    go : (i : ℕ) → i < length (at ∷ xs) → get_or (at ∷ xs) i 0 ≡ x → Among x (at ∷ y ∷ xs)
    go zero l e = record { index = 0; within = omega arith; found = e }
    go (suc i) l e = record { index = suc (suc i); within = omega arith; found = e }

-- the lowest is one of the offsets
pub lowest-among : (at : ℕ) (ats : List ℕ) → Among (lowest at ats) (at ∷ ats)
unfolding lowest
lowest-among at [] = record { index = 0; within = omega arith; found = refl }
lowest-among at (x ∷ xs) = go (ltb x at) (lowest-among (cond (ltb x at) x at) xs)
  where
    go : (b : Bool) → Among (lowest (cond b x at) xs) (cond b x at ∷ xs) → Among (lowest (cond b x at) xs) (at ∷ x ∷ xs)
    go true h = among_second (lowest x xs) at x xs h
    go false h = among_first (lowest at xs) at x xs h

-- ---- offsets that are not below b

unfoldable pub all_above : ℕ → List ℕ → Bool
all_above b [] = true
all_above b (x ∷ xs) = leb b x && all_above b xs

above_zero : (xs : List ℕ) → all_above 0 xs ≡ true
unfolding all_above
above_zero [] = refl
above_zero (x ∷ xs) = rw (le-leb 0 x (omega arith)) (above_zero xs)

above_lower : (a b : ℕ) (xs : List ℕ) → a ≤ b → all_above b xs ≡ true → all_above a xs ≡ true
unfolding all_above
above_lower a b [] l e = refl
above_lower a b (x ∷ xs) l e =
    let h : b ≤ x = leb-true b x (and_left (leb b x) (all_above b xs) e) in
    rw (le-leb a x (omega arith)) (above_lower a b xs l (and_right (leb b x) (all_above b xs) e))

above-unless : (b at : ℕ) (good : Bool) (xs : List ℕ) → b ≤ at → all_above b xs ≡ true → all_above b (fault_unless good at ++ xs) ≡ true
unfolding all_above fault_unless
above-unless b at true xs l e = e
above-unless b at false xs l e = rw (le-leb b at l) e

above-one : (b at : ℕ) (good : Bool) → b ≤ at → all_above b (fault_unless good at) ≡ true
unfolding all_above fault_unless
above-one b at true l = refl
above-one b at false l = rw (le-leb b at l)

-- a first offset that none of the others is below is the lowest
pub first-lowest : (at : ℕ) (ats : List ℕ) → all_above at ats ≡ true → lowest at ats ≡ at
unfolding lowest all_above
first-lowest at [] e = refl
first-lowest at (x ∷ xs) e =
    let l : at ≤ x = leb-true at x (and_left (leb at x) (all_above at xs) e) in
    rw (le-ltb x at l) (first-lowest at xs (and_right (leb at x) (all_above at xs) e))

pub then-first : (at : ℕ) (ats : List ℕ) (w : Written) → all_above at ats ≡ true → then_faults (at ∷ ats) w ≡ Err (DescriptorParseError at)
unfolding then_faults
then-first at ats w e = rw (first-lowest at ats e)

-- none of the others is below the first
unfoldable pub FirstLowest : List ℕ → Type 0
FirstLowest l = (at : ℕ) (ats : List ℕ) → l ≡ at ∷ ats → all_above at ats ≡ true

first_one : (x : ℕ) → FirstLowest (x ∷ [])
unfolding FirstLowest all_above
first_one x at ats e =
    let q : [] ≡ ats = cc in
    rw (← q)

first-none : FirstLowest []
unfolding FirstLowest
first-none at ats e = clash (cc)

first-here : (x : ℕ) (xs : List ℕ) → all_above x xs ≡ true → FirstLowest (x ∷ xs)
unfolding FirstLowest
first-here x xs h at ats e =
    let p : x ≡ at = cc in
    let q : xs ≡ ats = cc in
    rw (← p, ← q) h

first-unless : (at : ℕ) (good : Bool) (xs : List ℕ) → all_above at xs ≡ true → FirstLowest xs → FirstLowest (fault_unless good at ++ xs)
unfolding fault_unless
first-unless at true xs a h = h
first-unless at false xs a h = first-here at xs a

first-last : (at : ℕ) (good : Bool) → FirstLowest (fault_unless good at)
unfolding fault_unless
first-last at true = first-none
first-last at false = first_one at

-- ---- in the attributes

-- one attribute that ends at `end`, and the faults behind it
module _ (at end long : ℕ) (good : Bool) (xs : List ℕ) (l : at ≤ end) (h : end ≤ long → all_above end xs ≡ true) where
  behind-above : leb end long ≡ true → all_above at xs ≡ true
  behind-above e = above_lower at end xs l (h (leb-true end long e))

  step-above : all_above at (cond (leb end long) (fault_unless good at ++ xs) (at ∷ [])) ≡ true
  unfolding all_above
  step-above = go (leb end long) refl
    where
      go : (b : Bool) → leb end long ≡ b → all_above at (cond b (fault_unless good at ++ xs) (at ∷ [])) ≡ true
      go true e = above-unless at at good xs (omega arith) (behind-above e)
      go false e = rw (le-leb at at (omega arith))

  step-first : (end ≤ long → FirstLowest xs) → FirstLowest (cond (leb end long) (fault_unless good at ++ xs) (at ∷ []))
  step-first k = go (leb end long) refl
    where
      go : (b : Bool) → leb end long ≡ b → FirstLowest (cond b (fault_unless good at ++ xs) (at ∷ []))
      go true e = first-unless at good xs (behind-above e) (k (leb-true end long e))
      go false e = first_one at

module _ (f t : List ℕ) where
  end-above : (s : Seen) (at : ℕ) → at ≤ length f → all_above at (end_faults f s at) ≡ true
  unfolding end_faults
  end-above s at l =
      above-unless at at (eqb at (length f)) (fault_unless (is_some s.descriptor) (length f)) (omega arith)
      (above-one at (length f) (is_some s.descriptor) l)

  attributes_above : (n : ℕ) (s : Seen) (at : ℕ) → at ≤ length f → all_above at (attribute_faults f t n s at) ≡ true
  unfolding attribute_faults
  attributes_above zero s at l = end-above s at l
  attributes_above (suc n) s at l =
      step-above at (attribute_end f at) (length f) (attribute_good f t s at) (attribute_faults f t n (see (attribute_at f t at) at s) (attribute_end f at))
      (omega (arith, end-far f at)) (λ h. attributes_above n (see (attribute_at f t at) at s) (attribute_end f at) h)

  attributes_first : (n : ℕ) (s : Seen) (at : ℕ) → at ≤ length f → FirstLowest (attribute_faults f t n s at)
  unfolding attribute_faults end_faults
  attributes_first zero s at l =
      first-unless at (eqb at (length f)) (fault_unless (is_some s.descriptor) (length f)) (above-one at (length f) (is_some s.descriptor) l)
      (first-last (length f) (is_some s.descriptor))
  attributes_first (suc n) s at l =
      let s' : Seen = see (attribute_at f t at) at s in
      let end : ℕ = attribute_end f at in
      step-first at end (length f) (attribute_good f t s at) (attribute_faults f t n s' end) (omega (arith, end-far f at))
      (λ h. attributes_above n s' end h) (λ h. attributes_first n s' end h)

-- ---- in the file

-- the fields end in the file
fields-low : (f t : List ℕ) (at : ℕ) → fields_good f t at ≡ true → at + 14 ≤ length f
unfolding fields_good
fields-low f t at e =
    leb-true (at + 14) (length f)
    (and_left (leb (at + 14) (length f))
    (eqb (u16_at f at) 0x8000
    && (is_module_info f t (u16_at f (at + 2))
    && ((eqb (u16_at f (at + 4)) 0 && eqb (u16_at f (at + 6)) 0) && (eqb (u16_at f (at + 8)) 0 && eqb (u16_at f (at + 10)) 0)))) e)

behind-first : (f t : List ℕ) (at : ℕ) → FirstLowest (faults_behind f t at)
unfolding faults_behind
behind-first f t at = go (fields_good f t at) refl
  where
    go : (b : Bool) → fields_good f t at ≡ b → FirstLowest (cond b (attribute_faults f t (u16_at f (at + 12)) nothing_seen (at + 14)) (at ∷ []))
    go true e = attributes_first f t (u16_at f (at + 12)) nothing_seen (at + 14) (fields-low f t at e)
    go false e = first_one at

from_first : (f t : List ℕ) (p : Result ℕ Fault) → FirstLowest (faults_from f t p)
unfolding faults_from
from_first f t (Err x) = first_one x.at
from_first f t (Ok at) = behind-first f t at

faults-first : (f : List ℕ) → FirstLowest (faults f)
unfolding faults
faults-first f = first-unless 0 (head_good f) (faults_from f (pool_of f) (pool_end f)) (above_zero (faults_from f (pool_of f) (pool_end f))) (from_first f (pool_of f) (pool_end f))

-- the first fault of the file is the lowest
pub first-is-lowest : (f : List ℕ) (at : ℕ) (ats : List ℕ) → faults f ≡ at ∷ ats → lowest at ats ≡ at
unfolding FirstLowest
first-is-lowest f at ats e = first-lowest at ats (faults-first f at ats e)

-- ---- what the answer tells

pub head-bad : (f : List ℕ) (w : Written) → head_good f ≡ false → then_faults (faults f) w ≡ Err (DescriptorParseError 0)
unfolding faults fault_unless
head-bad f w e = rw e (then-first 0 (faults_from f (pool_of f) (pool_end f)) w (above_zero (faults_from f (pool_of f) (pool_end f))))

pub head_passed : (f : List ℕ) → head_good f ≡ true → faults f ≡ faults_from f (pool_of f) (pool_end f)
unfolding faults fault_unless
head_passed f e = rw e

pub pool-fault : (f t : List ℕ) (at : ℕ) (w : Written) → then_faults (faults_from f t (Err (record { at = at }))) w ≡ Err (DescriptorParseError at)
unfolding faults_from all_above
pool-fault f t at w = then-first at [] w refl

module _ (f t : List ℕ) (at : ℕ) where
  pub fields-fault : fields_good f t at ≡ false → faults_behind f t at ≡ at ∷ []
  unfolding faults_behind
  fields-fault e = rw e

  pub fields-bad : (w : Written) → fields_good f t at ≡ false → then_faults (faults_behind f t at) w ≡ Err (DescriptorParseError at)
  unfolding all_above
  fields-bad w e = rw (fields-fault e) (then-first at [] w refl)

  fields-passed : fields_good f t at ≡ true → faults_behind f t at ≡ attribute_faults f t (u16_at f (at + 12)) nothing_seen (at + 14)
  unfolding faults_behind
  fields-passed e = rw e

  pub behind-fault : (o : ℕ) (w : Written) → fields_good f t at ≡ true → walk_from f t (u16_at f (at + 12)) nothing_seen (at + 14) ≡ fault o
      → then_faults (faults_behind f t at) w ≡ Err (DescriptorParseError o)
  unfolding FirstLowest
  behind-fault o w e h =
      let b : StartsWith (attribute_faults f t (u16_at f (at + 12)) nothing_seen (at + 14)) o = walk-fault f t (u16_at f (at + 12)) nothing_seen (at + 14) o h in
      let q : faults_behind f t at ≡ o ∷ b.rest = fields-passed e ∙ b.starts in
      rw q (then-first o b.rest w (behind-first f t at o b.rest q))

  pub behind-found : (x : Walked) → fields_good f t at ≡ true → walk_from f t (u16_at f (at + 12)) nothing_seen (at + 14) ≡ Ok x → faults_behind f t at ≡ []
  behind-found x e h = fields-passed e ∙ walk_none f t (u16_at f (at + 12)) nothing_seen (at + 14) x h

  pub behind-seen : (x : Walked) → walk_from f t (u16_at f (at + 12)) nothing_seen (at + 14) ≡ Ok x → seen_behind f t at ≡ x.seen
  unfolding seen_behind
  behind-seen x h = walk-seen f t (u16_at f (at + 12)) nothing_seen (at + 14) x h
