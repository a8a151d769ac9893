-- Refusal 5: the bytes handed back are the absent name, and no module of the set has it.
use mathlib.Core.Path.{◌≡◌, refl, sym, ap, ◌∙◌, subst}
use Prim.Native.Nat.{ℕ, zero, suc, ◌+◌, ◌-◌, ◌≤◌, ◌<◌}
use native.Mathlib.Omega.{arith}
use native.Mathlib.Nat.{add-zero}
use mathlib.Core.Bool.{Bool, true, false}
use mathlib.Core.List.{List, [], ◌∷◌}
use lib.ListN.{length, get_or, take, drop, get_or-map}
use lib.Seq.{drop-drop, drop-nil, take-nil, take-length}
use Rattle.records.specs.Name.{name_of}
use Rattle.records.specs.Record.{records, bodies, body_of, is_of, nth_in, nth_of, pick_next}
use Rattle.records.specs.Descriptor.{Requirement, Descriptor, requirement_of, descriptor_of}
use Rattle.records.specs.Request.{request_of, check_inputs}
use Rattle.records.specs.Set.{block_at, modules, check_set, count_of, starts_in}
use Rattle.records.specs.Record.{Next}
use Rattle.records.specs.declared.record.Kind.{Kind}
use Rattle.records.specs.Set.{CountAnswer}
use Rattle.records.proofs.Logic.{true≠false}
use Rattle.records.proofs.record.Bodies.{nth-body, nth-nothing}
use Rattle.records.proofs.set.Blocks.{GoodSet, good-set}
use Rattle.resolution.specs.Lists.{Name}
use Rattle.resolution.specs.Loop.{Result, failed}
use Rattle.resolution.specs.Positions.{module_at}
use Rattle.resolution.specs.Resolution.{QueuedBy, Refusal, State, base, module_not_found, provider, required, root}
use Rattle.resolution.specs.Resolution as Resolution
use Rattle.resolution.specs.Resolve.{body_start, start_in, absent_of, error_of, refused, told, answered, resolve, records_at}
use Rattle.resolution.specs.Configuration.{word_count}
use Rattle.resolution.proofs.ConfigurationWords.{with_enough}
use Rattle.resolution.specs.Absent.{part_of, absent_in, absent_name}
use Rattle.resolution.proofs.Accepted.{trivial}
use Rattle.resolution.proofs.Line.{Whatever}
use Rattle.resolution.proofs.Positions.{visible_in}
use Rattle.resolution.proofs.Refusals.{AbsentBy, refusal-caused}
use Rattle.resolution.proofs.Sets.{set-length, module_block}
use Rattle.records.proofs.request.Taken.{inputs-taken}
use Rattle.std.specs.Prelude.{Some, None, Ok, Err}

-- ---- a name in a record, as a part of the whole

-- n is the front of y
pub record Prefix (n y : List ℕ) : Type 0 where
  size : ℕ
  is : n ≡ take size y

take-front : (n : ℕ) (l : List ℕ) → take (length (take n l)) l ≡ take n l
take-front zero l = refl
take-front (suc n) [] = refl
take-front (suc n) (x ∷ l) = ap {B = List ℕ} (λ r. x ∷ r) (take-front n l)

pub prefix-bytes : (n y : List ℕ) → Prefix n y → take (length n) y ≡ n
prefix-bytes n y h = subst (λ (z : List ℕ). take (length z) y ≡ z) (sym h.is) (take-front h.size y)

take-of-take : (m k : ℕ) (y : List ℕ) → Prefix (take m (take k y)) y
take-of-take zero k y = record { size = 0; is = refl }
take-of-take (suc m) zero y = record { size = 0; is = refl }
take-of-take (suc m) (suc k) [] = record { size = 0; is = refl }
take-of-take (suc m) (suc k) (x ∷ y) = let r = take-of-take m k y in record { size = suc r.size; is = ap {B = List ℕ} (λ l. x ∷ l) r.is }

drop_of_take : (c k : ℕ) (y : List ℕ) → Prefix (drop c (take k y)) (drop c y)
drop_of_take zero k y = record { size = k; is = refl }
drop_of_take (suc c) zero y = record { size = 0; is = refl }
drop_of_take (suc c) (suc k) [] = record { size = 0; is = refl }
drop_of_take (suc c) (suc k) (x ∷ y) = drop_of_take c k y

prefix_in : (n : List ℕ) (c k : ℕ) (y : List ℕ) → Prefix n (drop c (take k y)) → Prefix n (drop c y)
prefix_in n c k y h =
    let d = drop_of_take c k y in
    let r = take-of-take h.size d.size (drop c y) in
    record { size = r.size; is = h.is ∙ ap (take h.size) d.is ∙ r.is }

prefix-nil : (n : List ℕ) (c : ℕ) (y : List ℕ) → Prefix n (drop c []) → Prefix n y
prefix-nil n c y h = record { size = 0; is = h.is ∙ ap (take h.size) (drop-nil c) ∙ take-nil h.size }

-- where record j stands, told from another offset
abbrev Shifted : ℕ → Next → Next → Type 0
Shifted off None r = r ≡ None
Shifted off (Some span) r = body_start r ≡ off + span.start

nth-shift : (k : Kind) (off : ℕ) (rs : List (List ℕ)) (j at : ℕ) → Shifted off (nth_in k j at rs) (nth_in k j (off + at) rs)
unfolding nth_in body_start
nth-shift k off [] j at = refl
nth-shift k off (r ∷ rs) zero at = turned (is_of k r) (nth-shift k off rs zero (at + length r))
  where
    turned : (b : Bool) → Shifted off (nth_in k zero (at + length r) rs) (nth_in k zero (off + (at + length r)) rs)
        → Shifted off (pick_next b (Some (record { start = at + 4; len = length (body_of r); next = record { at = at + length r } })) (nth_in k zero (at + length r) rs))
        (pick_next b (Some (record { start = off + at + 4; len = length (body_of r); next = record { at = off + at + length r } })) (nth_in k zero (off + at + length r) rs))
    turned true h = omega arith
    turned false h = let z : off + (at + length r) ≡ off + at + length r = omega arith in subst (λ (x : ℕ). Shifted off (nth_in k zero (at + length r) rs) (nth_in k zero x rs)) z h
nth-shift k off (r ∷ rs) (suc j) at = turned (is_of k r) (nth-shift k off rs j (at + length r)) (nth-shift k off rs (suc j) (at + length r))
  where
    turned : (b : Bool) → Shifted off (nth_in k j (at + length r) rs) (nth_in k j (off + (at + length r)) rs)
        → Shifted off (nth_in k (suc j) (at + length r) rs) (nth_in k (suc j) (off + (at + length r)) rs)
        → Shifted off (pick_next b (nth_in k j (at + length r) rs) (nth_in k (suc j) (at + length r) rs))
        (pick_next b (nth_in k j (off + at + length r) rs) (nth_in k (suc j) (off + at + length r) rs))
    turned true h w = let z : off + (at + length r) ≡ off + at + length r = omega arith in subst (λ (x : ℕ). Shifted off (nth_in k j (at + length r) rs) (nth_in k j x rs)) z h
    turned false h w = let z : off + (at + length r) ≡ off + at + length r = omega arith in subst (λ (x : ℕ). Shifted off (nth_in k (suc j) (at + length r) rs) (nth_in k (suc j) x rs)) z w

-- what stands c bytes into the body of record j of the part b of s is there in s
pub body-part : (k : Kind) (j : ℕ) (s b : List ℕ) (off len : ℕ) → b ≡ take len (drop off s) → (n : List ℕ) (c : ℕ) → Prefix n (drop c (get_or (bodies k b) j []))
    → Prefix n (drop (body_start (nth_in k j off (records b)) + c) s)
body-part k j s b off len eb n c h = turned (nth_in k j 0 (records b)) refl (subst (λ (x : ℕ). Shifted off (nth_in k j 0 (records b)) (nth_in k j x (records b))) (add-zero off) (nth-shift k off (records b) j 0))
  where
    turned : (r : Next) → r ≡ nth_in k j 0 (records b) → Shifted off r (nth_in k j off (records b)) → Prefix n (drop (body_start (nth_in k j off (records b)) + c) s)
    turned None e w =
        prefix-nil n c (drop (body_start (nth_in k j off (records b)) + c) s)
        (subst (λ (x : List ℕ). Prefix n (drop c x)) (sym (nth-nothing k b j None (unfold nth_of in e) refl)) h)
    turned (Some span) e w =
        let body : take span.len (drop span.start b) ≡ get_or (bodies k b) j [] = nth-body k b j (Some span) (unfold nth_of in e) span (take span.len (drop span.start b)) refl refl in
        let p : Prefix n (drop c (drop span.start b)) = prefix_in n c span.len (drop span.start b) (subst (λ (x : List ℕ). Prefix n (drop c x)) (sym body) h) in
        let p₂ : Prefix n (drop (span.start + c) (take len (drop off s))) = subst (λ (x : List ℕ). Prefix n (drop (span.start + c) x)) eb (subst (Prefix n) (drop-drop c span.start b) p) in
        let p₃ : Prefix n (drop (off + (span.start + c)) s) = subst (Prefix n) (drop-drop (span.start + c) off s) (prefix_in n (span.start + c) len (drop off s) p₂) in
        let z : off + (span.start + c) ≡ body_start (nth_in k j off (records b)) + c = omega (arith, w) in
        subst (λ (x : ℕ). Prefix n (drop x s)) z p₃

pub name-prefix : (b : List ℕ) → Prefix (name_of b) (drop 1 b)
unfolding name_of
name-prefix b = record { size = get_or b 0 0; is = refl }

-- ---- the absent name

-- an RT
pub root-bytes : (q : List ℕ) (i : ℕ) (n : Name) → get_or (request_of q).roots i [] ≡ n → take (length n) (drop (body_start (nth_in Kind.Root i 0 (records q)) + 1) q) ≡ n
unfolding request_of
root-bytes q i n e =
    let b : List ℕ = get_or (bodies Kind.Root q) i [] in
    let z : name_of b ≡ n = sym (get_or-map name_of (bodies Kind.Root q) i []) ∙ (unfold name_of in e) in
    prefix-bytes n (drop (body_start (nth_in Kind.Root i 0 (records q)) + 1) q)
    (body-part Kind.Root i q q 0 (length q) (sym (take-length q)) n 1 (subst (λ (x : List ℕ). Prefix x (drop 1 b)) z (name-prefix b)))

-- an RQ
requirement-at : (b : List ℕ) (j : ℕ) → (get_or (descriptor_of b).requires j (requirement_of [])).name ≡ name_of (drop 2 (get_or (bodies Kind.Requires b) j []))
unfolding descriptor_of requirement_of
requirement-at b j = ap (λ (r : Requirement). r.name) (get_or-map requirement_of (bodies Kind.Requires b) j [])

pub required-bytes : (s : List ℕ) (m : ℕ) (t : List ℕ) → GoodSet s m t → (starts_in (check_set s)) ≡ t → (p j : ℕ) (n : Name) → p < length (modules s)
    → (get_or (module_at (modules s) p).requires j (requirement_of [])).name ≡ n
    → take (length n) (drop (body_start (nth_in Kind.Requires j (start_in s p) (records_at s p)) + 3) s) ≡ n
unfolding start_in records_at
required-bytes s m t g et p j n l e =
    let b : List ℕ = block_at s t p in
    let at : b ≡ take (get_or t (p + 1) 0 - get_or t p 0) (drop (get_or t p 0) s) = unfold block_at in refl in
    let x : List ℕ = get_or (bodies Kind.Requires b) j [] in
    let z : name_of (drop 2 x) ≡ n = sym (requirement-at b j) ∙ ap (λ (d : Descriptor). (get_or d.requires j (requirement_of [])).name) (sym (module_block s m t g p (omega (arith, set-length s m t g)))) ∙ e in
    let w : Prefix n (drop 3 x) = subst (λ (y : List ℕ). Prefix y (drop 3 x)) z (subst (Prefix (name_of (drop 2 x))) (drop-drop 1 2 x) (name-prefix (drop 2 x))) in
    prefix-bytes n (drop (body_start (nth_in Kind.Requires j (get_or (starts_in (check_set s)) p 0) (records (block_at s (starts_in (check_set s)) p))) + 3) s)
    (subst (λ (y : List ℕ). Prefix n (drop (body_start (nth_in Kind.Requires j (get_or y p 0) (records (block_at s y p))) + 3) s)) (sym et)
    (body-part Kind.Requires j s b (get_or t p 0) (get_or t (p + 1) 0 - get_or t p 0) at n 3 w))

-- what is known of the name n of refusal 5, queued by the record at p
pub record AbsentName (s q ws : List ℕ) (n : Name) (p : QueuedBy) : Type 0 where
  -- the bytes handed back are the name
  pub bytes : absent_name s q (resolve s q ws).outcome ≡ n
  -- it is the name in an RT of the request or in an RQ of the set, and no module of the set has it
  pub caused : AbsentBy (modules s) (request_of q) Whatever n p

outcome-is : (s q ws : List ℕ) (k : ℕ) (n : Name) (p : QueuedBy) → count_of (check_inputs s q) ≡ Ok k → word_count ≤ length ws → Resolution.resolve (modules s) (request_of q) ≡ failed (module_not_found n p)
    → (resolve s q ws).outcome ≡ Err (absent_of s q (length n) p)
unfolding resolve answered told refused error_of
outcome-is s q ws k n p h l e =
    ap (λ (a : CountAnswer). (answered s q ws a).outcome) (with_enough ws (count_of (check_inputs s q)) k h l) ∙ ap (λ (r : Result State Refusal). (told s q ws r).outcome) e

pub absent-name-is : (s q ws : List ℕ) (k : ℕ) (n : Name) (p : QueuedBy) → count_of (check_inputs s q) ≡ Ok k → word_count ≤ length ws
    → Resolution.resolve (modules s) (request_of q) ≡ failed (module_not_found n p) → AbsentName s q ws n p
absent-name-is s q ws k n p h l e = turned p (refusal-caused (modules s) (request_of q) Whatever (trivial (modules s) (request_of q)) (module_not_found n p) e) (ap (absent_name s q) (outcome-is s q ws k n p h l e))
  where
    c : check_set s ≡ Ok (record { count = k; starts = (starts_in (check_inputs s q)) })
    c = inputs-taken s q k (check_inputs s q) refl h

    turned : (o : QueuedBy) → AbsentBy (modules s) (request_of q) Whatever n o → absent_name s q (resolve s q ws).outcome ≡ absent_name s q (Err (absent_of s q (length n) o)) → AbsentName s q ws n o
    turned base w z = absurd w.stands
    turned (provider i) w z = true≠false w.stands w.absent
    turned (root i) w z = record { bytes = z ∙ (unfold absent_name absent_in part_of absent_of in root-bytes q i n w.stands.1); caused = w }
    turned (required m j) w z = record {
      bytes = z ∙ (unfold absent_name absent_in part_of absent_of in required-bytes s k (starts_in (check_inputs s q)) (good-set s k (starts_in (check_inputs s q)) c) (ap starts_in c) m j n (visible_in (modules s) m w.stands.visible) w.stands.name);
      caused = w;
    }
