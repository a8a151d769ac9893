-- Every refusal of `resolve` is true, over bytes.
use mathlib.Core.Path.{◌≡◌, refl, sym, ap, ◌∙◌, subst}
use Prim.Native.Nat.{ℕ, zero, suc, ◌+◌, ◌-◌, ◌<◌}
use native.Mathlib.Omega.{arith}
use mathlib.Core.Bool.{Bool, true, false, cond}
use mathlib.Core.Option.{some}
use mathlib.Core.List.Memᴰ
use mathlib.Core.List.{List, [], ◌∷◌, map}
use mathlib.Core.Logic.{⊎_elim, ◌⊎◌}
use lib.Dec.{ltb}
use lib.ListN.{length, get_or, take, drop}
use borrow.Author.Tests.{ltb-true}
use Rattle.records.specs.Bytes.{same_bytes}
use Rattle.records.specs.Name.{mem_name, name_of}
use Rattle.records.specs.Record.{records, bodies, bodies_in, body_of, is_of, nth_in, first_in, begins}
use Rattle.records.specs.Descriptor.{Descriptor, descriptor_of, requirement_of}
use Rattle.records.specs.Request.{request_of, is_permitted, check_inputs}
use Rattle.records.specs.Set.{block_at, modules, check_set, count_of, starts_in}
use Rattle.records.specs.declared.error.Input.TheVariants as Input
use Rattle.records.specs.declared.error.ModuleError.TheVariants.{OutputTooShort}
use Rattle.records.specs.declared.error.ModuleError.{ModuleError}
use Rattle.records.specs.Record.{Next}
use Rattle.records.specs.declared.record.Kind.{Kind}
use Rattle.records.specs.Set.{CountAnswer}
use Rattle.records.proofs.Logic.{clash, true≠false, or_cases}
use Rattle.records.proofs.bytes.Laws.{same-eq}
use Rattle.records.proofs.request.Taken.{inputs-taken}
use Rattle.records.proofs.request.Numbers.{check-number}
use Rattle.records.proofs.set.Blocks.{GoodSet, good-set}
use Rattle.resolution.specs.Lists.{Name, Mem}
use Rattle.resolution.specs.Loop.{Result, failed, done}
use Rattle.resolution.specs.Absent.{part_of}
use Rattle.resolution.specs.Cause.{Taken, Reached, from-root, from-requirement, AbsentModule, SharedPackage, Cause, is-checked, is-short, is-absent, no-base, is_shared}
use Rattle.resolution.specs.Closed.{Closed}
use Rattle.resolution.specs.Positions.{module_at}
use Rattle.resolution.specs.Resolution.{Refusal, State, QueuedBy, base, root, required, provider, find, index_of, module_not_found, java_base_not_found, split_package, ran_out, has_module}
use Rattle.resolution.specs.Resolution as Resolution
use Rattle.resolution.specs.Resolve.{body_start, start_in, records_at, absent_of, split_of, error_of, refused, told, answered, resolve, Outcome}
use Rattle.resolution.specs.Configuration.{word_count, pick_answer, with_words}
use Rattle.resolution.proofs.Absence.{Prefix, prefix-bytes, body-part, name-prefix, root-bytes, required-bytes}
use Rattle.resolution.proofs.Find.{find-mem, has-find}
use Rattle.resolution.proofs.Fuel.{never-out}
use Rattle.resolution.proofs.Accepted.{trivial}
use Rattle.resolution.proofs.Line.{Whatever}
use Rattle.resolution.proofs.Lists.{mem_name_in}
use Rattle.resolution.proofs.Positions.{find_at, index_in, index-visible, visible_in}
use Rattle.resolution.proofs.Refusals.{AbsentBy, SharedBy, Caused, refusal-caused}
use Rattle.resolution.proofs.Sets.{set-length, module_block}
use Rattle.std.specs.Prelude.{Ok, Err}

-- ---- the package of refusal 7

-- the first record of kind k that begins with a name of those in its bodies is one of them, wherever the records stand
record Nth (k : Kind) (n : Name) (rs : List (List ℕ)) : Type 0 where
  index : ℕ
  is : (at : ℕ) → first_in k (n ∷ []) at rs ≡ nth_in k index at rs
  name : name_of (get_or (bodies_in k rs) index []) ≡ n

-- one record more in front: of another kind, with the name, or without it
nth-other : (k : Kind) (n : Name) (r : List ℕ) (rs : List (List ℕ)) → is_of k r ≡ false → Nth k n rs → Nth k n (r ∷ rs)
unfolding first_in nth_in bodies_in
nth-other k n r rs e p = record { index = p.index; is = λ at. skipped p.index at (p.is (at + length r)); name = rw e p.name }
  where
    skipped : (i at : ℕ) → first_in k (n ∷ []) (at + length r) rs ≡ nth_in k i (at + length r) rs → first_in k (n ∷ []) at (r ∷ rs) ≡ nth_in k i at (r ∷ rs)
    skipped zero at h = rw e h
    skipped (suc i) at h = rw e h

nth_here : (k : Kind) (n : Name) (r : List ℕ) (rs : List (List ℕ)) → is_of k r ≡ true → same_bytes (name_of (body_of r)) n ≡ true → Nth k n (r ∷ rs)
unfolding first_in nth_in bodies_in begins
nth_here k n r rs e h = record { index = 0; is = λ at. rw (e, h); name = rw e (same-eq (name_of (body_of r)) n h) }

nth_later : (k : Kind) (n : Name) (r : List ℕ) (rs : List (List ℕ)) → is_of k r ≡ true → same_bytes (name_of (body_of r)) n ≡ false → Nth k n rs → Nth k n (r ∷ rs)
unfolding first_in nth_in bodies_in begins
nth_later k n r rs e h p = record { index = suc p.index; is = λ at. rw (e, h) (p.is (at + length r)); name = rw e p.name }

first-nth : (k : Kind) (n : Name) (rs : List (List ℕ)) → mem_name n (map name_of (bodies_in k rs)) ≡ true → Nth k n rs
unfolding bodies_in mem_name
first-nth k n [] h = true≠false h refl
first-nth k n (r ∷ rs) h = turned (is_of k r) (same_bytes (name_of (body_of r)) n) refl refl h (first-nth k n rs)
  where
    turned : (a b : Bool) → is_of k r ≡ a → same_bytes (name_of (body_of r)) n ≡ b
        → mem_name n (map name_of (cond a (body_of r ∷ bodies_in k rs) (bodies_in k rs))) ≡ true
        → (mem_name n (map name_of (bodies_in k rs)) ≡ true → Nth k n rs) → Nth k n (r ∷ rs)
    turned false b ea eb w below = nth-other k n r rs ea (below w)
    turned true true ea eb w below = nth_here k n r rs ea eb
    turned true false ea eb w below =
        nth_later k n r rs ea eb (below (or_cases (same_bytes (name_of (body_of r)) n) (mem_name n (map name_of (bodies_in k rs))) w (λ y. true≠false y eb) (λ y. y)))

-- of a module's packages
package_nth : (b : List ℕ) (p : Name) → mem_name p (descriptor_of b).packages ≡ true → Nth Kind.Package p (records b)
unfolding descriptor_of bodies
package_nth b p h = first-nth Kind.Package p (records b) h

package_name : (b : List ℕ) (p : Name) (n : Nth Kind.Package p (records b)) → name_of (get_or (bodies Kind.Package b) n.index []) ≡ p
unfolding bodies
package_name b p n = n.name

module _ (s : List ℕ) (m : ℕ) (t : List ℕ) (g : GoodSet s m t) (et : (starts_in (check_set s)) ≡ t) where
  -- the bytes told are the package
  package_bytes : (i : ℕ) (p : Name) → i < length (modules s) → mem_name p (module_at (modules s) i).packages ≡ true
      → take (length p) (drop (body_start (first_in Kind.Package (p ∷ []) (start_in s i) (records_at s i)) + 1) s) ≡ p
  unfolding start_in records_at
  package_bytes i p l h =
      let b : List ℕ = block_at s t i in
      let at : b ≡ take (get_or t (i + 1) 0 - get_or t i 0) (drop (get_or t i 0) s) = unfold block_at in refl in
      let said : mem_name p (descriptor_of b).packages ≡ true = subst (λ (d : Descriptor). mem_name p d.packages ≡ true) (module_block s m t g i (omega (arith, set-length s m t g))) h in
      let n : Nth Kind.Package p (records b) = package_nth b p said in
      let x : List ℕ = get_or (bodies Kind.Package b) n.index [] in
      let z : Prefix p (drop 1 x) = subst (λ (y : Name). Prefix y (drop 1 x)) (package_name b p n) (name-prefix x) in
      let w : Prefix p (drop (body_start (nth_in Kind.Package n.index (get_or t i 0) (records b)) + 1) s) = body-part Kind.Package n.index s b (get_or t i 0) (get_or t (i + 1) 0 - get_or t i 0) at p 1 z in
      let v : Prefix p (drop (body_start (first_in Kind.Package (p ∷ []) (get_or t i 0) (records b)) + 1) s) = subst (λ (y : Next). Prefix p (drop (body_start y + 1) s)) (sym (n.is (get_or t i 0))) w in
      prefix-bytes p (drop (body_start (first_in Kind.Package (p ∷ []) (get_or (starts_in (check_set s)) i 0) (records (block_at s (starts_in (check_set s)) i))) + 1) s)
      (subst (λ (y : List ℕ). Prefix p (drop (body_start (first_in Kind.Package (p ∷ []) (get_or y i 0) (records (block_at s y i))) + 1) s)) (sym et) v)

-- ---- each refusal by names, with its particulars

mem-at : {A : Type 0} (l : List A) (i : ℕ) (a : A) → i < length l → Mem (get_or l i a) l
mem-at [] i a h = absurd (omega arith)
mem-at (x ∷ l) zero a h = Memᴰ.head refl
mem-at (x ∷ l) (suc i) a h = Memᴰ.tail (mem-at l i a (omega arith))

module _ (s q : List ℕ) (k : ℕ) (h : count_of (check_inputs s q) ≡ Ok k) where
  abbrev t : List ℕ
  t = (starts_in (check_inputs s q))

  e : check_set s ≡ Ok (record { count = k; starts = t })
  e = inputs-taken s q k (check_inputs s q) refl h

  g : GoodSet s k t
  g = good-set s k t e

  et : (starts_in (check_set s)) ≡ t
  et = ap starts_in e

  both : Taken s q
  both = record { modules = k; is = h }

  -- of any closed set
  abbrev Always : ((Name → Type 0) → Type 0) → Type 1
  Always P = (C : Name → Type 0) → Closed (modules s) (request_of q) C → P C

  absent-cause : (ws : List ℕ) (n : Name) (p : QueuedBy) → Always (λ C. AbsentBy (modules s) (request_of q) C n p) → Cause s q ws (absent_of s q (length n) p)
  unfolding absent_of part_of
  absent-cause ws n p all = turned p all (all Whatever (trivial (modules s) (request_of q)))
    where
      turned : (p : QueuedBy) → Always (λ C. AbsentBy (modules s) (request_of q) C n p) → AbsentBy (modules s) (request_of q) Whatever n p → Cause s q ws (absent_of s q (length n) p)
      turned base all w = absurd w.stands
      turned (provider i) all w = absurd (true≠false w.stands w.absent)
      turned (root i) all w =
          is-absent Input.Request (body_start (nth_in Kind.Root i 0 (records q)) + 1) (length n) (subst (AbsentModule s q Input.Request) (sym (root-bytes q i n w.stands.1))
          record {
            taken = both;
            absent = w.absent;
            other = w.other;
            led = from-root record {
              root = subst (λ (x : Name). Mem x (request_of q).roots) w.stands.1 (mem-at (request_of q).roots i [] w.stands.0);
              permitted = ⊎_elim (λ y. y) (λ y. absurd y) w.wanted;
            };
          })
      turned (required m j) all w =
          is-absent Input.Set (body_start (nth_in Kind.Requires j (start_in s m) (records_at s m)) + 3) (length n) (subst (AbsentModule s q Input.Set) (sym (required-bytes s k t g et m j n (visible_in (modules s) m w.stands.visible) w.stands.name))
          record {
            taken = both;
            absent = w.absent;
            other = w.other;
            led = from-requirement record {
              at = m;
              requirer = record { visible = w.stands.visible; permitted = w.stands.permitted; inside = λ C c. (all C c).stands.reached };
              by = get_or (module_at (modules s) m).requires j (requirement_of []);
              requires = mem-at (module_at (modules s) m).requires j (requirement_of []) w.stands.within;
              name = w.stands.name;
              needed = ⊎_elim (λ y. true≠false y w.absent) (λ y. y) (subst (λ (x : Name). (has_module (modules s) x ≡ true) ⊎ ((get_or (module_at (modules s) m).requires j (requirement_of [])).static ≡ false)) w.stands.name w.stands.needed.1);
            };
          })

  -- the module that a name finds stands at its position, and is observable there
  module_is : (n : Name) (d : Descriptor) → find n (modules s) ≡ some d → module_at (modules s) (index_of n (modules s)) ≡ d
  module_is n d f = let z : some (module_at (modules s) (index_of n (modules s))) ≡ some d = sym (find_at n (modules s) (has-find n (modules s) d f)) ∙ f in cc

  name-is : (n : Name) (d : Descriptor) → find n (modules s) ≡ some d → (module_at (modules s) (index_of n (modules s))).name ≡ n
  name-is n d f = ap (λ (x : Descriptor). x.name) (module_is n d f) ∙ (find-mem n (modules s) d f).1

  reached-at : (n : Name) (d : Descriptor) → find n (modules s) ≡ some d → is_permitted (request_of q) n ≡ true → Always (λ C. C n) → Reached s q (index_of n (modules s))
  reached-at n d f p all = record {
    visible = index-visible n (modules s) (has-find n (modules s) d f);
    permitted = subst (λ (x : Name). is_permitted (request_of q) x ≡ true) (sym (name-is n d f)) p;
    inside = λ C c. subst C (sym (name-is n d f)) (all C c);
  }

  shared-cause : (ws : List ℕ) (p a b : Name) → Always (λ C. SharedBy (modules s) (request_of q) C p a b) → Cause s q ws (split_of s p (index_of a (modules s)) (index_of b (modules s)))
  unfolding split_of part_of
  shared-cause ws p a b all =
      is_shared (body_start (first_in Kind.Package (p ∷ []) (start_in s (index_of b (modules s))) (records_at s (index_of b (modules s)))) + 1) (length p) (index_of a (modules s)) (index_of b (modules s))
      (subst (λ (x : Name). SharedPackage s q x (index_of a (modules s)) (index_of b (modules s))) (sym told_is)
      record {
        taken = both;
        first = reached-at a w.owner w.owner_found w.owner_permitted (λ C c. (all C c).owner_reached);
        other = reached-at b w.second w.second_found w.second_permitted (λ C c. (all C c).second_reached);
        two = λ y. w.two (sym (name-is a w.owner w.owner_found) ∙ ap (λ (i : ℕ). (module_at (modules s) i).name) y ∙ name-is b w.second w.second_found);
        first_has = subst (λ (x : Descriptor). mem_name p x.packages ≡ true) (sym (module_is a w.owner w.owner_found)) w.owner_has;
        other_has = mine;
      })
    where
      w : SharedBy (modules s) (request_of q) Whatever p a b
      w = all Whatever (trivial (modules s) (request_of q))

      mine : mem_name p (module_at (modules s) (index_of b (modules s))).packages ≡ true
      mine = subst (λ (x : Descriptor). mem_name p x.packages ≡ true) (sym (module_is b w.second w.second_found)) (mem_name_in w.second_has)

      told_is : take (length p) (drop (body_start (first_in Kind.Package (p ∷ []) (start_in s (index_of b (modules s))) (records_at s (index_of b (modules s)))) + 1) s) ≡ p
      told_is = package_bytes s k t g et (index_of b (modules s)) p (index_in b (modules s) (has-find b (modules s) w.second w.second_found)) mine

  error_cause : (r : Refusal) → (r ≡ ran_out → ⊥) → Always (λ C. Caused (modules s) (request_of q) C r) → (ws : List ℕ) → Cause s q ws (error_of s q r)
  unfolding error_of
  error_cause (module_not_found n p) o all ws = absent-cause ws n p all
  error_cause java_base_not_found o all ws = no-base record { taken = both; absent = all Whatever (trivial (modules s) (request_of q)) }
  error_cause (split_package p a b) o all ws = shared-cause ws p a b all
  error_cause ran_out o all ws = absurd (o refl)

-- ---- the whole

-- what a refusal of `resolve` says is true
pub cause_true : (s q ws : List ℕ) (e : ModuleError) → (resolve s q ws).outcome ≡ Err e → Cause s q ws e
unfolding resolve told refused answered with_words
cause_true s q ws e h = turned (count_of (check_inputs s q)) refl h
  where
    same : (x : ModuleError) → ◌≡◌ {A = Outcome} (Err x) (Err e) → x ≡ e
    same x k = cc

    ended : (k : ℕ) → count_of (check_inputs s q) ≡ Ok k → (r : Result State Refusal) → Resolution.resolve (modules s) (request_of q) ≡ r
        → (told s q ws r).outcome ≡ Err e → Cause s q ws e
    ended k c (failed r) f w =
        subst (Cause s q ws) (same (error_of s q r) w)
        (error_cause s q k c r (λ o. never-out (modules s) (request_of q) (f ∙ ap failed o)) (λ C d. refusal-caused (modules s) (request_of q) C d r f) ws)
    ended k c (done st) f w = absurd (clash (cc))

    fits : (k : ℕ) → count_of (check_inputs s q) ≡ Ok k → (b : Bool) → ltb (length ws) word_count ≡ b
        → (answered s q ws (pick_answer b (Err (OutputTooShort word_count)) (Ok k))).outcome ≡ Err e → Cause s q ws e
    fits k c true l w = subst (Cause s q ws) (same (OutputTooShort word_count) w) (is-short record { taken = record { modules = k; is = c }; short = ltb-true (length ws) word_count l })
    fits k c false l w = ended k c (Resolution.resolve (modules s) (request_of q)) refl w

    turned : (a : CountAnswer) → count_of (check_inputs s q) ≡ a → (answered s q ws (with_words ws a)).outcome ≡ Err e → Cause s q ws e
    turned (Err x) c w =
        let y : x ≡ e = same x w in
        subst (Cause s q ws) y (is-checked x (check-number s q x c) c)
    turned (Ok k) c w = fits k c (ltb (length ws) word_count) refl w
