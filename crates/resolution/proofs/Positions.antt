-- Positions: where a name stands in the set.
use mathlib.Core.Path.{◌≡◌, refl, sym, ap, ◌∙◌, subst}
use Prim.Native.Nat.{ℕ, zero, suc, ◌+◌, ◌<◌}
use native.Mathlib.Omega.{arith}
use native.Mathlib.Nat.{add-zero}
use mathlib.Core.Bool.{Bool, true, false, ◌||◌, cond}
use mathlib.Core.Option.{none, some}
use mathlib.Core.List.Memᴰ
use mathlib.Core.List.{List, [], ◌∷◌, map}
use lib.ListN.{length, get_or}
use lib.Dec.{eqb}
use borrow.Author.Tests.{eq-eqb, eqb-true}
use Rattle.records.proofs.bytes.Laws.{same-eq}
use Rattle.records.proofs.finder.Modules.{is_at_lem, at-is}
use Rattle.records.proofs.Logic.{true≠false}
use Rattle.records.specs.Bytes.{same_bytes}
use Rattle.records.specs.Descriptor.{Descriptor}
use Rattle.records.specs.Finder.{find_name, pick_found, is_first}
use Rattle.resolution.specs.Lists.{Mem, Name, any, first}
use Rattle.resolution.specs.Positions.{module_at, is_visible}
use Rattle.resolution.specs.Resolution.{find, has_module, index_of, names}
use Rattle.resolution.proofs.Find.{find-mem}
use Rattle.resolution.proofs.Lists.{→same}
use Rattle.std.specs.Prelude.{Some, None}

-- ---- the position of a name

pub index_in : (n : Name) (s : List Descriptor) → has_module s n ≡ true → index_of n s < length s
unfolding has_module any index_of
index_in n [] h = true≠false h refl
index_in n (m ∷ ms) h = turned (same_bytes m.name n) (index_in n ms) h
  where
    turned : (b : Bool) → (has_module ms n ≡ true → index_of n ms < length ms) → (b || has_module ms n) ≡ true
        → cond b 0 (suc (index_of n ms)) < suc (length ms)
    turned true below k = omega arith
    turned false below k = omega (arith, below k)

pub find_at : (n : Name) (s : List Descriptor) → has_module s n ≡ true → find n s ≡ some (module_at s (index_of n s))
unfolding has_module any find first index_of
find_at n [] h = true≠false h refl
find_at n (m ∷ ms) h = turned (same_bytes m.name n) (find_at n ms) h
  where
    turned : (b : Bool) → (has_module ms n ≡ true → find n ms ≡ some (module_at ms (index_of n ms))) → (b || has_module ms n) ≡ true
        → cond b (some m) (find n ms) ≡ some (module_at (m ∷ ms) (cond b 0 (suc (index_of n ms))))
    turned true below k = refl
    turned false below k = below k

pub find_none : (n : Name) (s : List Descriptor) → has_module s n ≡ false → find n s ≡ none
unfolding has_module any find first
find_none n [] h = refl
find_none n (m ∷ ms) h = turned (same_bytes m.name n) (find_none n ms) h
  where
    turned : (b : Bool) → (has_module ms n ≡ false → find n ms ≡ none) → (b || has_module ms n) ≡ false → cond b (some m) (find n ms) ≡ none
    turned true below k = true≠false refl k
    turned false below k = below k

-- lookup among the names, as the finder does it
pub find-name : (n : Name) (s : List Descriptor) (k : ℕ) → find_name (names s) n k ≡ pick_found (has_module s n) (Some (k + index_of n s)) None
unfolding find_name has_module any index_of
find-name n [] k = refl
find-name n (m ∷ ms) k = turned (same_bytes m.name n) (find-name n ms (suc k))
  where
    turned : (b : Bool) → find_name (names ms) n (suc k) ≡ pick_found (has_module ms n) (Some (suc k + index_of n ms)) None
        → pick_found b (Some k) (find_name (names ms) n (suc k)) ≡ pick_found (b || has_module ms n) (Some (k + cond b 0 (suc (index_of n ms)))) None
    turned true below = ap Some (sym (add-zero k))
    turned false below = let e : suc k + index_of n ms ≡ k + suc (index_of n ms) = omega arith in rw (below, e)

-- what the finder's answer says of a name
pub record Located (n : Name) (s : List Descriptor) (i : ℕ) : Type 0 where
  pub observable : has_module s n ≡ true
  pub within : i < length s
  pub is : find n s ≡ some (module_at s i)
  pub index : index_of n s ≡ i

pub located : (n : Name) (s : List Descriptor) (i : ℕ) → find_name (names s) n 0 ≡ Some i → Located n s i
located n s i e = turned (has_module s n) refl (sym (find-name n s 0) ∙ e)
  where
    turned : (b : Bool) → has_module s n ≡ b → pick_found b (Some (0 + index_of n s)) None ≡ Some i → Located n s i
    turned true h k =
        let y : 0 + index_of n s ≡ i = cc in
        let z : index_of n s ≡ i = omega arith in
        record { observable = h; within = subst (λ (x : ℕ). x < length s) z (index_in n s h); is = subst (λ (x : ℕ). find n s ≡ some (module_at s x)) z (find_at n s h); index = z }
    turned false h k = absurd (let z : ◌≡◌ {A = ℕ} 0 1 = cc in omega arith)

pub not_located : (n : Name) (s : List Descriptor) → find_name (names s) n 0 ≡ None → (has_module s n ≡ false) × (find n s ≡ none)
not_located n s e = turned (has_module s n) refl (sym (find-name n s 0) ∙ e)
  where
    turned : (b : Bool) → has_module s n ≡ b → pick_found b (Some (0 + index_of n s)) None ≡ None → (has_module s n ≡ false) × (find n s ≡ none)
    turned true h k = absurd (let z : ◌≡◌ {A = ℕ} 0 1 = cc in omega arith)
    turned false h k = (h, find_none n s h)

-- within a list, what stands for its end does not matter
pub get_or-any : {A : Type 0} (l : List A) (i : ℕ) (a b : A) → i < length l → get_or l i a ≡ get_or l i b
get_or-any [] i a b h = absurd (omega arith)
get_or-any (x ∷ l) zero a b h = refl
get_or-any (x ∷ l) (suc i) a b h = get_or-any l i a b (omega arith)

pub at_mem : (s : List Descriptor) (i : ℕ) → i < length s → Mem (module_at s i) s
at_mem [] i h = absurd (omega arith)
at_mem (m ∷ ms) zero h = Memᴰ.head refl
at_mem (m ∷ ms) (suc i) h = Memᴰ.tail (at_mem ms i (omega arith))

-- ---- a position that is not hidden

-- it is where its name is found
pub visible_located : (s : List Descriptor) (i : ℕ) → is_visible s i ≡ true → Located (module_at s i).name s i
unfolding is_visible is_first
visible_located s i v = located (module_at s i).name s i (is_at_lem (find_name (names s) (module_at s i).name 0) i v)

pub visible_in : (s : List Descriptor) (i : ℕ) → is_visible s i ≡ true → i < length s
visible_in s i v = (visible_located s i v).within

pub visible-found : (s : List Descriptor) (i : ℕ) → is_visible s i ≡ true → find (module_at s i).name s ≡ some (module_at s i)
visible-found s i v = (visible_located s i v).is

pub index_at : (s : List Descriptor) (i : ℕ) → is_visible s i ≡ true → index_of (module_at s i).name s ≡ i
index_at s i v = (visible_located s i v).index

-- and where a name is found, none is hidden
pub located_visible : (n : Name) (s : List Descriptor) (i : ℕ) → Located n s i → is_visible s i ≡ true
unfolding is_visible is_first
located_visible n s i l =
    let q : (module_at s i).name ≡ n = (find-mem n s (module_at s i) l.is).1 in
    let z : 0 + i ≡ i = omega arith in
    at-is (find_name (names s) (module_at s i).name 0) i (rw (q, find-name n s 0, l.observable, l.index, z))

-- the position of a name that is there
pub index-visible : (n : Name) (s : List Descriptor) → has_module s n ≡ true → is_visible s (index_of n s) ≡ true
index-visible n s h = located_visible n s (index_of n s) (record { observable = h; within = index_in n s h; is = find_at n s h; index = refl })

-- a name is among the modules at some positions just if its position is among the positions
pub has-at : (s : List Descriptor) (n : Name) → has_module s n ≡ true → (ps : List ℕ) → ((p : ℕ) → Mem p ps → is_visible s p ≡ true)
    → has_module (map (module_at s) ps) n ≡ any (eqb (index_of n s)) ps
unfolding has_module any
has-at s n l [] b = refl
has-at s n l (p ∷ ps) b = turned (same_bytes (module_at s p).name n) (eqb (index_of n s) p) refl refl (has-at s n l ps (λ x h. b x (Memᴰ.tail h)))
  where
    here : index_of (module_at s p).name s ≡ p
    here = index_at s p (b p (Memᴰ.head refl))

    turned : (x y : Bool) → same_bytes (module_at s p).name n ≡ x → eqb (index_of n s) p ≡ y
        → has_module (map (module_at s) ps) n ≡ any (eqb (index_of n s)) ps
        → (x || has_module (map (module_at s) ps) n) ≡ (y || any (eqb (index_of n s)) ps)
    turned true true e f below = refl
    turned false false e f below = below
    turned true false e f below =
        true≠false (eq-eqb (index_of n s) p (subst (λ (z : Name). index_of z s ≡ p) (same-eq (module_at s p).name n e) here)) f
    turned false true e f below =
        let z : index_of n s ≡ p = eqb-true (index_of n s) p f in
        let g : find n s ≡ some (module_at s p) = subst (λ (x : ℕ). find n s ≡ some (module_at s x)) z (find_at n s l) in
        true≠false (→same (sym (find-mem n s (module_at s p) g).1)) e
