-- Laws of lists and tests: the step between a test and a fact. Every test is `any p l` or `mem_name n l`; every fact is `Mem a l`.
use mathlib.Core.Path.{◌≡◌, refl, sym, ap, ◌∙◌, subst}
use mathlib.Core.Bool.{Bool, true, false, ◌&&◌, ◌||◌, cond}
use mathlib.Core.Option.{some}
use mathlib.Core.List.Memᴰ
use mathlib.Core.List.{List, [], ◌∷◌, ◌++◌, map, flat_map}
use mathlib.Core.Logic.{◌⊎◌, inl, inr, ⊎_elim}
use Rattle.records.specs.Bytes.{same_bytes}
use Rattle.records.specs.Name.{mem_name}
use Rattle.records.proofs.Logic.{clash, true≠false, by, and_left, and_right, and_both, or_left, or_right, or_cases}
use Rattle.records.proofs.bytes.Laws.{same-eq, same_refl}
use Rattle.resolution.specs.Lists.{Name, Mem, any, keep, first}

-- ---- tests

-- one test implies another. As a type of its own, so that the two tests are read off a proof of it
pub data Imp (a b : Bool) : Type 0 where
  imp : (a ≡ true → b ≡ true) → Imp a b

pub use_imp : {a b : Bool} → Imp a b → a ≡ true → b ≡ true
use_imp (imp f) = f

pub same_imp : (a : Bool) → Imp a a
same_imp a = imp (λ e. e)

pub and_imp : {a b c d : Bool} → Imp a c → Imp b d → Imp (a && b) (c && d)
and_imp {a} {b} (imp f) (imp g) = imp (λ e. and_both (f (and_left a b e)) (g (and_right a b e)))

pub or_imp : {a b c d : Bool} → Imp a c → Imp b d → Imp (a || b) (c || d)
or_imp {a} {b} {c} {d} (imp f) (imp g) = imp (λ e. or_cases a b e (λ h. or_left c d (f h)) (λ h. or_right c d (g h)))

-- ---- names

pub same→ : (a b : Name) → same_bytes b a ≡ true → a ≡ b
same→ a b e = sym (same-eq b a e)

pub →same : {a b : Name} → a ≡ b → same_bytes b a ≡ true
→same {a} e = subst (λ (c : Name). same_bytes c a ≡ true) e (same_refl a)

pub mem_name_in : {n : Name} {l : List Name} → Mem n l → mem_name n l ≡ true
unfolding mem_name
mem_name_in {n} (Memᴰ.head {x} {xs} e) = or_left (same_bytes x n) (mem_name n xs) (→same e)
mem_name_in {n} (Memᴰ.tail {x} {xs} m) = or_right (same_bytes x n) (mem_name n xs) (mem_name_in m)

pub mem_name-out : (n : Name) (l : List Name) → mem_name n l ≡ true → Mem n l
unfolding mem_name
mem_name-out n [] e = true≠false e refl
mem_name-out n (x ∷ xs) e = or_cases (same_bytes x n) (mem_name n xs) e (λ h. Memᴰ.head (same→ n x h)) (λ h. Memᴰ.tail (mem_name-out n xs h))

-- ---- lists

module _ {A : Type 0} (p : A → Bool) where
  pub any_in : {a : A} {l : List A} → Mem a l → p a ≡ true → any p l ≡ true
  unfolding any
  any_in (Memᴰ.head {x} {xs} e) h = or_left (p x) (any p xs) (subst (λ (x : A). p x ≡ true) e h)
  any_in (Memᴰ.tail {x} {xs} m) h = or_right (p x) (any p xs) (any_in m h)

  pub any_out : (l : List A) → any p l ≡ true → (a : A) × Mem a l × (p a ≡ true)
  unfolding any
  any_out [] e = true≠false e refl
  any_out (x ∷ xs) e =
      or_cases (p x) (any p xs) e (λ h. (x, Memᴰ.head refl, h)) (λ h. let r = any_out xs h in (r.0, Memᴰ.tail r.1, r.2))

  pub any-no : {a : A} {l : List A} → any p l ≡ false → Mem a l → p a ≡ false
  any-no {a} e m = by (p a) (λ h. true≠false (any_in m h) e) (λ h. h)

  pub keep_in : {a : A} {l : List A} → Mem a l → p a ≡ true → Mem a (keep p l)
  unfolding keep
  keep_in {a} (Memᴰ.head {x} {xs} e) h =
      subst (λ (b : Bool). Mem a (cond b (x ∷ keep p xs) (keep p xs))) (sym (subst (λ (y : A). p y ≡ true) e h)) (Memᴰ.head e)
  keep_in {a} (Memᴰ.tail {x} {xs} m) h = go (p x) (keep_in m h)
    where
      go : (b : Bool) → Mem a (keep p xs) → Mem a (cond b (x ∷ keep p xs) (keep p xs))
      go true k = Memᴰ.tail k
      go false k = k

  pub keep_out : (l : List A) {a : A} → Mem a (keep p l) → Mem a l × (p a ≡ true)
  unfolding keep
  keep_out [] m = absurd (Memᴰ.not-nil m)
  keep_out (x ∷ xs) {a} m = go (p x) refl (λ (k : Mem a (keep p xs)). keep_out xs k) m
    where
      up : Mem a xs × (p a ≡ true) → Mem a (x ∷ xs) × (p a ≡ true)
      up r = (Memᴰ.tail r.0, r.1)

      go : (b : Bool) → p x ≡ b → (Mem a (keep p xs) → Mem a xs × (p a ≡ true)) → Mem a (cond b (x ∷ keep p xs) (keep p xs))
          → Mem a (x ∷ xs) × (p a ≡ true)
      go true e below k = ⊎_elim (λ (q : a ≡ x). (Memᴰ.head q, ap p q ∙ e)) (λ q. up (below q)) (Memᴰ.cases_cons k)
      go false e below k = up (below k)

  pub first_out : (l : List A) {a : A} → first p l ≡ some a → Mem a l × (p a ≡ true)
  unfolding first
  first_out [] e = clash (cc)
  first_out (x ∷ xs) {a} e = go (p x) refl (λ (h : first p xs ≡ some a). first_out xs h) e
    where
      go : (b : Bool) → p x ≡ b → (first p xs ≡ some a → Mem a xs × (p a ≡ true)) → cond b (some x) (first p xs) ≡ some a
          → Mem a (x ∷ xs) × (p a ≡ true)
      go true q below k = let same : a ≡ x = cc in (Memᴰ.head same, ap p same ∙ q)
      go false q below k = let r = below k in (Memᴰ.tail r.0, r.1)

  pub first_in : {a : A} {l : List A} → Mem a l → p a ≡ true → (b : A) × (first p l ≡ some b)
  unfolding first
  first_in {a} (Memᴰ.head {x} {xs} e) h = (x, rw (subst (λ (y : A). p y ≡ true) e h))
  first_in {a} (Memᴰ.tail {x} {xs} m) h = go (p x) (first_in m h)
    where
      go : (c : Bool) → (b : A) × (first p xs ≡ some b) → (b : A) × (cond c (some x) (first p xs) ≡ some b)
      go true r = (x, refl)
      go false r = r

-- a test of a list goes over to a longer one
pub any-more : {A : Type 0} (p : A → Bool) (l₁ l₂ : List A) → ((a : A) → Mem a l₁ → Mem a l₂) → any p l₁ ≡ true → any p l₂ ≡ true
any-more p l₁ l₂ f h = let r = any_out p l₁ h in any_in p (f r.0 r.1) r.2

pub map-out : {A B : Type 0} (f : A → B) (l : List A) {b : B} → Mem b (map f l) → (a : A) × Mem a l × (b ≡ f a)
map-out f [] m = absurd (Memᴰ.not-nil m)
map-out {A} f (x ∷ xs) {b} m = turned (λ (k : Mem b (map f xs)). map-out f xs k) (Memᴰ.cases_cons m)
  where
    turned : (Mem b (map f xs) → (a : A) × Mem a xs × (b ≡ f a)) → (b ≡ f x) ⊎ Mem b (map f xs) → (a : A) × Mem a (x ∷ xs) × (b ≡ f a)
    turned below (inl e) = (x, Memᴰ.head refl, e)
    turned below (inr k) = let r = below k in (r.0, Memᴰ.tail r.1, r.2)

pub map_in : {A B : Type 0} (f : A → B) {a : A} {l : List A} → Mem a l → Mem (f a) (map f l)
map_in f (Memᴰ.head e) = Memᴰ.head (ap f e)
map_in f (Memᴰ.tail m) = Memᴰ.tail (map_in f m)

pub map-append : {A B : Type 0} (f : A → B) (a b : List A) → map f (a ++ b) ≡ map f a ++ map f b
map-append f [] b = refl
map-append f (x ∷ xs) b = ap (λ (l : List _). f x ∷ l) (map-append f xs b)

pub flat_in : {A B : Type 0} (f : A → List B) {a : A} {b : B} {l : List A} → Mem a l → Mem b (f a) → Mem b (flat_map f l)
unfolding flat_map
flat_in {A} {B} f {b} (Memᴰ.head {x} {xs} e) h = Memᴰ.append_left (flat_map f xs) (subst (λ (z : A). Mem b (f z)) e h)
flat_in f (Memᴰ.tail {x} {xs} m) h = Memᴰ.append_right (f x) (flat_in f m h)

pub flat_out : {A B : Type 0} (f : A → List B) (l : List A) {b : B} → Mem b (flat_map f l) → (a : A) × Mem a l × Mem b (f a)
unfolding flat_map
flat_out f [] m = absurd (Memᴰ.not-nil m)
flat_out {A} f (x ∷ xs) {b} m = turned (λ (k : Mem b (flat_map f xs)). flat_out f xs k) (Memᴰ.append_cases (f x) m)
  where
    turned : (Mem b (flat_map f xs) → (a : A) × Mem a xs × Mem b (f a)) → Mem b (f x) ⊎ Mem b (flat_map f xs) → (a : A) × Mem a (x ∷ xs) × Mem b (f a)
    turned below (inl k) = (x, Memᴰ.head refl, k)
    turned below (inr k) = let r = below k in (r.0, Memᴰ.tail r.1, r.2)
