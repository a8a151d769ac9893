-- The name derived from a jar's name: how long it is at most, and what each return of the derivation shows.
use Prim.Native.Nat.{ℕ, suc, ◌-◌, ◌≤◌, ◌<◌}
use mathlib.Core.Path.{◌≡◌, refl, sym, ◌∙◌, ap}
use mathlib.Core.List.{List, [], ◌∷◌}
use mathlib.Core.Bool.{Bool, true, false, cond, or-true}
use native.Mathlib.Omega.{arith}
use lib.ListN.{length, take, drop, replicate, length-take}
use lib.Seq.{take-append_seam}
use lib.Dec.{eqb}
use borrow.Author.Tests.{eq-eqb, ne_eqb, lt-ltb, le-ltb}
use Rattle.records.proofs.automatic.Dots.{joined, begun, trimmed-begun}
use Rattle.records.specs.Bytes.{same_bytes}
use Rattle.records.specs.Name.{is_empty}
use Rattle.records.specs.Automatic.{is_alphanumeric, has_byte, after_last, file_name, dot_jar, without_jar, starts_version, has_version, without_version, dotted, trimmed, derived_name, is_module_name, pick_named, validated, derived, text_of, then_text, derived_text}
use Rattle.records.specs.declared.automatic.Text.{Text}
use Rattle.records.specs.Automatic.{Derived}
use Rattle.records.specs.declared.error.ModuleError.{ModuleError}
use Rattle.records.specs.declared.error.ModuleError.TheVariants.{TooLarge, InvalidAutomaticModuleName, InvalidModuleName}
use Rattle.std.specs.Prelude.{Ok, Err}

-- ---- lengths

-- one of two that are no longer than n
pick-length : (t : Bool) (a b : List ℕ) (n : ℕ) → length a ≤ n → length b ≤ n → length (cond t a b) ≤ n
pick-length true a b n p q = p
pick-length false a b n p q = q

after-length : (c : ℕ) (s : List ℕ) → length (after_last c s) ≤ length s
unfolding after_last
after-length c [] = omega arith
after-length c (x ∷ xs) =
    let h : length (after_last c xs) ≤ length xs = after-length c xs in
    pick-length (has_byte c xs) (after_last c xs) (cond (eqb x c) xs (x ∷ xs)) (suc (length xs)) (omega arith)
    (pick-length (eqb x c) xs (x ∷ xs) (suc (length xs)) (omega arith) (omega arith))

jar_length : (s : List ℕ) → length (without_jar s) ≤ length s
unfolding without_jar
jar_length s =
    pick-length (same_bytes (drop (length s - 4) s) dot_jar) (take (length s - 4) s) s (length s) (omega (arith, length-take (length s - 4) s)) (omega arith)

version-length : (s : List ℕ) → length (without_version s) ≤ length s
unfolding without_version
version-length [] = omega arith
version-length (x ∷ xs) =
    let h : length (without_version xs) ≤ length xs = version-length xs in
    pick-length (has_version xs) (x ∷ without_version xs) (cond (starts_version (x ∷ xs)) [] (x ∷ xs)) (suc (length xs)) (omega arith)
    (pick-length (starts_version (x ∷ xs)) [] (x ∷ xs) (suc (length xs)) (omega arith) (omega arith))

joined_length : (s : List ℕ) → (length (joined false s) ≤ length s) × (length (joined true s) ≤ suc (length s))
unfolding joined
joined_length [] = (omega arith, omega arith)
joined_length (x ∷ xs) =
    let h : (length (joined false xs) ≤ length xs) × (length (joined true xs) ≤ suc (length xs)) = joined_length xs in (
      pick-length (is_alphanumeric x) (x ∷ joined false xs) (joined true xs) (suc (length xs)) (omega arith) (omega arith),
      pick-length (is_alphanumeric x) (46 ∷ x ∷ joined false xs) (joined true xs) (suc (suc (length xs))) (omega arith) (omega arith),
    )

begun-length : (s : List ℕ) → length (begun s) ≤ length s
unfolding begun
begun-length [] = omega arith
begun-length (x ∷ xs) =
    let h : length (begun xs) ≤ length xs = begun-length xs in
    pick-length (is_alphanumeric x) (x ∷ joined false xs) (begun xs) (suc (length xs)) (omega (arith, (joined_length xs).0)) (omega arith)

-- without its version the base is no longer than the jar's name
base-length : (jar : List ℕ) → length (without_version (without_jar (file_name jar))) ≤ length jar
unfolding file_name
base-length jar = omega (arith, version-length (without_jar (after_last 47 jar)), jar_length (after_last 47 jar), after-length 47 jar)

pub derived-name-length : (jar : List ℕ) → length (derived_name jar) ≤ length jar
unfolding derived_name
derived-name-length jar =
    let v : List ℕ = without_version (without_jar (file_name jar)) in
    omega (arith, ap length (trimmed-begun v), begun-length v, base-length jar)

-- ---- the answer

pub text-len : (n : List ℕ) → (text_of n).len ≡ length n
unfolding text_of
text-len n = refl

pub text-take : (n : List ℕ) → take (text_of n).len (text_of n).bytes ≡ n
unfolding text_of
text-take n = take-append_seam n (replicate (255 - length n) 0)

derived-empty : (jar : List ℕ) → length (without_jar (file_name jar)) ≡ 0 → derived jar ≡ Err InvalidAutomaticModuleName
unfolding derived is_empty
derived-empty jar e = rw (eq-eqb (length (without_jar (file_name jar))) 0 e)

derived-none : (jar : List ℕ) → length (derived_name jar) ≡ 0 → derived jar ≡ Err InvalidAutomaticModuleName
unfolding derived is_empty
derived-none jar e = rw (eq-eqb (length (derived_name jar)) 0 e, or-true (eqb (length (without_jar (file_name jar))) 0))

derived-some : (jar : List ℕ) → (length (without_jar (file_name jar)) ≡ 0 → ⊥) → (length (derived_name jar) ≡ 0 → ⊥)
    → derived jar ≡ pick_named (is_module_name (derived_name jar)) (Ok tt) (Err InvalidModuleName)
unfolding derived is_empty validated
derived-some jar b n = rw (ne_eqb (length (without_jar (file_name jar))) 0 b, ne_eqb (length (derived_name jar)) 0 n)

-- a refusal, and a name
refused-told : (jar : List ℕ) (e : ModuleError) (r : Derived) → length jar ≤ 255 → derived jar ≡ Err e → r ≡ Err e → r ≡ derived_text jar
unfolding derived_text then_text
refused-told jar e r l d er = er ∙ rw (le-ltb 255 (length jar) l, d)

valid-told : (jar : List ℕ) (t : Text) → length jar ≤ 255 → derived jar ≡ Ok tt → t ≡ text_of (derived_name jar) → Ok t ≡ derived_text jar
unfolding derived_text then_text
valid-told jar t l d et = rw (le-ltb 255 (length jar) l, d, et)

-- ---- the returns

pub derive_long : (jar : List ℕ) (r : Derived) → 255 < length jar → r ≡ Err (TooLarge 0) → r ≡ derived_text jar
unfolding derived_text
derive_long jar r l er = er ∙ rw (lt-ltb 255 (length jar) l)

module _ (jar file base : List ℕ) (l : length jar ≤ 255) (ef : file ≡ file_name jar) (eb : base ≡ without_jar file) where
  base-is : base ≡ without_jar (file_name jar)
  base-is = cc

  pub derive_empty : (r : Derived) → length base ≡ 0 → r ≡ Err InvalidAutomaticModuleName → r ≡ derived_text jar
  derive_empty r e er = refused-told jar InvalidAutomaticModuleName r l (derived-empty jar (sym (ap length base-is) ∙ e)) er

  module _ (cut : List ℕ) (ec : cut ≡ without_version base) where
    pub derive_short : length cut ≤ 255
    derive_short = let c : cut ≡ without_version (without_jar (file_name jar)) = cc in omega (arith, ap length c, base-length jar)

    module _ (t : Text) (et : t ≡ text_of (trimmed (dotted cut))) where
      text-is : t ≡ text_of (derived_name jar)
      unfolding derived_name
      text-is = cc

      len_is : t.len ≡ length (derived_name jar)
      len_is = ap (λ (u : Text). u.len) text-is ∙ text-len (derived_name jar)

      pub derive_none : (r : Derived) → t.len ≡ 0 → r ≡ Err InvalidAutomaticModuleName → r ≡ derived_text jar
      derive_none r e er = refused-told jar InvalidAutomaticModuleName r l (derived-none jar (sym len_is ∙ e)) er

      module _ (m : List ℕ) (q : Bool) (em : m ≡ take t.len t.bytes) (eq : q ≡ is_module_name m)
          (nb : length base ≡ 0 → ⊥) (nt : t.len ≡ 0 → ⊥) where
        name_is : m ≡ derived_name jar
        name_is = em ∙ ap (λ (u : Text). take u.len u.bytes) text-is ∙ text-take (derived_name jar)

        answer-is : derived jar ≡ pick_named q (Ok tt) (Err InvalidModuleName)
        answer-is =
            derived-some jar (λ e. nb (ap length base-is ∙ e)) (λ e. nt (len_is ∙ e))
            ∙ ap (λ (b : Bool). pick_named b (Ok tt) (Err InvalidModuleName)) (sym (eq ∙ ap is_module_name name_is))

        pub derive_valid : q ≡ true → Ok t ≡ derived_text jar
        derive_valid e = valid-told jar t l (answer-is ∙ rw e) text-is

        pub derive_invalid : (r : Derived) → q ≡ false → r ≡ Err InvalidModuleName → r ≡ derived_text jar
        derive_invalid r e er = refused-told jar InvalidModuleName r l (answer-is ∙ rw e) er

pub ruleset derive_laws = (derive_long, derive_empty, derive_short, derive_none, derive_valid, derive_invalid)
