-- What each return and turn of the steps up to the version's cut shows.
use Prim.Native.Nat.{ℕ, zero, suc, ◌+◌, ◌-◌, ◌≤◌, ◌<◌}
use mathlib.Core.Path.{◌≡◌, refl, sym, ◌∙◌, ap}
use mathlib.Core.List.{List, [], ◌∷◌}
use mathlib.Core.Bool.{Bool, true, false, cond, ◌||◌}
use native.Mathlib.Omega.{arith}
use native.Mathlib.Nat.{le_of_suc-le-suc, not-suc-le-zero, add-zero}
use native.Mathlib.Numerals.{add-one}
use lib.ListN.{length, get_or, take, drop}
use lib.Seq.{drop-cons, drop-length, get_or-drop}
use lib.Dec.{eqb}
use borrow.Author.Tests.{eq-eqb, ne_eqb}
use Rattle.records.proofs.bytes.Laws.{same_is}
use lib.Pointwise.{pointwise}
use denote.Ref.{Bor}
use Rattle.std.specs.Option.{MatchOption, unwrap_or}
use Rattle.std.specs.Prelude.{Option, Some, None}
use Rattle.records.specs.Automatic.{is_digit, has_byte, after_last, file_name, dot_jar, without_jar, starts_version, has_version, without_version}

-- ---- what follows the last of a byte

-- a byte that stands at j is there
has-at : (c : ℕ) (s : List ℕ) (j : ℕ) → j < length s → get_or s j 0 ≡ c → has_byte c s ≡ true
unfolding has_byte
has-at c [] j l e = absurd (not-suc-le-zero l)
has-at c (x ∷ xs) zero l e = rw (eq-eqb x c e)
has-at c (x ∷ xs) (suc j) l e = go (eqb x c) (has-at c xs j (le_of_suc-le-suc l) e)
  where
    go : (t : Bool) → has_byte c xs ≡ true → (t || has_byte c xs) ≡ true
    go true h = refl
    go false h = h

last_at : (c : ℕ) (s : List ℕ) (j : ℕ) → j < length s → get_or s j 0 ≡ c → has_byte c (drop (suc j) s) ≡ false → after_last c s ≡ drop (suc j) s
unfolding after_last
last_at c [] j l e h = absurd (not-suc-le-zero l)
last_at c (x ∷ xs) zero l e h = rw (h, eq-eqb x c e)
last_at c (x ∷ xs) (suc j) l e h = rw (has-at c xs j (le_of_suc-le-suc l) e) (last_at c xs j (le_of_suc-le-suc l) e h)

last_none : (c : ℕ) (s : List ℕ) → has_byte c s ≡ false → after_last c s ≡ s
unfolding after_last has_byte
last_none c [] h = refl
last_none c (x ∷ xs) h = go (eqb x c) (has_byte c xs) h
  where
    go : (t u : Bool) → (t || u) ≡ false → cond u (after_last c xs) (cond t xs (x ∷ xs)) ≡ x ∷ xs
    go true u h = let z : ◌≡◌ {A = ℕ} 0 1 = cc in absurd (omega arith)
    go false true h = let z : ◌≡◌ {A = ℕ} 0 1 = cc in absurd (omega arith)
    go false false h = refl

-- another byte in front leaves the question to what follows it
has-step : (c x : ℕ) (s : List ℕ) → (x ≡ c → ⊥) → has_byte c s ≡ false → has_byte c (x ∷ s) ≡ false
unfolding has_byte
has-step c x s ne h = rw (ne_eqb x c ne, h)

-- the place before i
before-one : (i : ℕ) → 0 < i → suc (i - 1) ≡ i
before-one i l = omega arith

-- no '/' stands from i on
pub record FileAt (s : List ℕ) (i : ℕ) : Type 0 where
  pub within : i ≤ length s
  pub left : has_byte 47 (drop i s) ≡ false

pub file_start : (s : List ℕ) → FileAt s (length s)
unfolding has_byte
file_start s = record { within = omega arith; left = rw (drop-length s) }

pub file_end : (s : List ℕ) (i : ℕ) → FileAt s i → i ≤ 0 → s ≡ file_name s
unfolding file_name
file_end s zero h l = sym (last_none 47 s h.left)
file_end s (suc i) h l = absurd (not-suc-le-zero l)

module _ (s : List ℕ) (i : ℕ) (h : FileAt s i) (l : 0 < i) (r : ℕ) (er : r ≡ get_or s (i - 1) 0) where
  pub file_found : (t : List ℕ) → r ≡ 47 → t ≡ drop (i - 1 + 1) s → t ≡ file_name s
  unfolding file_name
  file_found t e et =
      let b : suc (i - 1) ≡ i = before-one i l in
      et ∙ ap (λ (k : ℕ). drop k s) (add-one (i - 1) ∙ b) ∙ sym (last_at 47 s (i - 1) (omega (arith, h.within)) (sym er ∙ e) (rw b h.left) ∙ rw b)

  pub file_turn : (r ≡ 47 → ⊥) → FileAt s (i - 1)
  file_turn ne = record {
    within = omega (arith, h.within);
    left = rw (drop-cons s (i - 1) 0 (omega (arith, h.within)), before-one i l) (has-step 47 (get_or s (i - 1) 0) (drop i s) (λ e. ne (er ∙ e)) h.left);
  }

pub ruleset file_laws = (file_start, file_end, file_found, file_turn)

-- ---- without ".jar"

pub jar_cut : (s : List ℕ) (r : Option (Bor (List ℕ))) (d : Bor (List ℕ)) → d.now ≡ s
    → MatchOption r (pointwise eqb (drop (length s - 4) s) dot_jar ≡ false) (λ (x : Bor (List ℕ)). (pointwise eqb (drop (length s - 4) s) dot_jar ≡ true) × (x.now ≡ take (length s - 4) s) × (length x.now + 4 ≡ length s))
    → (unwrap_or r d).now ≡ without_jar s
unfolding without_jar
jar_cut s None d e h = e ∙ rw (sym (same_is (drop (length s - 4) s) dot_jar) ∙ h)
jar_cut s (Some x) d e h = h.1 ∙ rw (sym (same_is (drop (length s - 4) s) dot_jar) ∙ h.0)

-- ---- without the version

starts-at : (x : ℕ) (xs : List ℕ) → x ≡ 45 → is_digit (get_or xs 0 0) ≡ true → starts_version (x ∷ xs) ≡ true
unfolding starts_version
starts-at x xs e d = rw (eq-eqb x 45 e, d)

version-has : (s : List ℕ) (j : ℕ) → j < length s → get_or s j 0 ≡ 45 → is_digit (get_or s (suc j) 0) ≡ true → has_version s ≡ true
unfolding has_version
version-has [] j l e d = absurd (not-suc-le-zero l)
version-has (x ∷ xs) zero l e d = rw (starts-at x xs e d)
version-has (x ∷ xs) (suc j) l e d = go (starts_version (x ∷ xs)) (version-has xs j (le_of_suc-le-suc l) e d)
  where
    go : (t : Bool) → has_version xs ≡ true → (t || has_version xs) ≡ true
    go true h = refl
    go false h = h

version-at : (s : List ℕ) (j : ℕ) → j < length s → get_or s j 0 ≡ 45 → is_digit (get_or s (suc j) 0) ≡ true → has_version (drop (suc j) s) ≡ false → without_version s ≡ take j s
unfolding without_version
version-at [] j l e d h = absurd (not-suc-le-zero l)
version-at (x ∷ xs) zero l e d h = rw (h, starts-at x xs e d)
version-at (x ∷ xs) (suc j) l e d h =
    rw (version-has xs j (le_of_suc-le-suc l) e d) (ap (λ (r : List ℕ). x ∷ r) (version-at xs j (le_of_suc-le-suc l) e d h))

version-none : (s : List ℕ) → has_version s ≡ false → without_version s ≡ s
unfolding without_version has_version
version-none [] h = refl
version-none (x ∷ xs) h = go (starts_version (x ∷ xs)) (has_version xs) h
  where
    go : (t u : Bool) → (t || u) ≡ false → cond u (x ∷ without_version xs) (cond t [] (x ∷ xs)) ≡ x ∷ xs
    go true u h = let z : ◌≡◌ {A = ℕ} 0 1 = cc in absurd (omega arith)
    go false true h = let z : ◌≡◌ {A = ℕ} 0 1 = cc in absurd (omega arith)
    go false false h = refl

-- no hyphen that a digit follows stands from i on
pub record VersionAt (s : List ℕ) (i : ℕ) : Type 0 where
  pub within : i ≤ length s
  pub left : has_version (drop i s) ≡ false

pub version-start : (s : List ℕ) → VersionAt s (length s)
unfolding has_version
version-start s = record { within = omega arith; left = rw (drop-length s) }

pub version-end : (s : List ℕ) (i : ℕ) → VersionAt s i → i ≤ 0 → s ≡ without_version s
version-end s zero h l = sym (version-none s h.left)
version-end s (suc i) h l = absurd (not-suc-le-zero l)

-- what stands at the front decides with what follows it
version-step : (x : ℕ) (s : List ℕ) → starts_version (x ∷ s) ≡ false → has_version s ≡ false → has_version (x ∷ s) ≡ false
unfolding has_version
version-step x s e h = rw (e, h)

module _ (s : List ℕ) (i : ℕ) (h : VersionAt s i) (l : 0 < i) (r : ℕ) (er : r ≡ get_or s (i - 1) 0) where
  -- a front that is no version leaves the question to what is past it
  turn : starts_version (get_or s (i - 1) 0 ∷ drop i s) ≡ false → VersionAt s (i - 1)
  turn e = record {
    within = omega (arith, h.within);
    left = rw (drop-cons s (i - 1) 0 (omega (arith, h.within)), before-one i l) (version-step (get_or s (i - 1) 0) (drop i s) e h.left);
  }

  pub version-other : (r ≡ 45 → ⊥) → VersionAt s (i - 1)
  unfolding starts_version
  version-other ne = turn (rw (← er, ne_eqb r 45 ne))

  module _ (d : Bool) (n : ℕ) (en : n ≡ get_or s (i - 1 + 1) 0) (ed : d ≡ is_digit n) where
    next-digit : is_digit (get_or s i 0) ≡ d
    next-digit = let b : i - 1 + 1 ≡ i = omega arith in rw b at (sym (ed ∙ ap is_digit en))

    pub version-found : (t : List ℕ) → r ≡ 45 → d ≡ true → t ≡ take (i - 1) s → t ≡ without_version s
    version-found t e e' et =
        let b : suc (i - 1) ≡ i = before-one i l in
        let g : is_digit (get_or s i 0) ≡ true = next-digit ∙ e' in
        et ∙ sym (version-at s (i - 1) (omega (arith, h.within)) (sym er ∙ e) (rw b g) (rw b h.left))

    pub version-hyphen : r ≡ 45 → d ≡ false → VersionAt s (i - 1)
    unfolding starts_version
    version-hyphen e e' =
        let g : is_digit (get_or s i 0) ≡ false = next-digit ∙ e' in
        turn (rw (← er, eq-eqb r 45 e, get_d_front) g)
      where
        get_d_front : get_or (drop i s) 0 0 ≡ get_or s i 0
        get_d_front = get_or-drop i s 0 0 ∙ rw add-zero

pub ruleset version_laws = (version-start, version-end, version-other, version-found, version-hyphen)
