-- The dotted text: what the loop still writes, as a function of the bytes left, and what each turn of it shows.
use Prim.Native.Nat.{ℕ, suc, ◌+◌, ◌-◌, ◌≤◌, ◌<◌}
use mathlib.Core.Path.{◌≡◌, refl, sym, ◌∙◌, ap}
use mathlib.Core.List.{List, [], ◌∷◌, ◌++◌, append-nil}
use mathlib.Core.Bool.{Bool, true, false, cond}
use native.Mathlib.Omega.{arith}
use native.Mathlib.Numerals.{add-one}
use lib.ListN.{length, get_or, set, take, drop, replicate, length-set, length-replicate, drop_of_length-le, take-append-drop}
use lib.Seq.{drop-cons, drop-drop, drop-set-lt, take-suc-set, append_snoc, length-take-le}
use lib.Dec.{eqb, ltb, eqb-suc-zero}
use borrow.Author.Tests.{ne_eqb, lt-ltb, le-ltb}
use Rattle.records.proofs.automatic.Characters.{alphanumeric_bounds}
use Rattle.records.specs.Name.{is_empty}
use Rattle.records.specs.Automatic.{is_alphanumeric, dotted_from, dotted, trim_front, trim_end, trimmed, text_of}
use Rattle.records.specs.declared.automatic.Text.{Text}

-- ---- what is written

-- what is written once something has been; `gap` says that the byte before is no letter or digit
unfoldable pub joined : Bool → List ℕ → List ℕ
joined gap [] = []
joined gap (x ∷ xs) = cond (is_alphanumeric x) (cond gap (46 ∷ x ∷ joined false xs) (x ∷ joined false xs)) (joined true xs)

-- what is written where nothing has been yet
unfoldable pub begun : List ℕ → List ℕ
begun [] = []
begun (x ∷ xs) = cond (is_alphanumeric x) (x ∷ joined false xs) (begun xs)

not-dot : (x : ℕ) → is_alphanumeric x ≡ true → eqb x 46 ≡ false
not-dot x e = let b : (48 ≤ x) × (x ≤ 122) = alphanumeric_bounds x e in ne_eqb x 46 (λ d. omega arith)

-- a letter or digit in front stays
end-cons : (x : ℕ) (s : List ℕ) → is_alphanumeric x ≡ true → trim_end (x ∷ s) ≡ x ∷ trim_end s
unfolding trim_end
end-cons x s e = rw (not-dot x e)

front-cons : (x : ℕ) (s : List ℕ) → is_alphanumeric x ≡ true → trim_front (x ∷ s) ≡ x ∷ s
unfolding trim_front
front-cons x s e = rw (not-dot x e)

-- a dot in front of t, none where t is empty
dot_first : List ℕ → List ℕ
dot_first t = cond (is_empty t) [] (46 ∷ t)

end-dot : (s : List ℕ) → trim_end (46 ∷ s) ≡ dot_first (trim_end s)
unfolding trim_end dot_first
end-dot s = refl

dot-first : (x : ℕ) (t : List ℕ) → dot_first (x ∷ t) ≡ 46 ∷ x ∷ t
unfolding dot_first is_empty
dot-first x t = rw (eqb-suc-zero (length t))

dotted-cons : (run : Bool) (x : ℕ) (xs : List ℕ) → is_alphanumeric x ≡ true → dotted_from run (x ∷ xs) ≡ x ∷ dotted_from false xs
unfolding dotted_from
dotted-cons run x xs e = rw e

dotted-other : (run : Bool) (x : ℕ) (xs : List ℕ) → is_alphanumeric x ≡ false → dotted_from run (x ∷ xs) ≡ cond run (dotted_from true xs) (46 ∷ dotted_from true xs)
unfolding dotted_from
dotted-other run x xs e = rw e

-- without the dots at the end it is what is written, with and without an open gap
end-joined : (s : List ℕ) → (trim_end (dotted_from false s) ≡ joined false s) × (dot_first (trim_end (dotted_from true s)) ≡ joined true s)
unfolding joined dotted_from trim_end dot_first is_empty
end-joined [] = (refl, refl)
end-joined (x ∷ xs) = go (is_alphanumeric x) refl (end-joined xs)
  where
    go : (t : Bool) → is_alphanumeric x ≡ t → (trim_end (dotted_from false xs) ≡ joined false xs) × (dot_first (trim_end (dotted_from true xs)) ≡ joined true xs)
        → (trim_end (dotted_from false (x ∷ xs)) ≡ cond t (x ∷ joined false xs) (joined true xs))
        × (dot_first (trim_end (dotted_from true (x ∷ xs))) ≡ cond t (46 ∷ x ∷ joined false xs) (joined true xs))
    go true e ih = (
      ap trim_end (dotted-cons false x xs e) ∙ end-cons x (dotted_from false xs) e ∙ ap (λ (r : List ℕ). x ∷ r) ih.0,
      ap (λ (r : List ℕ). dot_first (trim_end r)) (dotted-cons true x xs e) ∙ ap dot_first (end-cons x (dotted_from false xs) e)
          ∙ dot-first x (trim_end (dotted_from false xs)) ∙ ap (λ (r : List ℕ). 46 ∷ x ∷ r) ih.0,
    )
    go false e ih = (
      ap trim_end (dotted-other false x xs e) ∙ end-dot (dotted_from true xs) ∙ ih.1,
      ap (λ (r : List ℕ). dot_first (trim_end r)) (dotted-other true x xs e) ∙ ih.1,
    )

-- nor do the dots at the front stay
both-begun : (run : Bool) (s : List ℕ) → trim_end (trim_front (dotted_from run s)) ≡ begun s
unfolding begun dotted_from trim_front trim_end
both-begun run [] = refl
both-begun run (x ∷ xs) = go (is_alphanumeric x) refl run (both-begun true xs)
  where
    go : (t : Bool) → is_alphanumeric x ≡ t → (r : Bool) → trim_end (trim_front (dotted_from true xs)) ≡ begun xs
        → trim_end (trim_front (dotted_from r (x ∷ xs))) ≡ cond t (x ∷ joined false xs) (begun xs)
    go true e r ih =
        ap (λ (u : List ℕ). trim_end (trim_front u)) (dotted-cons r x xs e) ∙ ap trim_end (front-cons x (dotted_from false xs) e)
        ∙ end-cons x (dotted_from false xs) e ∙ ap (λ (u : List ℕ). x ∷ u) (end-joined xs).0
    go false e true ih = ap (λ (u : List ℕ). trim_end (trim_front u)) (dotted-other true x xs e) ∙ ih
    go false e false ih = ap (λ (u : List ℕ). trim_end (trim_front u)) (dotted-other false x xs e) ∙ ih

pub trimmed-begun : (s : List ℕ) → trimmed (dotted s) ≡ begun s
unfolding trimmed dotted
trimmed-begun s = both-begun false s

-- ---- a text that is being written

-- the first len bytes are written and zeros follow; with `more` behind them they are the whole, w
pub record Written (w bytes : List ℕ) (len : ℕ) (more : List ℕ) : Type 0 where
  pub long : length bytes ≡ 255
  pub zeros : drop len bytes ≡ replicate (255 - len) 0
  pub left : w ≡ take len bytes ++ more

written_next : {w b : List ℕ} {n x : ℕ} {m : List ℕ} → Written w b n (x ∷ m) → n < 255 → Written w (set b n x) (n + 1) m
written_next {w} {b} {n} {x} {m} h l = record {
  long = length-set b n x ∙ h.long;
  zeros = fewer;
  left = h.left ∙ sym (append_snoc (take n b) x m) ∙ ap (λ (r : List ℕ). r ++ m) (sym (ap (λ (k : ℕ). take k (set b n x)) (add-one n) ∙ take-suc-set b n x (omega (arith, h.long))));
}
  where
    count : 255 - n ≡ suc (255 - (n + 1))
    count = omega arith

    fewer : drop (n + 1) (set b n x) ≡ replicate (255 - (n + 1)) 0
    fewer =
        drop-set-lt (n + 1) b n x (omega arith) ∙ sym (drop-drop 1 n b) ∙ ap (drop 1) h.zeros
        ∙ ap (λ (k : ℕ). drop 1 (replicate k 0)) count

written_start : (w : List ℕ) (n : ℕ) → n ≡ 255 → Written w (replicate n 0) 0 w
written_start w n e = record { long = length-replicate n 0 ∙ e; zeros = ap (λ (k : ℕ). replicate k 0) (e ∙ count); left = refl }
  where
    count : 255 ≡ 255 - 0
    count = omega arith

written-done : {w b : List ℕ} {n : ℕ} → Written w b n [] → n ≤ 255 → ◌≡◌ {A = Text} (record { bytes = b; len = n }) (text_of w)
unfolding text_of
written-done {w} {b} {n} h l = rw (size, sym whole)
  where
    cut : w ≡ take n b
    cut = h.left ∙ append-nil (take n b)

    size : length w ≡ n
    size = ap length cut ∙ length-take-le n b (omega (arith, h.long))

    whole : b ≡ w ++ replicate (255 - n) 0
    whole = sym (take-append-drop n b) ∙ ap (λ (r : List ℕ). r ++ drop n b) (sym cut) ∙ ap (λ (r : List ℕ). w ++ r) h.zeros

-- ---- the loop

-- what is written from here on, where len bytes have been
unfoldable pub rest : ℕ → Bool → List ℕ → List ℕ
rest len gap s = cond gap (joined true s) (cond (ltb 0 len) (joined false s) (begun s))

rest-none : (len : ℕ) (gap : Bool) → rest len gap [] ≡ []
unfolding rest joined begun
rest-none len true = refl
rest-none len false = go (ltb 0 len)
  where
    go : (t : Bool) → cond {A = List ℕ} t [] [] ≡ []
    go true = refl
    go false = refl

rest_some : (len : ℕ) (t : List ℕ) → 0 < len → rest len false t ≡ joined false t
unfolding rest
rest_some len t l = rw (lt-ltb 0 len l)

rest-gap : (len x : ℕ) (t : List ℕ) → is_alphanumeric x ≡ true → rest len true (x ∷ t) ≡ 46 ∷ x ∷ joined false t
unfolding rest joined
rest-gap len x t e = rw e

rest_put : (len x : ℕ) (t : List ℕ) → is_alphanumeric x ≡ true → rest len false (x ∷ t) ≡ x ∷ joined false t
unfolding rest joined begun
rest_put len x t e = rw e (go (ltb 0 len))
  where
    go : (u : Bool) → cond u (x ∷ joined false t) (x ∷ joined false t) ≡ x ∷ joined false t
    go true = refl
    go false = refl

rest_open : (len x : ℕ) (gap : Bool) (t : List ℕ) → is_alphanumeric x ≡ false → 0 < len → rest len gap (x ∷ t) ≡ rest len true t
unfolding rest joined
rest_open len x true t e l = rw e
rest_open len x false t e l = rw (lt-ltb 0 len l, e)

rest-same : (len x : ℕ) (gap : Bool) (t : List ℕ) → is_alphanumeric x ≡ false → len ≤ 0 → rest len gap (x ∷ t) ≡ rest len gap t
unfolding rest joined begun
rest-same len x true t e l = rw e
rest-same len x false t e l = rw (le-ltb 0 len l, e)

-- at i at most i bytes are written, and one fewer at most where a gap is open; what is left decides the rest
pub record DotsAt (s bytes : List ℕ) (len : ℕ) (gap : Bool) (i : ℕ) : Type 0 where
  pub within : i ≤ length s
  pub short : length s ≤ 255
  pub room : len ≤ i
  pub gap_room : gap ≡ true → len + 1 ≤ i
  pub text : Written (trimmed (dotted s)) bytes len (rest len gap (drop i s))

pub dots-start : (s : List ℕ) → length s ≤ 255 → DotsAt s (replicate 255 0) 0 false 0
unfolding rest
dots-start s l = record {
  within = omega arith;
  short = l;
  room = omega arith;
  gap_room = λ e. let z : ◌≡◌ {A = ℕ} 0 1 = cc in absurd (omega arith);
  text = rw (trimmed-begun s) (written_start (begun s) 255 refl);
}

module _ {s bytes : List ℕ} {len : ℕ} {gap : Bool} {i : ℕ} (h : DotsAt s bytes len gap i) where
  pub dots-end : length s ≤ i → ◌≡◌ {A = Text} (record { bytes = bytes; len = len }) (text_of (trimmed (dotted s)))
  dots-end l =
      let e : rest len gap (drop i s) ≡ [] = ap (rest len gap) (drop_of_length-le s l) ∙ rest-none len gap in
      written-done (rw e at h.text) (omega (arith, h.room, h.within, h.short))

  module _ (l : i < length s) (r : Bool) (er : r ≡ is_alphanumeric (get_or s i 0)) where
    here : (more : List ℕ) → rest len gap (get_or s i 0 ∷ drop (suc i) s) ≡ more → Written (trimmed (dotted s)) bytes len more
    here more e = let f : rest len gap (drop i s) ≡ more = ap (rest len gap) (drop-cons s i 0 l) ∙ e in rw f at h.text

    pub dots-gap : r ≡ true → gap ≡ true → DotsAt s (set (set bytes len 46) (len + 1) (get_or s i 0)) (len + 2) false (i + 1)
    dots-gap e eg =
        let g : len + 1 ≤ i = h.gap_room eg in
        let n : len + 2 ≡ len + 1 + 1 = omega arith in
        let two : Written (trimmed (dotted s)) (set (set bytes len 46) (len + 1) (get_or s i 0)) (len + 1 + 1) (joined false (drop (suc i) s))
        = written_next (written_next (here (46 ∷ get_or s i 0 ∷ joined false (drop (suc i) s)) (rw eg (rest-gap len (get_or s i 0) (drop (suc i) s) (sym er ∙ e))))
        (omega (arith, h.short))) (omega (arith, h.short)) in
        record {
          within = omega arith;
          short = h.short;
          room = omega arith;
          gap_room = λ e. let z : ◌≡◌ {A = ℕ} 0 1 = cc in absurd (omega arith);
          text = rw (n, add-one i, rest_some (len + 1 + 1) (drop (suc i) s) (omega arith)) two;
        }

    pub dots-put : r ≡ true → gap ≡ false → DotsAt s (set bytes len (get_or s i 0)) (len + 1) gap (i + 1)
    dots-put e eg =
        let one : Written (trimmed (dotted s)) (set bytes len (get_or s i 0)) (len + 1) (joined false (drop (suc i) s))
        = written_next (here (get_or s i 0 ∷ joined false (drop (suc i) s)) (rw eg (rest_put len (get_or s i 0) (drop (suc i) s) (sym er ∙ e)))) (omega (arith, h.short, h.room)) in
        record {
          within = omega arith;
          short = h.short;
          room = omega (arith, h.room);
          gap_room = λ e. let z : ◌≡◌ {A = ℕ} 0 1 = cc in absurd (omega arith);
          text = rw (eg, add-one i, rest_some (len + 1) (drop (suc i) s) (omega arith)) one;
        }

    pub dots_open : r ≡ false → 0 < len → DotsAt s bytes len true (i + 1)
    dots_open e n = record {
      within = omega arith;
      short = h.short;
      room = omega (arith, h.room);
      gap_room = λ e. omega (arith, h.room);
      text = rw (add-one i) (here (rest len true (drop (suc i) s)) (rest_open len (get_or s i 0) gap (drop (suc i) s) (sym er ∙ e) n));
    }

    pub dots-same : r ≡ false → len ≤ 0 → DotsAt s bytes len gap (i + 1)
    dots-same e n = record {
      within = omega arith;
      short = h.short;
      room = omega (arith, h.room);
      gap_room = λ e. omega (arith, h.room);
      text = rw (add-one i) (here (rest len gap (drop (suc i) s)) (rest-same len (get_or s i 0) gap (drop (suc i) s) (sym er ∙ e) n));
    }

  pub dots-room : i < length s → gap ≡ true → len + 1 < 255
  dots-room l e = let g : len + 1 ≤ i = h.gap_room e in omega (arith, h.short)

pub ruleset dots_laws = (dots-start, dots-end, dots-gap, dots-put, dots_open, dots-same, dots-room)
