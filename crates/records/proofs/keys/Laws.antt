-- What the functions over names and their keys show.
use Prim.Native.Nat.{ℕ, zero, suc, ◌+◌, ◌-◌, ◌*◌, ◌/◌, ◌%◌, ◌^◌, ◌≤◌, ◌<◌}
use mathlib.Core.Path.{◌≡◌, refl, sym, ◌∙◌, ap}
use mathlib.Core.List.{List, [], ◌∷◌}
use mathlib.Core.Bool.{Bool, true, false}
use native.Mathlib.Omega.{arith}
use native.Mathlib.Nat.{mod-lt, mul-lt-mul_of_pos_right, add-mul, mod-eq_of_lt, mul_assoc, mul-one, add-zero, pow-suc, mul-add-mod_self_right}
use lib.ListN.{length, get_or, drop, drop_of_length-le}
use lib.Seq.{get_or-drop, drop-drop}
use lib.Dec.{ltb, lit<}
use mir.Syntax.{w64}
use Rattle.std.specs.Int.{from_be_bytes}
use Rattle.std.proofs.lemmas.Nat.{div-add-mod', mod-mul-add}
use borrow.Author.Tests.{lt-ltb, le-ltb, ltb-true, ltb-false, eq-eqb, ne_eqb}
use Rattle.records.specs.Bytes.{same_bytes, before_bytes}
use Rattle.records.specs.Set.{name_at}
use Rattle.records.specs.Keys.{standing, key_to, Key, ending_of, key_standing, Alike}
use Rattle.std.specs.declared.cmp.Ordering.{Ordering}
use Rattle.records.proofs.Logic.{by}
use Rattle.records.proofs.bytes.Laws.{byte-none, same_refl}
use Rattle.records.proofs.bytes.Order.{before_irrefl, same-not-before}
use Rattle.std.specs.declared.cmp.Ordering.TheVariants.{Less, Equal, Greater}
use Rattle.std.specs.Ordering.{nat_cmp}

-- ---- the comparison

module _ (a b : List ℕ) (q : Bool) (eq : q ≡ same_bytes a b) where
  pub compare_same : q ≡ true → Equal ≡ standing a b
  unfolding standing
  compare_same e = rw (same-not-before a b (sym eq ∙ e), ← eq, e)

  module _ (f : q ≡ false) (r : Bool) (er : r ≡ before_bytes a b) where
    pub compare-before : r ≡ true → Less ≡ standing a b
    unfolding standing
    compare-before e = rw (← er, e)

    pub compare-after : r ≡ false → Greater ≡ standing a b
    unfolding standing
    compare-after e = rw (← er, e, ← eq, f)

pub ruleset compare_laws = (compare_same, compare-before, compare-after)

-- ---- a key is made

module _ (s : List ℕ) (at b₀ b₁ b₂ b₃ b₄ b₅ b₆ b₇ : ℕ)
    (e₀ : b₀ ≡ get_or s at 0) (e₁ : b₁ ≡ get_or s (at + 1) 0) (e₂ : b₂ ≡ get_or s (at + 2) 0) (e₃ : b₃ ≡ get_or s (at + 3) 0) (e₄ : b₄ ≡ get_or s (at + 4) 0) (e₅ : b₅ ≡ get_or s (at + 5) 0) (e₆ : b₆ ≡ get_or s (at + 6) 0) (e₇ : b₇ ≡ get_or s (at + 7) 0) where
  d₀ : get_or (drop at s) 0 0 ≡ b₀
  d₀ = let z : at + 0 ≡ at = omega arith in get_or-drop at s 0 0 ∙ rw z (sym e₀)

  d₁ : get_or (drop at s) 1 0 ≡ b₁
  d₁ = get_or-drop at s 1 0 ∙ sym e₁

  d₂ : get_or (drop at s) 2 0 ≡ b₂
  d₂ = get_or-drop at s 2 0 ∙ sym e₂

  d₃ : get_or (drop at s) 3 0 ≡ b₃
  d₃ = get_or-drop at s 3 0 ∙ sym e₃

  d₄ : get_or (drop at s) 4 0 ≡ b₄
  d₄ = get_or-drop at s 4 0 ∙ sym e₄

  d₅ : get_or (drop at s) 5 0 ≡ b₅
  d₅ = get_or-drop at s 5 0 ∙ sym e₅

  d₆ : get_or (drop at s) 6 0 ≡ b₆
  d₆ = get_or-drop at s 6 0 ∙ sym e₆

  d₇ : get_or (drop at s) 7 0 ≡ b₇
  d₇ = get_or-drop at s 7 0 ∙ sym e₇

  pub key_read : (r : ℕ) → ((i : ℕ) → get_or s i 0 < 256) → r ≡ from_be_bytes w64 (b₀ ∷ b₁ ∷ b₂ ∷ b₃ ∷ b₄ ∷ b₅ ∷ b₆ ∷ b₇ ∷ []) → Key s at r
  unfolding key_to
  key_read r small e = record { is = e ∙ rw (d₀, d₁, d₂, d₃, d₄, d₅, d₆, d₇) (omega arith); small = λ i l. rw (get_or-drop at s i 0) (small (at + i)) }

-- ---- the next key of a name of 9 to 15 bytes

-- the first a bytes, and b more
key_split : (a b : ℕ) (s : List ℕ) → key_to (a + b) s ≡ key_to a s * 256 ^ b + key_to b (drop a s)
unfolding key_to
key_split a zero s = rw (add-zero a, mul-one (key_to a s)) (omega arith)
key_split a (suc b) s =
    let e : a + suc b ≡ suc (a + b) = omega arith in
    let f : key_to a s * (256 ^ b * 256) ≡ key_to a s * 256 ^ b * 256 = sym (mul_assoc (key_to a s) (256 ^ b) 256) in
    rw (e, pow-suc 256 b, f, get_or-drop a s b 0) (omega (arith, key_split a b s))

key-most : (n : ℕ) (s : List ℕ) → ((i : ℕ) → i < n → get_or s i 0 < 256) → key_to n s < 256 ^ n
unfolding key_to
key-most zero s h = omega arith
key-most (suc n) s h = omega (arith, pow-suc 256 n, key-most n s (λ i l. h i (omega arith)), h n (omega arith))

key-none : (n : ℕ) → key_to n [] ≡ 0
unfolding key_to
key-none zero = refl
key-none (suc n) = omega (arith, key-none n)

key-past : (n at : ℕ) (s : List ℕ) → length s ≤ at → key_to n (drop at s) ≡ 0
key-past n at s l = rw (drop_of_length-le s l) (key-none n)

pub next-none : (s : List ℕ) → length s ≤ 8 → Key s 8 0
next-none s l = record { is = sym (key-past 8 8 s l); small = λ i k. rw (drop_of_length-le s l) (omega arith) }

module _ (s : List ℕ) (n w : ℕ) (l : 8 < n) (h : n < 16) (e : length s ≡ n) (k : Key s (n - 8) w) where
  -- the last n - 8 of the last eight bytes are those from 8 on
  rest_at : (i : ℕ) → get_or (drop 8 s) i 0 ≡ get_or (drop (n - 8) s) (16 - n + i) 0
  rest_at i = let z : n - 8 + (16 - n + i) ≡ 8 + i = omega arith in get_or-drop 8 s i 0 ∙ ap (λ (x : ℕ). get_or s x 0) (sym z) ∙ sym (get_or-drop (n - 8) s (16 - n + i) 0)

  rest-small : (i : ℕ) → i < n - 8 → get_or (drop 8 s) i 0 < 256
  rest-small i m = rw (rest_at i) (k.small (16 - n + i) (omega arith))

  ending-small : (i : ℕ) → i < 8 → get_or (drop 8 s) i 0 < 256
  ending-small i m = by (ltb i (n - 8))
      (λ t. rest-small i (ltb-true i (n - 8) t))
      (λ t. let z : 0 ≡ get_or s (8 + i) 0 = byte-none s (8 + i) (omega (arith, ltb-false i (n - 8) t)) in
      rw (get_or-drop 8 s i 0, ← z) (omega arith))

  rest-drop : drop (16 - n) (drop (n - 8) s) ≡ drop 8 s
  rest-drop = let z : n - 8 + (16 - n) ≡ 8 = omega arith in drop-drop (16 - n) (n - 8) s ∙ rw z

  rest-number : w % 256 ^ (n - 8) ≡ key_to (n - 8) (drop 8 s)
  rest-number =
      let z : 16 - n + (n - 8) ≡ 8 = omega arith in
      let p : w ≡ key_to (16 - n) (drop (n - 8) s) * 256 ^ (n - 8) + key_to (n - 8) (drop 8 s)
      = k.is ∙ ap (λ (x : ℕ). key_to x (drop (n - 8) s)) (sym z) ∙ key_split (16 - n) (n - 8) (drop (n - 8) s) ∙ rw rest-drop in
      ap (λ (x : ℕ). x % 256 ^ (n - 8)) p ∙ mul-add-mod_self_right (key_to (16 - n) (drop (n - 8) s)) (256 ^ (n - 8)) (key_to (n - 8) (drop 8 s))
      ∙ mod-eq_of_lt (key-most (n - 8) (drop 8 s) rest-small)

  rest-none : key_to (16 - n) (drop (n - 8) (drop 8 s)) ≡ 0
  rest-none = let z : 8 + (n - 8) ≡ n = omega arith in ap (key_to (16 - n)) (drop-drop (n - 8) 8 s ∙ rw z) ∙ key-past (16 - n) n s (omega arith)

  ending-number : ending_of w n ≡ key_to 8 (drop 8 s)
  unfolding ending_of
  ending-number =
      let z : n - 8 + (16 - n) ≡ 8 = omega arith in
      let q : key_to 8 (drop 8 s) ≡ key_to (n - 8) (drop 8 s) * 256 ^ (16 - n) + key_to (16 - n) (drop (n - 8) (drop 8 s))
      = ap (λ (x : ℕ). key_to x (drop 8 s)) (sym z) ∙ key_split (n - 8) (16 - n) (drop 8 s) in
      rw rest-number (sym (q ∙ rw rest-none (add-zero (key_to (n - 8) (drop 8 s) * 256 ^ (16 - n)))))

pub next-some : (s : List ℕ) (w r : ℕ) → 8 < length s → length s < 16 → Key s (length s - 8) w → r ≡ ending_of w (length s) → Key s 8 r
next-some s w r l h k e =
    record { is = e ∙ ending-number s (length s) w l h refl k; small = ending-small s (length s) w l h refl k }

-- a factor of both sides of a remainder
mod-scale : (w b c : ℕ) → 0 < b → 0 < c → w * c % (b * c) ≡ w % b * c
mod-scale w b c hb hc =
    let e : w * c ≡ w / b * (b * c) + w % b * c =
    ap (λ (x : ℕ). x * c) (sym (div-add-mod' w b)) ∙ (add-mul (w / b * b) (w % b) c ∙ ap (λ (x : ℕ). x + w % b * c) (mul_assoc (w / b) b c)) in
    ap (λ (x : ℕ). x % (b * c)) e ∙ mod-mul-add (w / b) (b * c) (w % b * c) (mul-lt-mul_of_pos_right (mod-lt w hb) hc)

-- what a shift leaves of the last eight bytes
shifted_by : (w m : ℕ) → m < 7 → w * 2 ^ (8 * (16 - (9 + m))) % 2 ^ 64 ≡ ending_of w (9 + m)
unfolding ending_of
shifted_by w zero l = mod-scale w (256 ^ 1) (256 ^ 7) (lit< tt) (lit< tt)
shifted_by w (suc zero) l = mod-scale w (256 ^ 2) (256 ^ 6) (lit< tt) (lit< tt)
shifted_by w (suc (suc zero)) l = mod-scale w (256 ^ 3) (256 ^ 5) (lit< tt) (lit< tt)
shifted_by w (suc (suc (suc zero))) l = mod-scale w (256 ^ 4) (256 ^ 4) (lit< tt) (lit< tt)
shifted_by w (suc (suc (suc (suc zero)))) l = mod-scale w (256 ^ 5) (256 ^ 3) (lit< tt) (lit< tt)
shifted_by w (suc (suc (suc (suc (suc zero))))) l = mod-scale w (256 ^ 6) (256 ^ 2) (lit< tt) (lit< tt)
shifted_by w (suc (suc (suc (suc (suc (suc zero)))))) l = mod-scale w (256 ^ 7) (256 ^ 1) (lit< tt) (lit< tt)
shifted_by w (suc (suc (suc (suc (suc (suc (suc m))))))) l = absurd (omega arith)

pub next-shifted : (s : List ℕ) (w : ℕ) → 8 < length s → length s < 16 → Key s (length s - 8) w → Key s 8 (w * 2 ^ (8 * (16 - length s)) % 2 ^ 64)
next-shifted s w l h k =
    let e : 9 + (length s - 9) ≡ length s = omega arith in
    next-some s w (w * 2 ^ (8 * (16 - length s)) % 2 ^ 64) l h k (rw e at (shifted_by w (length s - 9) (omega arith)))

pub ruleset next_laws = (next-none, next-shifted)

-- ---- the comparison by keys

-- the order of two numbers, by three cases
module _ (a k : ℕ) (P : Type 0) (less : a < k → P) (equal : a ≡ k → P) (greater : k < a → P) where
  three : P
  three = by (ltb a k) (λ e. less (ltb-true a k e)) (λ e. by (ltb k a) (λ f. greater (ltb-true k a f)) (λ f. equal (let l : k ≤ a = ltb-false a k e in let m : a ≤ k = ltb-false k a f in omega arith)))

cmp-less : (a k : ℕ) → a < k → nat_cmp a k ≡ Less
cmp-less a k l = rw (lt-ltb a k l)

cmp-equal : (a k : ℕ) → a ≡ k → nat_cmp a k ≡ Equal
cmp-equal a k e = rw (le-ltb a k (omega arith), eq-eqb a k e)

cmp-greater : (a k : ℕ) → k < a → nat_cmp a k ≡ Greater
cmp-greater a k l = rw (le-ltb a k (omega arith), ne_eqb a k (λ e. omega arith))

-- the first keys decide, and where they are equal the next ones
module _ (a b k j : ℕ) where
  pub keys-less : a < k → Less ≡ key_standing a b k j
  unfolding key_standing
  keys-less l = rw (lt-ltb a k l)

  pub keys-greater : k ≤ a → k < a → Greater ≡ key_standing a b k j
  unfolding key_standing
  keys-greater m l = rw (le-ltb a k m, lt-ltb k a l)

  pub keys-next : k ≤ a → a ≤ k → (s : Ordering) → s ≡ nat_cmp b j → s ≡ key_standing a b k j
  unfolding key_standing
  keys-next m n s es =
      three b j _
      (λ l. rw (es, le-ltb a k m, le-ltb k a n, cmp-less b j l, lt-ltb b j l))
      (λ f. let o : j ≤ b = omega arith in let p : b ≤ j = omega arith in rw (es, le-ltb a k m, le-ltb k a n, cmp-equal b j f, le-ltb b j o, le-ltb j b p))
      (λ l. let o : j ≤ b = omega arith in rw (es, le-ltb a k m, le-ltb k a n, cmp-greater b j l, le-ltb b j o, lt-ltb j b l))

pub ruleset by_laws = (keys-less, keys-greater, keys-next)

-- ---- names whose first 16 bytes are the same

equal-lists : (n : ℕ) (a b : List ℕ) → length a ≤ n → length a ≡ length b → ((i : ℕ) → i < n → get_or a i 0 ≡ get_or b i 0) → a ≡ b
equal-lists n [] [] l e h = refl
equal-lists n [] (y ∷ ys) l e h = absurd (omega arith)
equal-lists n (x ∷ xs) [] l e h = absurd (omega arith)
equal-lists zero (x ∷ xs) (y ∷ ys) l e h = absurd (omega arith)
equal-lists (suc n) (x ∷ xs) (y ∷ ys) l e h =
    let p : x ≡ y = h 0 (omega arith) in
    let q : xs ≡ ys = equal-lists n xs ys (omega arith) (omega arith) (λ i k. h (suc i) (omega (arith, k))) in
    rw (p, q)

module _ (s : List ℕ) (at : ℕ) (name : List ℕ) where
  pub settle-same : (l : ℕ) → Alike (name_at s at) name → l ≡ length (name_at s at) → length name ≤ 16 → l ≡ length name → Equal ≡ standing (name_at s at) name
  unfolding standing
  settle-same l h e k f =
      let g : length (name_at s at) ≡ length name = sym e ∙ f in
      let q : name_at s at ≡ name = equal-lists 16 (name_at s at) name (omega arith) g h.same in
      rw (q, before_irrefl name, same_refl name)

  pub settle-told : (m : List ℕ) (r : Ordering) → m ≡ name_at s at → r ≡ standing m name → r ≡ standing (name_at s at) name
  settle-told m r e f = f ∙ rw e

pub ruleset settle_laws = (settle-same, settle-told)
