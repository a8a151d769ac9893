-- Where the keys of two names differ, they tell how the names stand to each other in byte order; where not, the first 16 bytes are the same.
use Prim.Native.Nat.{ℕ, zero, suc, ◌+◌, ◌-◌, ◌≤◌, ◌<◌}
use mathlib.Core.Path.{◌≡◌, refl, sym, ◌∙◌}
use mathlib.Core.List.{List, [], ◌∷◌}
use mathlib.Core.Bool.{Bool, true, false}
use native.Mathlib.Omega.{arith}
use lib.ListN.{get_or, drop}
use lib.Seq.{get_or-drop}
use lib.Dec.{ltb}
use borrow.Author.Tests.{lt-ltb, le-ltb, eq-eqb, ltb-true, ltb-false}
use Rattle.records.specs.Bytes.{before_bytes}
use Rattle.records.specs.Keys.{standing, pick_standing, key_to, Key, Keys, key_standing, Alike}
use Rattle.records.proofs.Logic.{by, clash}
use Rattle.records.proofs.bytes.Order.{before-one-way, before-differ}
use Rattle.std.specs.declared.cmp.Ordering.TheVariants.{Less, Equal, Greater}

-- the strings agree up to `at` and a has the smaller byte there; a byte past the end is 0
record First (a b : List ℕ) : Type 0 where
  pub at : ℕ
  pub alike : (i : ℕ) → i < at → get_or a i 0 ≡ get_or b i 0
  pub less : get_or a at 0 < get_or b at 0

first-at : (n : ℕ) (a b : List ℕ) → ((i : ℕ) → i < n → get_or a i 0 ≡ get_or b i 0) → get_or a n 0 < get_or b n 0 → before_bytes a b ≡ true
unfolding before_bytes
first-at zero a [] e l = absurd (omega arith)
first-at zero [] (y ∷ ys) e l = refl
first-at zero (x ∷ xs) (y ∷ ys) e l = let q : x < y = l in rw (lt-ltb x y q)
first-at (suc n) a [] e l = absurd (omega arith)
first-at (suc n) [] (y ∷ ys) e l = refl
first-at (suc n) (x ∷ xs) (y ∷ ys) e l =
    let q : x ≡ y = e 0 (omega arith) in
    rw (le-ltb x y (omega arith), eq-eqb x y q) (first-at n xs ys (λ i h. e (suc i) (omega (arith, h))) l)

first-before : (a b : List ℕ) → First a b → before_bytes a b ≡ true
first-before a b f = first-at f.at a b f.alike f.less

module _ (a b : List ℕ) where
  -- the same number, the same bytes
  key-same : (n : ℕ) → ((i : ℕ) → i < n → get_or a i 0 < 256) → ((i : ℕ) → i < n → get_or b i 0 < 256) → key_to n a ≡ key_to n b
      → (i : ℕ) → i < n → get_or a i 0 ≡ get_or b i 0
  unfolding key_to
  key-same zero sa sb e i h = absurd (omega arith)
  key-same (suc n) sa sb e i h =
      let x : get_or a n 0 < 256 = sa n (omega arith) in
      let y : get_or b n 0 < 256 = sb n (omega arith) in
      by (ltb i n)
      (λ t. key-same n (λ j k. sa j (omega arith)) (λ j k. sb j (omega arith)) (omega (arith, e, x, y)) i (ltb-true i n t))
      (λ t. let q : i ≡ n = omega (arith, ltb-false i n t, h) in rw q (omega (arith, e, x, y)))

  -- a smaller number, a first byte that is smaller
  key-less : (n : ℕ) → ((i : ℕ) → i < n → get_or a i 0 < 256) → ((i : ℕ) → i < n → get_or b i 0 < 256) → key_to n a < key_to n b → First a b
  unfolding key_to
  key-less zero sa sb l = absurd (omega arith)
  key-less (suc n) sa sb l =
      let x : get_or a n 0 < 256 = sa n (omega arith) in
      let y : get_or b n 0 < 256 = sb n (omega arith) in
      by (ltb (key_to n a) (key_to n b))
      (λ t. key-less n (λ j k. sa j (omega arith)) (λ j k. sb j (omega arith)) (ltb-true (key_to n a) (key_to n b) t))
      (λ t. let w : key_to n b ≤ key_to n a = ltb-false (key_to n a) (key_to n b) t in
      record {
        at = n;
        alike = key-same n (λ j k. sa j (omega arith)) (λ j k. sb j (omega arith)) (omega (arith, l, w, x, y));
        less = omega (arith, l, w, x, y);
      })

-- the first eight bytes agree, and the next decide
module _ (a b : List ℕ) (ka kb : ℕ) (ha : Key a 0 ka) (hb : Key b 0 kb) where
  keys-first : ka < kb → before_bytes a b ≡ true
  keys-first l = first-before a b (key-less a b 8 ha.small hb.small (rw (← ha.is, ← hb.is) l))

  module _ (e : ka ≡ kb) (ja jb : ℕ) (ga : Key a 8 ja) (gb : Key b 8 jb) where
    keys-next : ja < jb → before_bytes a b ≡ true
    keys-next l =
        let f : First (drop 8 a) (drop 8 b) = key-less (drop 8 a) (drop 8 b) 8 ga.small gb.small (rw (← ga.is, ← gb.is) l) in
        let m : (i : ℕ) → i < 8 → get_or a i 0 ≡ get_or b i 0 = key-same a b 8 ha.small hb.small (sym ha.is ∙ e ∙ hb.is) in
        first-before a b (record {
          at = 8 + f.at;
          alike = λ i h. by (ltb i 8)
              (λ t. m i (ltb-true i 8 t))
              (λ t. let q : 8 + (i - 8) ≡ i = omega (arith, ltb-false i 8 t) in
              let x : get_or (drop 8 a) (i - 8) 0 ≡ get_or (drop 8 b) (i - 8) 0 = f.alike (i - 8) (omega (arith, ltb-false i 8 t, h)) in
              rw (get_or-drop 8 a (i - 8) 0, get_or-drop 8 b (i - 8) 0, q) at x);
          less = let x : get_or (drop 8 a) f.at 0 < get_or (drop 8 b) f.at 0 = f.less in rw (get_or-drop 8 a f.at 0, get_or-drop 8 b f.at 0) at x;
        })

-- ---- the keys tell how the names stand

stands-before : (m n : List ℕ) → before_bytes m n ≡ true → standing m n ≡ Less
unfolding standing
stands-before m n e = rw e

stands_after : (m n : List ℕ) → before_bytes n m ≡ true → standing m n ≡ Greater
unfolding standing
stands_after m n e = rw (before-one-way n m e, before-differ n m e)

-- the keys a, b stand before the keys k, j
data KeysLess (a b k j : ℕ) : Type 0 where
  first : a < k → KeysLess a b k j
  next : a ≡ k → b < j → KeysLess a b k j

less-before : (m n : List ℕ) (a b k j : ℕ) → Key m 0 a → Key m 8 b → Key n 0 k → Key n 8 j → KeysLess a b k j → before_bytes m n ≡ true
less-before m n a b k j ha hb hk hj (first l) = keys-first m n a k ha hk l
less-before m n a b k j ha hb hk hj (next e l) = keys-next m n a k ha hk e b j hb hj l

module _ (a b k j : ℕ) where
  told-before : key_standing a b k j ≡ Less → KeysLess a b k j
  unfolding key_standing
  told-before e = go (ltb a k) refl (ltb k a) refl (ltb b j) refl (ltb j b) e
    where
      go : (p : Bool) → ltb a k ≡ p → (q : Bool) → ltb k a ≡ q → (t : Bool) → ltb b j ≡ t → (u : Bool)
          → pick_standing p Less (pick_standing q Greater (pick_standing t Less (pick_standing u Greater Equal))) ≡ Less → KeysLess a b k j
      go true ep q eq t et u h = first (ltb-true a k ep)
      go false ep true eq t et u h = clash (cc)
      go false ep false eq true et u h = next (omega (arith, ltb-false a k ep, ltb-false k a eq)) (ltb-true b j et)
      go false ep false eq false et true h = clash (cc)
      go false ep false eq false et false h = clash (cc)

  told-after : key_standing a b k j ≡ Greater → KeysLess k j a b
  unfolding key_standing
  told-after e = go (ltb a k) refl (ltb k a) refl (ltb b j) refl (ltb j b) refl e
    where
      go : (p : Bool) → ltb a k ≡ p → (q : Bool) → ltb k a ≡ q → (t : Bool) → ltb b j ≡ t → (u : Bool) → ltb j b ≡ u
          → pick_standing p Less (pick_standing q Greater (pick_standing t Less (pick_standing u Greater Equal))) ≡ Greater → KeysLess k j a b
      go true ep q eq t et u eu h = clash (cc)
      go false ep true eq t et u eu h = first (ltb-true k a eq)
      go false ep false eq true et u eu h = clash (cc)
      go false ep false eq false et true eu h = next (omega (arith, ltb-false a k ep, ltb-false k a eq)) (ltb-true j b eu)
      go false ep false eq false et false eu h = clash (cc)

  told_same : key_standing a b k j ≡ Equal → (a ≡ k) × (b ≡ j)
  unfolding key_standing
  told_same e = go (ltb a k) refl (ltb k a) refl (ltb b j) refl (ltb j b) refl e
    where
      go : (p : Bool) → ltb a k ≡ p → (q : Bool) → ltb k a ≡ q → (t : Bool) → ltb b j ≡ t → (u : Bool) → ltb j b ≡ u
          → pick_standing p Less (pick_standing q Greater (pick_standing t Less (pick_standing u Greater Equal))) ≡ Equal → (a ≡ k) × (b ≡ j)
      go true ep q eq t et u eu h = clash (cc)
      go false ep true eq t et u eu h = clash (cc)
      go false ep false eq true et u eu h = clash (cc)
      go false ep false eq false et true eu h = clash (cc)
      go false ep false eq false et false eu h =
          (omega (arith, ltb-false a k ep, ltb-false k a eq), omega (arith, ltb-false b j et, ltb-false j b eu))

-- the 16 bytes are those of the two keys
alike-keys : (m n : List ℕ) (a b k j : ℕ) → Key m 0 a → Key m 8 b → Key n 0 k → Key n 8 j → a ≡ k → b ≡ j → Alike m n
alike-keys m n a b k j ha hb hk hj e f = record {
  same = λ i h. by (ltb i 8)
      (λ t. key-same m n 8 ha.small hk.small (sym ha.is ∙ e ∙ hk.is) i (ltb-true i 8 t))
      (λ t. let q : 8 + (i - 8) ≡ i = omega (arith, ltb-false i 8 t) in
      let x : get_or (drop 8 m) (i - 8) 0 ≡ get_or (drop 8 n) (i - 8) 0
      = key-same (drop 8 m) (drop 8 n) 8 hb.small hj.small (sym hb.is ∙ f ∙ hj.is) (i - 8) (omega (arith, h)) in
      rw (get_or-drop 8 m (i - 8) 0, get_or-drop 8 n (i - 8) 0, q) at x);
}

module _ (m n : List ℕ) (a b l k j : ℕ) (h : Keys m a b l) (hk : Key n 0 k) (hj : Key n 8 j) where
  pub keys-before : key_standing a b k j ≡ Less → standing m n ≡ Less
  keys-before e = stands-before m n (less-before m n a b k j h.first h.next hk hj (told-before a b k j e))

  pub keys-after : key_standing a b k j ≡ Greater → standing m n ≡ Greater
  keys-after e = stands_after m n (less-before n m k j a b hk hj h.first h.next (told-after a b k j e))

  pub keys-same : key_standing a b k j ≡ Equal → Alike m n
  keys-same e = alike-keys m n a b k j h.first h.next hk hj (told_same a b k j e).0 (told_same a b k j e).1
