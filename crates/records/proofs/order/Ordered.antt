-- What `insert_name` and `ordered` give: the names in order, the same names, and none twice.
use Prim.Native.Nat.{ℕ, zero, suc, ◌≤◌, ◌<◌}
use mathlib.Core.Path.{◌≡◌, refl, sym, ◌∙◌, ap}
use mathlib.Core.List.{List, [], ◌∷◌, ◌++◌}
use mathlib.Core.Bool.{Bool, true, false, ◌||◌, or-true, or-false, or_assoc, or_comm, or_self_left}
use native.Mathlib.Omega.{arith}
use lib.ListN.{length, get_or, take, drop, take-append-drop, drop_of_length-le}
use lib.Seq.{drop-cons}
use Rattle.records.specs.Bytes.{same_bytes, before_bytes}
use Rattle.records.specs.Name.{mem_name}
use Rattle.records.specs.Order.{insert_name, ordered_from, ordered, is_ordered, all_names}
use Rattle.records.proofs.Logic.{clash, and_left, and_right}
use Rattle.records.proofs.bytes.Laws.{same-eq, same_refl}
use Rattle.records.proofs.bytes.Order.{before-trans, before-total, before-one-way, before-differ, same-not-before, before-total-back}

-- ---- the tests of one turn

-- how a name stands to the first of a list: before it, the same, or behind it
data Stands (n m : List ℕ) : Type 0 where
  ahead : before_bytes n m ≡ true → Stands n m
  there : before_bytes n m ≡ false → same_bytes n m ≡ true → Stands n m
  behind : before_bytes n m ≡ false → same_bytes n m ≡ false → before_bytes m n ≡ true → Stands n m

stands : (n m : List ℕ) → Stands n m
stands n m = go (before_bytes n m) refl (same_bytes n m) refl
  where
    go : (t : Bool) → before_bytes n m ≡ t → (u : Bool) → same_bytes n m ≡ u → Stands n m
    go true et u eu = ahead et
    go false et true eu = there et eu
    go false et false eu = behind et eu (before-total n m et eu)

-- ---- order

behind-ordered : (m n : List ℕ) (l : List (List ℕ)) → before_bytes m n ≡ true → is_ordered (m ∷ l) ≡ true → is_ordered (m ∷ insert_name n l) ≡ true
unfolding is_ordered insert_name
behind-ordered m n [] b h = rw b
behind-ordered m n (k ∷ l) b h = go (stands n k) (behind-ordered k n l)
  where
    go : Stands n k → (before_bytes k n ≡ true → is_ordered (k ∷ l) ≡ true → is_ordered (k ∷ insert_name n l) ≡ true) → is_ordered (m ∷ insert_name n (k ∷ l)) ≡ true
    go (ahead e) ih = rw (e, b, e) (and_right (before_bytes m k) (is_ordered (k ∷ l)) h)
    go (there e f) ih = rw (e, f) h
    go (behind e f g) ih = rw (e, f, and_left (before_bytes m k) (is_ordered (k ∷ l)) h) (ih g (and_right (before_bytes m k) (is_ordered (k ∷ l)) h))

pub insert-ordered : (n : List ℕ) (l : List (List ℕ)) → is_ordered l ≡ true → is_ordered (insert_name n l) ≡ true
unfolding is_ordered insert_name
insert-ordered n [] h = refl
insert-ordered n (m ∷ l) h = go (stands n m)
  where
    go : Stands n m → is_ordered (insert_name n (m ∷ l)) ≡ true
    go (ahead e) = rw (e, e) h
    go (there e f) = rw (e, f) h
    go (behind e f g) = rw (e, f) (behind-ordered m n l g h)

from-ordered : (done l : List (List ℕ)) → is_ordered done ≡ true → is_ordered (ordered_from done l) ≡ true
unfolding ordered_from
from-ordered done [] h = h
from-ordered done (n ∷ l) h = from-ordered (insert_name n done) l (insert-ordered n done h)

-- each name stands before the next
pub ordered-is : (l : List (List ℕ)) → is_ordered (ordered l) ≡ true
unfolding ordered is_ordered
ordered-is l = from-ordered [] l refl

-- ---- the same names

or_swap : (a b c : Bool) → (a || (b || c)) ≡ (b || (a || c))
or_swap a b c = sym (or_assoc a b c) ∙ rw (or_comm a b) (or_assoc b a c)

-- the name put in, and those that stood there
pub insert-mem : (n m : List ℕ) (l : List (List ℕ)) → mem_name n (insert_name m l) ≡ (same_bytes m n || mem_name n l)
unfolding mem_name insert_name
insert-mem n m [] = refl
insert-mem n m (k ∷ l) = go (stands m k) (insert-mem n m l)
  where
    go : Stands m k → mem_name n (insert_name m l) ≡ (same_bytes m n || mem_name n l) → mem_name n (insert_name m (k ∷ l)) ≡ (same_bytes m n || (same_bytes k n || mem_name n l))
    go (ahead e) ih = rw e
    go (there e f) ih = rw (e, f, same-eq m k f) (sym (or_self_left (same_bytes k n) (mem_name n l)))
    go (behind e f g) ih = rw (e, f, ih) (or_swap (same_bytes k n) (same_bytes m n) (mem_name n l))

-- the names of both lists
pub from-mem : (n : List ℕ) (done l : List (List ℕ)) → mem_name n (ordered_from done l) ≡ (mem_name n done || mem_name n l)
unfolding ordered_from mem_name
from-mem n done [] = sym (or-false (mem_name n done))
from-mem n done (m ∷ l) =
    from-mem n (insert_name m done) l ∙ rw (insert-mem n m done) (or_assoc (same_bytes m n) (mem_name n done) (mem_name n l) ∙ or_swap (same_bytes m n) (mem_name n done) (mem_name n l))

ordered-mem : (n : List ℕ) (l : List (List ℕ)) → mem_name n (ordered l) ≡ mem_name n l
unfolding ordered mem_name
ordered-mem n l = from-mem n [] l

-- no name is lost
pub ordered_keeps : (n : List ℕ) (l : List (List ℕ)) → mem_name n l ≡ true → mem_name n (ordered l) ≡ true
ordered_keeps n l h = ordered-mem n l ∙ h

-- and none is added
pub ordered-adds-none : (n : List ℕ) (l : List (List ℕ)) → mem_name n (ordered l) ≡ true → mem_name n l ≡ true
ordered-adds-none n l h = sym (ordered-mem n l) ∙ h

-- ---- what holds of every name

pub insert_all : (q : List ℕ → Bool) (n : List ℕ) (l : List (List ℕ)) → q n ≡ true → all_names q l ≡ true → all_names q (insert_name n l) ≡ true
unfolding all_names insert_name
insert_all q n [] e h = rw e
insert_all q n (m ∷ l) e h = go (stands n m) (insert_all q n l e)
  where
    go : Stands n m → (all_names q l ≡ true → all_names q (insert_name n l) ≡ true) → all_names q (insert_name n (m ∷ l)) ≡ true
    go (ahead d) ih = rw (d, e) h
    go (there d f) ih = rw (d, f) h
    go (behind d f g) ih = rw (d, f, and_left (q m) (all_names q l) h) (ih (and_right (q m) (all_names q l) h))

from_all : (q : List ℕ → Bool) (done l : List (List ℕ)) → all_names q done ≡ true → all_names q l ≡ true → all_names q (ordered_from done l) ≡ true
unfolding all_names ordered_from
from_all q done [] d h = d
from_all q done (n ∷ l) d h =
    from_all q (insert_name n done) l (insert_all q n done (and_left (q n) (all_names q l) h) d) (and_right (q n) (all_names q l) h)

pub ordered-all : (q : List ℕ → Bool) (l : List (List ℕ)) → all_names q l ≡ true → all_names q (ordered l) ≡ true
unfolding ordered all_names
ordered-all q l h = from_all q [] l refl h

-- ---- places in an ordered list

first_below : (n : List ℕ) (l : List (List ℕ)) (d : List ℕ) (j : ℕ) → is_ordered (n ∷ l) ≡ true → j < length l → before_bytes n (get_or l j d) ≡ true
unfolding is_ordered
first_below n [] d j h l = absurd (omega arith)
first_below n (m ∷ l) d zero h k = and_left (before_bytes n m) (is_ordered (m ∷ l)) h
first_below n (m ∷ l) d (suc j) h k =
    before-trans n m (get_or l j d) (and_left (before_bytes n m) (is_ordered (m ∷ l)) h)
    (first_below m l d j (and_right (before_bytes n m) (is_ordered (m ∷ l)) h) (omega arith))

ordered-rest : (n : List ℕ) (l : List (List ℕ)) → is_ordered (n ∷ l) ≡ true → is_ordered l ≡ true
unfolding is_ordered
ordered-rest n [] h = refl
ordered-rest n (m ∷ l) h = and_right (before_bytes n m) (is_ordered (m ∷ l)) h

-- of two places the name at the first stands before the one at the second
pub ordered-below : (l : List (List ℕ)) (d : List ℕ) (i j : ℕ) → is_ordered l ≡ true → i < j → j < length l → before_bytes (get_or l i d) (get_or l j d) ≡ true
ordered-below [] d i j h lt k = absurd (omega arith)
ordered-below (n ∷ l) d zero zero h lt k = absurd (omega arith)
ordered-below (n ∷ l) d zero (suc j) h lt k = first_below n l d j h (omega arith)
ordered-below (n ∷ l) d (suc i) zero h lt k = absurd (omega arith)
ordered-below (n ∷ l) d (suc i) (suc j) h lt k = ordered-below l d i j (ordered-rest n l h) (omega arith) (omega arith)

-- ---- whether a name is there

before-not-same : (a b : List ℕ) → before_bytes a b ≡ true → same_bytes a b ≡ false
before-not-same a b h = go (same_bytes a b) refl
  where
    go : (t : Bool) → same_bytes a b ≡ t → same_bytes a b ≡ false
    go true e = let f : before_bytes a b ≡ false = same-not-before a b e in clash (cc)
    go false e = e

-- one that stands before the first is not
mem-ahead : (n m : List ℕ) (l : List (List ℕ)) → is_ordered (m ∷ l) ≡ true → before_bytes n m ≡ true → mem_name n (m ∷ l) ≡ false
unfolding is_ordered mem_name
mem-ahead n m [] h b = rw (before-differ n m b)
mem-ahead n m (k ∷ l) h b =
    rw (before-differ n m b)
    (mem-ahead n k l (and_right (before_bytes m k) (is_ordered (k ∷ l)) h) (before-trans n m k b (and_left (before_bytes m k) (is_ordered (k ∷ l)) h)))

module _ (n d : List ℕ) where
  -- it stands at r
  pub mem-there : (r : ℕ) (l : List (List ℕ)) → r < length l → same_bytes n (get_or l r d) ≡ true → mem_name n l ≡ true
  unfolding mem_name
  mem-there r [] k e = absurd (omega arith)
  mem-there zero (m ∷ l) k e = rw (same-eq n m e, same_refl m)
  mem-there (suc r) (m ∷ l) k e = rw (mem-there r l (omega arith) e) (or-true (same_bytes m n))

  -- those below r stand before it, and the one at r is not it and does not
  pub mem-none : (r : ℕ) (l : List (List ℕ)) → is_ordered l ≡ true → r ≤ length l → ((i : ℕ) → i < r → before_bytes (get_or l i d) n ≡ true)
      → (r < length l → before_bytes (get_or l r d) n ≡ false) → (r < length l → same_bytes n (get_or l r d) ≡ false) → mem_name n l ≡ false
  unfolding mem_name
  mem-none zero [] o k b a e = refl
  mem-none zero (m ∷ l) o k b a e = mem-ahead n m l o (before-total-back n m (a (omega arith)) (e (omega arith)))
  mem-none (suc r) [] o k b a e = absurd (omega arith)
  mem-none (suc r) (m ∷ l) o k b a e =
      rw (before-not-same m n (b 0 (omega arith)))
      (mem-none r l (ordered-rest m l o) (omega arith) (λ i h. b (suc i) (omega arith)) (λ h. a (omega arith)) (λ h. e (omega arith)))

-- ---- where a name is put

module _ (n d : List ℕ) where
  -- those that stand before it are passed
  insert-past : (r : ℕ) (l : List (List ℕ)) → r ≤ length l → ((i : ℕ) → i < r → before_bytes (get_or l i d) n ≡ true)
      → insert_name n l ≡ take r l ++ insert_name n (drop r l)
  unfolding insert_name
  insert-past zero l k b = refl
  insert-past (suc r) [] k b = absurd (omega arith)
  insert-past (suc r) (m ∷ l) k b =
      let e : before_bytes m n ≡ true = b 0 (omega arith) in
      rw (before-one-way m n e, before-differ m n e) (ap (λ (t : List (List ℕ)). m ∷ t) (insert-past r l (omega arith) (λ i h. b (suc i) (omega arith))))

  module _ (r : ℕ) (l : List (List ℕ)) (k : r ≤ length l) (b : (i : ℕ) → i < r → before_bytes (get_or l i d) n ≡ true) where
    -- behind all of them
    pub insert-last : length l ≤ r → insert_name n l ≡ take r l ++ (n ∷ drop r l)
    unfolding insert_name
    insert-last h = insert-past r l k b ∙ rw (drop_of_length-le l h)

    -- it stands there
    pub insert-there : r < length l → same_bytes n (get_or l r d) ≡ true → insert_name n l ≡ l
    unfolding insert_name
    insert-there h f =
        let e : before_bytes n (get_or l r d) ≡ false = same-not-before n (get_or l r d) f in
        insert-past r l k b ∙ rw (drop-cons l r d h, e, f, ← drop-cons l r d h) (take-append-drop r l)

    -- before the one at r
    pub insert-new : r < length l → before_bytes (get_or l r d) n ≡ false → same_bytes n (get_or l r d) ≡ false → insert_name n l ≡ take r l ++ (n ∷ drop r l)
    unfolding insert_name
    insert-new h e f =
        let g : before_bytes n (get_or l r d) ≡ true = before-total-back n (get_or l r d) e f in
        insert-past r l k b ∙ rw (drop-cons l r d h, g)
