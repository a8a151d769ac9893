-- The index: what it tells of an entry of its table, and that it stays one when a name is added.
use Prim.Native.Nat.{ℕ, zero, suc, ◌+◌, ◌-◌, ◌*◌, ◌≤◌, ◌<◌}
use mathlib.Core.Path.{◌≡◌, refl, sym, ◌∙◌, ap}
use mathlib.Core.List.{List, [], ◌∷◌, ◌++◌}
use mathlib.Core.Bool.{true, false}
use native.Mathlib.Omega.{arith}
use lib.ListN.{length, get_or, take, drop, set, replicate, length-set, length-append, length-drop, get_or-append}
use lib.Seq.{get_or-take, get_or-drop, length-take-le, take-take, get_or-set_same, get_or-set_other, drop-set-lt, drop-set-add, drop-append-le, drop-drop}
use lib.Dec.{eqb}
use borrow.Author.Tests.{eqb-true, eq-eqb}
use Rattle.records.specs.Name.{mem_name}
use Rattle.records.specs.Set.{module_limit}
use Rattle.records.specs.Order.{shifted}
use Rattle.records.specs.Keys.{Keys}
use Rattle.records.specs.Sorted.{names_by, has_position, Gap, entries_in, table_in, KeysAt, put_at, Indexed, entries_slot, first_slot, table_slot, index_length}
use Rattle.records.proofs.Logic.{true≠false, or_left, or_right, or_cases}
use Rattle.records.proofs.order.Laws.{length-shifted, set-take, drop-take}
use Rattle.records.proofs.sorted.Growth.{visible_in, old-name, new-name, sorted-there, sorted-put, sorted_none}
use Rattle.records.proofs.sorted.Visible.{sorted_exactly}

-- ---- positions of a table

pub has-entry : (l : List ℕ) (m : ℕ) → m < length l → has_position (get_or l m 0) l ≡ true
unfolding has_position
has-entry [] m h = absurd (omega arith)
has-entry (p ∷ l) zero h = or_left (eqb p p) (has_position p l) (eq-eqb p p refl)
has-entry (p ∷ l) (suc m) h = or_right (eqb (get_or l m 0) p) (has_position (get_or l m 0) l) (has-entry l m (omega (arith, h)))

has-put : {X : Type 0} (p i r : ℕ) (l : List ℕ) → has_position p (take r l ++ (i ∷ drop r l)) ≡ true → (p ≡ i → X) → (has_position p l ≡ true → X) → X
unfolding has_position
has-put p i zero l h f g = or_cases (eqb p i) (has_position p l) h (λ e. f (eqb-true p i e)) g
has-put p i (suc r) [] h f g = or_cases (eqb p i) false h (λ e. f (eqb-true p i e)) (λ e. true≠false e refl)
has-put p i (suc r) (q ∷ l) h f g =
    or_cases (eqb p q) (has_position p (take r l ++ (i ∷ drop r l))) h
    (λ e. g (or_left (eqb p q) (has_position p l) e))
    (λ e. has-put p i r l e f (λ k. g (or_right (eqb p q) (has_position p l) k)))

-- ---- an entry of the table

module _ (names : List (List ℕ)) (index : List ℕ) (h : Indexed names index) where
  room : length (drop table_slot index) ≡ module_limit
  room = length-drop table_slot index ∙ rw h.long

  pub table_long : length (table_in index) ≡ entries_in index
  unfolding table_in
  table_long = length-take-le (entries_in index) (drop table_slot index) (rw room (omega (arith, h.few, h.most)))

  pub table-few : length (table_in index) ≤ module_limit
  table-few = rw table_long (omega (arith, h.few, h.most))

  pub position_in_lem : (p : ℕ) → has_position p (table_in index) ≡ true → p < length names
  position_in_lem p e = visible_in names p (sym (sorted_exactly names (table_in index) h.sorted p) ∙ e)

  module _ (m : ℕ) (mh : m < entries_in index) where
    pub entry-index : table_slot + m < length index
    entry-index = rw h.long (omega (arith, h.few, h.most))

    pub entry_at : get_or (table_in index) m 0 ≡ get_or index (table_slot + m) 0
    unfolding table_in
    entry_at = get_or-take (entries_in index) (drop table_slot index) m 0 mh ∙ get_or-drop table_slot index m 0

    pub entry_in : get_or index (table_slot + m) 0 < length names
    entry_in = rw entry_at at (position_in_lem (get_or (table_in index) m 0) (has-entry (table_in index) m (rw table_long mh)))

    pub entry-keys : KeysAt names index (get_or index (table_slot + m) 0)
    entry-keys = h.keys (get_or index (table_slot + m) 0) (rw entry_at at (has-entry (table_in index) m (rw table_long mh)))

-- ---- one position more

-- what is shifted behind stays in front
shifted-front : (t : List ℕ) (from count b : ℕ) → b < from → from < length t → get_or (shifted t from count) b 0 ≡ get_or t b 0
unfolding shifted
shifted-front t from count b l h =
    let a : length (take (from + 1) t) ≡ from + 1 = length-take-le (from + 1) t (omega arith) in
    get_or-append (take (from + 1) t) (take (count - from) (drop from t) ++ drop (count + 1) t) 0 b (rw a (omega arith))
    ∙ get_or-take (from + 1) t b 0 (omega arith)

-- and behind the front it is the shift of what stands there
shifted-rest : (t : List ℕ) (f at n : ℕ) → f + at < length t → drop f (shifted t (f + at) (f + n)) ≡ shifted (drop f t) at n
unfolding shifted
shifted-rest t f at n h =
    let a : length (take (f + at + 1) t) ≡ f + at + 1 = length-take-le (f + at + 1) t (omega arith) in
    let b : f + at + 1 - f ≡ at + 1 = omega arith in
    let c : f + n - (f + at) ≡ n - at = omega arith in
    let d : f + n + 1 ≡ f + (n + 1) = omega arith in
    drop-append-le f (take (f + at + 1) t) (take (f + n - (f + at)) (drop (f + at) t) ++ drop (f + n + 1) t) (rw a (omega arith))
    ∙ rw (drop-take f (f + at + 1) t, b, c, d, drop-drop at f t, drop-drop (n + 1) f t)

above : (l : List ℕ) (i j v : ℕ) → i < j → get_or (set l i v) j 0 ≡ get_or l j 0
above l i j v h = get_or-set_other l i j v 0 (omega arith)

under : (l : List ℕ) (i j v : ℕ) → j < i → get_or (set l i v) j 0 ≡ get_or l j 0
under l i j v h = get_or-set_other l i j v 0 (omega arith)

module _ (index : List ℕ) (at i k j len : ℕ) (long : length index ≡ index_length) (it : at ≤ entries_in index) (few : entries_in index < module_limit) (ib : i < module_limit) where
  abbrev s0 : List ℕ
  s0 = shifted index (table_slot + at) (table_slot + entries_in index)

  abbrev s1 : List ℕ
  s1 = set s0 (table_slot + at) i

  abbrev s3 : List ℕ
  s3 = set (set s1 entries_slot (entries_in index + 1)) first_slot at

  abbrev s6 : List ℕ
  s6 = set (set (set s3 (3 * i) k) (3 * i + 1) j) (3 * i + 2) len

  put_is : put_at index at i k j len ≡ s6
  unfolding put_at
  put_is = refl

  long_0 : length s0 ≡ index_length
  long_0 = length-shifted index (table_slot + at) (table_slot + entries_in index) (omega arith) (rw long (omega arith)) ∙ long

  long_3 : length s3 ≡ index_length
  long_3 = length-set (set s1 entries_slot (entries_in index + 1)) first_slot at ∙ length-set s1 entries_slot (entries_in index + 1) ∙ length-set s0 (table_slot + at) i ∙ long_0

  pub put-long : length (put_at index at i k j len) ≡ index_length
  put-long = rw put_is (length-set (set (set s3 (3 * i) k) (3 * i + 1) j) (3 * i + 2) len ∙ length-set (set s3 (3 * i) k) (3 * i + 1) j ∙ length-set s3 (3 * i) k ∙ long_3)

  -- the keys stand in front of the rest
  behind : (b : ℕ) → entries_slot ≤ b → get_or s6 b 0 ≡ get_or s3 b 0
  behind b h =
      above (set (set s3 (3 * i) k) (3 * i + 1) j) (3 * i + 2) b len (omega arith)
      ∙ above (set s3 (3 * i) k) (3 * i + 1) b j (omega arith)
      ∙ above s3 (3 * i) b k (omega arith)

  pub put_entries : entries_in (put_at index at i k j len) ≡ entries_in index + 1
  unfolding entries_in
  put_entries =
      rw put_is
      (behind entries_slot (omega arith)
      ∙ under (set s1 entries_slot (entries_in index + 1)) first_slot entries_slot at (omega arith)
      ∙ get_or-set_same s1 entries_slot (entries_in index + 1) 0 (rw (length-set s0 (table_slot + at) i, long_0) (omega arith)))

  pub put_first : get_or (put_at index at i k j len) first_slot 0 ≡ at
  put_first =
      rw put_is
      (behind first_slot (omega arith)
      ∙ get_or-set_same (set s1 entries_slot (entries_in index + 1)) first_slot at 0 (rw (length-set s1 entries_slot (entries_in index + 1), length-set s0 (table_slot + at) i, long_0) (omega arith)))

  -- the table with i in its place
  rest-is : drop table_slot s6 ≡ set (shifted (drop table_slot index) at (entries_in index)) at i
  rest-is =
      drop-set-lt table_slot (set (set s3 (3 * i) k) (3 * i + 1) j) (3 * i + 2) len (omega arith)
      ∙ drop-set-lt table_slot (set s3 (3 * i) k) (3 * i + 1) j (omega arith)
      ∙ drop-set-lt table_slot s3 (3 * i) k (omega arith)
      ∙ drop-set-lt table_slot (set s1 entries_slot (entries_in index + 1)) first_slot at (omega arith)
      ∙ drop-set-lt table_slot s1 entries_slot (entries_in index + 1) (omega arith)
      ∙ drop-set-add table_slot s0 at i
      ∙ ap (λ (t : List ℕ). set t at i) (shifted-rest index table_slot at (entries_in index) (rw long (omega arith)))

  pub put-table : table_in (put_at index at i k j len) ≡ take at (table_in index) ++ (i ∷ drop at (table_in index))
  unfolding table_in
  put-table =
      let f : entries_in index < length (drop table_slot index) = rw (length-drop table_slot index, long) (omega arith) in
      rw (put_entries, put_is, rest-is, set-take (drop table_slot index) at (entries_in index) i it f, take-take at (entries_in index) (drop table_slot index) it, drop-take at (entries_in index) (drop table_slot index))

  -- the numbers of the names before i stay
  front : (b : ℕ) → b < entries_slot → get_or s3 b 0 ≡ get_or index b 0
  front b h =
      under (set s1 entries_slot (entries_in index + 1)) first_slot b at (omega arith)
      ∙ under s1 entries_slot b (entries_in index + 1) (omega arith)
      ∙ under s0 (table_slot + at) b i (omega arith)
      ∙ shifted-front index (table_slot + at) (table_slot + entries_in index) b (omega arith) (rw long (omega arith))

  pub put-old : (b : ℕ) → b < 3 * i → get_or (put_at index at i k j len) b 0 ≡ get_or index b 0
  put-old b h =
      rw put_is
      (under (set (set s3 (3 * i) k) (3 * i + 1) j) (3 * i + 2) b len (omega arith)
      ∙ under (set s3 (3 * i) k) (3 * i + 1) b j (omega arith)
      ∙ under s3 (3 * i) b k h
      ∙ front b (omega arith))

  pub put-key : get_or (put_at index at i k j len) (3 * i) 0 ≡ k
  put-key =
      rw put_is
      (under (set (set s3 (3 * i) k) (3 * i + 1) j) (3 * i + 2) (3 * i) len (omega arith)
      ∙ under (set s3 (3 * i) k) (3 * i + 1) (3 * i) j (omega arith)
      ∙ get_or-set_same s3 (3 * i) k 0 (rw long_3 (omega arith)))

  pub put_next : get_or (put_at index at i k j len) (3 * i + 1) 0 ≡ j
  put_next =
      rw put_is
      (under (set (set s3 (3 * i) k) (3 * i + 1) j) (3 * i + 2) (3 * i + 1) len (omega arith)
      ∙ get_or-set_same (set s3 (3 * i) k) (3 * i + 1) j 0 (rw (length-set s3 (3 * i) k, long_3) (omega arith)))

  pub put-length : get_or (put_at index at i k j len) (3 * i + 2) 0 ≡ len
  put-length =
      rw put_is
      (get_or-set_same (set (set s3 (3 * i) k) (3 * i + 1) j) (3 * i + 2) len 0
      (rw (length-set (set s3 (3 * i) k) (3 * i + 1) j, length-set s3 (3 * i) k, long_3) (omega arith)))

-- ---- the index of one name more

names_longer : (names : List (List ℕ)) (x : List ℕ) → length (names ++ (x ∷ [])) ≡ length names + 1
names_longer names x = length-append names (x ∷ [])

module _ (names : List (List ℕ)) (index x : List ℕ) (h : Indexed names index) (room : length names < module_limit) where
  more : length (names ++ (x ∷ [])) ≤ module_limit
  more = rw (names_longer names x) (omega arith)

  -- the numbers of a position stay those of its name
  old-keys : (p : ℕ) → p < length names → KeysAt names index p → KeysAt (names ++ (x ∷ [])) index p
  unfolding KeysAt
  old-keys p l q = rw (old-name names x p l) q

  -- its name is there
  pub indexed-there : mem_name x (names_by names (table_in index)) ≡ true → Indexed (names ++ (x ∷ [])) index
  indexed-there e = record {
    long = h.long;
    most = more;
    few = rw (names_longer names x) (omega (arith, h.few));
    first = h.first;
    sorted = sorted-there names x (table_in index) h.sorted e;
    keys = λ p l. old-keys p (position_in_lem names index h p l) (h.keys p l);
  }

  -- it is put in
  module _ (at k j len : ℕ) (g : Gap names (table_in index) x at) (y : Keys x k j len) where
    place : at ≤ entries_in index
    place = rw (table_long names index h) at g.within

    few : entries_in index < module_limit
    few = omega (arith, h.few)

    own : KeysAt (names ++ (x ∷ [])) (put_at index at (length names) k j len) (length names)
    unfolding KeysAt
    own = rw (
      new-name names x,
      put-key index at (length names) k j len h.long place few room,
      put_next index at (length names) k j len h.long place few room,
      put-length index at (length names) k j len h.long place few room,
    ) y

    kept : (p : ℕ) → p < length names → KeysAt (names ++ (x ∷ [])) index p → KeysAt (names ++ (x ∷ [])) (put_at index at (length names) k j len) p
    unfolding KeysAt
    kept p l q = rw (
      put-old index at (length names) k j len h.long place few room (3 * p) (omega arith),
      put-old index at (length names) k j len h.long place few room (3 * p + 1) (omega arith),
      put-old index at (length names) k j len h.long place few room (3 * p + 2) (omega arith),
    ) q

    pub indexed-put : Indexed (names ++ (x ∷ [])) (put_at index at (length names) k j len)
    indexed-put = record {
      long = put-long index at (length names) k j len h.long place few room;
      most = more;
      few = rw (put_entries index at (length names) k j len h.long place few room, names_longer names x) (omega (arith, h.few));
      first = rw (put_entries index at (length names) k j len h.long place few room, put_first index at (length names) k j len h.long place few room) (omega (arith, place));
      sorted = rw (put-table index at (length names) k j len h.long place few room) (sorted-put names x (table_in index) h.sorted at g);
      keys = λ p l. has-put p (length names) at (table_in index) (rw (put-table index at (length names) k j len h.long place few room) at l)
          (λ e. rw e own)
          (λ e. kept p (position_in_lem names index h p e) (old-keys p (position_in_lem names index h p e) (h.keys p e)));
    }

-- an index of no names
pub indexed-none : Indexed [] (replicate index_length 0)
unfolding entries_in table_in has_position
indexed-none = record { long = refl; most = omega arith; few = omega arith; first = omega arith; sorted = sorted_none; keys = λ p l. true≠false l refl }

-- another entry is compared first
module _ (names : List (List ℕ)) (index : List ℕ) (m : ℕ) (h : Indexed names index) where
  first-kept : (p : ℕ) → p < length names → KeysAt names index p → KeysAt names (set index first_slot m) p
  unfolding KeysAt
  first-kept p k q = rw (
    under index first_slot (3 * p) m (omega (arith, h.most)),
    under index first_slot (3 * p + 1) m (omega (arith, h.most)),
    under index first_slot (3 * p + 2) m (omega (arith, h.most)),
  ) q

  first-entries : entries_in (set index first_slot m) ≡ entries_in index
  unfolding entries_in
  first-entries = under index first_slot entries_slot m (omega arith)

  first-table : table_in (set index first_slot m) ≡ table_in index
  unfolding table_in
  first-table = rw (first-entries, drop-set-lt table_slot index first_slot m (omega arith))

  pub indexed-first : m < entries_in index → Indexed names (set index first_slot m)
  indexed-first l =
      let f : get_or (set index first_slot m) first_slot 0 ≡ m = get_or-set_same index first_slot m 0 (rw h.long (omega arith)) in
      record {
        long = length-set index first_slot m ∙ h.long;
        most = h.most;
        few = rw first-entries h.few;
        first = rw (first-entries, f) (omega arith);
        sorted = rw first-table h.sorted;
        keys = λ p q. first-kept p (position_in_lem names index h p (rw first-table at q)) (h.keys p (rw first-table at q));
      }

pub ruleset check_laws = (indexed-none)

pub ruleset check_set_laws = (indexed-none)
