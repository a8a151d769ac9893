-- What each turn of the search and each return of its functions shows.
use Prim.Native.Nat.{ℕ, zero, suc, ◌+◌, ◌-◌, ◌*◌, ◌/◌, ◌≤◌, ◌<◌}
use mathlib.Core.Path.{◌≡◌, refl, sym, ◌∙◌, ap}
use mathlib.Core.List.{List, [], ◌∷◌, ◌++◌, map}
use mathlib.Core.Bool.{Bool, true, false}
use native.Mathlib.Omega.{arith}
use lib.ListN.{length, get_or, take, set, length-map, length-set}
use lib.Seq.{get_or-take, length-take-le}
use mir.Syntax.{w64}
use mir.Val.{Fits}
use mir.Facts.{Fits-below}
use borrow.Author.Tests.{lt-ltb, le-ltb}
use Rattle.records.specs.Bytes.{same_bytes, before_bytes}
use Rattle.records.specs.Set.{name_at, module_limit}
use Rattle.records.specs.Order.{shifted}
use Rattle.records.specs.Finder.{find_name}
use Rattle.records.specs.Keys.{standing, pick_standing, Key, Keys, key_standing, Alike}
use Rattle.records.specs.Sorted.{name_of_position, names_by, middle_of, by_standing, search_at, found_in, search_ten, Held, Gap, Placing, Below, entries_in, table_in, KeysAt, put_at, Indexed, Added, entries_slot, first_slot, table_slot, index_length}
use Rattle.records.specs.Finder.{Found}
use Rattle.std.specs.declared.cmp.Ordering.{Ordering}
use Rattle.records.specs.Sorted.{Place}
use Rattle.records.proofs.Logic.{clash}
use Rattle.records.proofs.bytes.Laws.{same-eq, same_refl}
use Rattle.records.proofs.bytes.Order.{before-total}
use Rattle.records.proofs.order.Laws.{length-shifted}
use Rattle.records.proofs.order.Ordered.{mem-there}
use Rattle.records.proofs.keys.ByteOrder.{keys-before, keys-after, keys-same}
use Rattle.records.proofs.sorted.Search.{middle_high, reach, beyond, by-at, by-long, placing-there, placing-free, search_first, sorted_ten, gap_new}
use Rattle.records.proofs.sorted.Index.{table_long, table-few, entry-index, entry_at, entry_in, entry-keys, indexed-there, indexed-put, indexed-first}
use Rattle.std.specs.Prelude.{Some, None, Ok, Err}
use Rattle.std.specs.declared.cmp.Ordering.TheVariants.{Less, Equal, Greater}

-- ---- the middle

middle_least : (low high : ℕ) → low ≤ middle_of low high
unfolding middle_of
middle_least low high = omega arith

-- ---- an entry of the table and its name

module _ (s t : List ℕ) (count : ℕ) (it : count ≤ length t) where
  pub names-long : length (map (name_at s) (take count t)) ≡ count
  names-long = length-map (take count t) (name_at s) ∙ length-take-le count t it

  name_of : (l : List ℕ) (p : ℕ) → p < length l → get_or (map (name_at s) l) p [] ≡ name_at s (get_or l p 0)
  name_of [] p h = absurd (omega arith)
  name_of (a ∷ l) zero h = refl
  name_of (a ∷ l) (suc p) h = name_of l p (omega (arith, h))

  pub position-name : (p : ℕ) → p < count → name_of_position (map (name_at s) (take count t)) p ≡ name_at s (get_or t p 0)
  unfolding name_of_position
  position-name p h = name_of (take count t) p (rw (length-take-le count t it) h) ∙ ap (name_at s) (get_or-take count t p 0 h)

module _ (s t : List ℕ) (count : ℕ) (index : List ℕ) (it : count ≤ length t) (h : Indexed (map (name_at s) (take count t)) index) (m : ℕ) (mh : m < entries_in index) where
  below-count : get_or index (table_slot + m) 0 < count
  below-count = rw (names-long s t count it) at (entry_in (map (name_at s) (take count t)) index h m mh)

  pub entry-slot : table_slot + m < length index
  entry-slot = entry-index (map (name_at s) (take count t)) index h m mh

  pub entry-long : length index ≡ index_length
  entry-long = h.long

  pub entry-small : get_or index (table_slot + m) 0 < module_limit
  entry-small = omega (arith, entry_in (map (name_at s) (take count t)) index h m mh, h.most)

  pub entry-start : get_or index (table_slot + m) 0 < length t
  entry-start = omega (arith, below-count)

  name_is : name_of_position (map (name_at s) (take count t)) (get_or index (table_slot + m) 0) ≡ name_at s (get_or t (get_or index (table_slot + m) 0) 0)
  name_is = position-name s t count it (get_or index (table_slot + m) 0) below-count

  named-keys : Keys (name_at s (get_or t (get_or index (table_slot + m) 0) 0)) (get_or index (3 * get_or index (table_slot + m) 0) 0) (get_or index (3 * get_or index (table_slot + m) 0 + 1) 0) (get_or index (3 * get_or index (table_slot + m) 0 + 2) 0)
  unfolding KeysAt
  named-keys = rw name_is at (entry-keys (map (name_at s) (take count t)) index h m mh)

  pub entry_length : get_or index (3 * get_or index (table_slot + m) 0 + 2) 0 ≡ length (name_at s (get_or t (get_or index (table_slot + m) 0) 0))
  entry_length = named-keys.long

  pub entry-name : name_of_position (map (name_at s) (take count t)) (get_or (table_in index) m 0) ≡ name_at s (get_or t (get_or index (table_slot + m) 0) 0)
  entry-name = rw (entry_at (map (name_at s) (take count t)) index h m mh) name_is

  module _ (name : List ℕ) (k j : ℕ) (kk : Key name 0 k) (jj : Key name 8 j) (a b : ℕ) (ea : a ≡ get_or index (3 * get_or index (table_slot + m) 0) 0) (eb : b ≡ get_or index (3 * get_or index (table_slot + m) 0 + 1) 0)
      (c : Ordering) (ec : c ≡ key_standing a b k j) where
    told : c ≡ key_standing (get_or index (3 * get_or index (table_slot + m) 0) 0) (get_or index (3 * get_or index (table_slot + m) 0 + 1) 0) k j
    told = ec ∙ rw (ea, eb)

    pub entry-alike : c ≡ Equal → Alike (name_at s (get_or t (get_or index (table_slot + m) 0) 0)) name
    entry-alike e = keys-same (name_at s (get_or t (get_or index (table_slot + m) 0) 0)) name
        (get_or index (3 * get_or index (table_slot + m) 0) 0) (get_or index (3 * get_or index (table_slot + m) 0 + 1) 0) (get_or index (3 * get_or index (table_slot + m) 0 + 2) 0) k j named-keys kk jj (sym told ∙ e)

    pub entry-before : c ≡ Less → Less ≡ standing (name_of_position (map (name_at s) (take count t)) (get_or (table_in index) m 0)) name
    entry-before e = sym (rw entry-name (keys-before (name_at s (get_or t (get_or index (table_slot + m) 0) 0)) name
        (get_or index (3 * get_or index (table_slot + m) 0) 0) (get_or index (3 * get_or index (table_slot + m) 0 + 1) 0) (get_or index (3 * get_or index (table_slot + m) 0 + 2) 0) k j named-keys kk jj (sym told ∙ e)))

    pub entry-after : c ≡ Greater → Greater ≡ standing (name_of_position (map (name_at s) (take count t)) (get_or (table_in index) m 0)) name
    entry-after e = sym (rw entry-name (keys-after (name_at s (get_or t (get_or index (table_slot + m) 0) 0)) name
        (get_or index (3 * get_or index (table_slot + m) 0) 0) (get_or index (3 * get_or index (table_slot + m) 0 + 1) 0) (get_or index (3 * get_or index (table_slot + m) 0 + 2) 0) k j named-keys kk jj (sym told ∙ e)))

  pub entry-told : (name : List ℕ) (d : Ordering) → d ≡ standing (name_at s (get_or t (get_or index (table_slot + m) 0) 0)) name
      → d ≡ standing (name_of_position (map (name_at s) (take count t)) (get_or (table_in index) m 0)) name
  entry-told name d e = e ∙ rw entry-name

pub ruleset entry_laws = (entry-slot, entry-long, entry-small, entry-start, entry_length, entry-alike, entry-before, entry-after, entry-told)

-- ---- the search

-- what is found among all entries is what is found among those from low up to high, with the comparisons that are left
pub record SeekAt (s t : List ℕ) (count : ℕ) (index : List ℕ) (first : ℕ) (name : List ℕ) (k j low high m tried : ℕ) : Type 0 where
  pub in-starts : count ≤ length t
  pub indexed : Indexed (map (name_at s) (take count t)) index
  pub first_key : Key name 0 k
  pub next_key : Key name 8 j
  pub order : low ≤ high
  pub within : high ≤ entries_in index
  pub least : low ≤ m
  pub inside : low < high → m < high
  pub most : m ≤ high
  pub is : search_at 10 (map (name_at s) (take count t)) (table_in index) name 0 first (length (table_in index))
      ≡ search_at (10 - tried) (map (name_at s) (take count t)) (table_in index) name low m high

pub seek-long : (s t : List ℕ) (count : ℕ) (index : List ℕ) → Indexed (map (name_at s) (take count t)) index → entries_slot < length index
seek-long s t count index h = rw h.long (omega arith)

pub seek-start : (s t : List ℕ) (count : ℕ) (index : List ℕ) (first : ℕ) (name : List ℕ) (k j : ℕ) → count ≤ length t → Indexed (map (name_at s) (take count t)) index
    → first ≤ entries_in index - 1 → Key name 0 k → Key name 8 j → SeekAt s t count index first name k j 0 (get_or index entries_slot 0) first 0
unfolding entries_in
seek-start s t count index first name k j it h f kk jj = record {
  in-starts = it;
  indexed = h;
  first_key = kk;
  next_key = jj;
  order = omega arith;
  within = omega arith;
  least = omega arith;
  inside = λ l. omega arith;
  most = omega arith;
  is = rw (table_long (map (name_at s) (take count t)) index h);
}

module _ (s t : List ℕ) (count : ℕ) (index : List ℕ) (first : ℕ) (name : List ℕ) (k j low high m tried : ℕ) (h : SeekAt s t count index first name k j low high m tried) where
  pub seek-empty : tried < 10 → high ≤ low → Err low ≡ search_at 10 (map (name_at s) (take count t)) (table_in index) name 0 first (length (table_in index))
  unfolding search_at
  seek-empty z l = sym (h.is ∙ go (10 - tried) (omega arith))
    where
      go : (q : ℕ) → 0 < q → search_at q (map (name_at s) (take count t)) (table_in index) name low m high ≡ Err low
      go zero w = absurd (omega arith)
      go (suc q) w = rw (le-ltb low high l)

  pub seek-out : 10 ≤ tried → Err low ≡ search_at 10 (map (name_at s) (take count t)) (table_in index) name 0 first (length (table_in index))
  unfolding search_at
  seek-out z = sym (h.is ∙ go (10 - tried) (omega arith))
    where
      go : (q : ℕ) → q ≤ 0 → search_at q (map (name_at s) (take count t)) (table_in index) name low m high ≡ Err low
      go zero w = refl
      go (suc q) w = absurd (omega arith)

  module _ (l : low < high) where
    pub seek-inside : m < entries_in index
    seek-inside = omega (arith, h.inside l, h.within)

    pub seek-fits : m + 1 ≤ high
    seek-fits = omega (arith, h.inside l)

    module _ (z : tried < 10) (d : Ordering) (ed : d ≡ standing (name_of_position (map (name_at s) (take count t)) (get_or (table_in index) m 0)) name) where
      turn : search_at 10 (map (name_at s) (take count t)) (table_in index) name 0 first (length (table_in index))
          ≡ by_standing d (Ok m)
          (search_at (10 - (tried + 1)) (map (name_at s) (take count t)) (table_in index) name (m + 1) (middle_of (m + 1) high) high)
          (search_at (10 - (tried + 1)) (map (name_at s) (take count t)) (table_in index) name low (middle_of low m) m)
      unfolding search_at
      turn = h.is ∙ go (10 - tried) (10 - (tried + 1)) (omega arith)
        where
          go : (q p : ℕ) → q ≡ suc p → search_at q (map (name_at s) (take count t)) (table_in index) name low m high
              ≡ by_standing d (Ok m)
              (search_at p (map (name_at s) (take count t)) (table_in index) name (m + 1) (middle_of (m + 1) high) high)
              (search_at p (map (name_at s) (take count t)) (table_in index) name low (middle_of low m) m)
          go q p e = rw (e, lt-ltb low high l, ← ed)

      seek-up : d ≡ Less → (m' : ℕ) → m' ≡ middle_of (m + 1) high → m' ≤ high → SeekAt s t count index first name k j (m + 1) high m' (tried + 1)
      seek-up e m' em mm = record {
        in-starts = h.in-starts;
        indexed = h.indexed;
        first_key = h.first_key;
        next_key = h.next_key;
        order = omega (arith, h.inside l);
        within = h.within;
        least = rw em (middle_least (m + 1) high);
        inside = λ q. rw em (middle_high (m + 1) high q);
        most = mm;
        is = turn ∙ rw (e, em);
      }

      seek-down : d ≡ Greater → (m' : ℕ) → m' ≡ middle_of low m → m' ≤ m → SeekAt s t count index first name k j low m m' (tried + 1)
      seek-down e m' em mm = record {
        in-starts = h.in-starts;
        indexed = h.indexed;
        first_key = h.first_key;
        next_key = h.next_key;
        order = h.least;
        within = omega (arith, h.inside l, h.within);
        least = rw em (middle_least low m);
        inside = λ q. rw em (middle_high low m q);
        most = mm;
        is = turn ∙ rw (e, em);
      }

      pub seek-there : d ≡ Equal → Ok m ≡ search_at 10 (map (name_at s) (take count t)) (table_in index) name 0 first (length (table_in index))
      seek-there e = sym (turn ∙ rw e)

  -- one more turn: what was compared stands before the name, or behind it
  module _ (l : low < high) (z : tried < 10) (d : Ordering) (ed : d ≡ standing (name_of_position (map (name_at s) (take count t)) (get_or (table_in index) m 0)) name)
      (low' high' m' : ℕ) where
    pub seek-less : d ≡ Less → low' ≡ m + 1 → high' ≡ high → m' ≡ middle_of (m + 1) high → m' ≤ high → SeekAt s t count index first name k j low' high' m' (tried + 1)
    seek-less e el eh em mm = rw (el, eh) (seek-up l z d ed e m' em mm)

    pub seek-greater : d ≡ Greater → low' ≡ low → high' ≡ m → m' ≡ middle_of low m → m' ≤ m → SeekAt s t count index first name k j low' high' m' (tried + 1)
    seek-greater e el eh em mm = rw (el, eh) (seek-down l z d ed e m' em mm)

  pub seek-order : low ≤ m
  seek-order = h.least

pub ruleset seek_laws = (seek-long, seek-start, seek-empty, seek-out, seek-inside, seek-fits, seek-there, seek-less, seek-greater, seek-order)

-- ---- the module of a name

-- where the search ends
module _ (names : List (List ℕ)) (index : List ℕ) (h : Indexed names index) (first : ℕ) (f : first ≤ entries_in index - 1) (name : List ℕ) where
  pub sought-placing : (r : Place) → r ≡ search_at 10 names (table_in index) name 0 first (length (table_in index)) → Placing names (table_in index) name r
  sought-placing r e =
      let q : first ≤ length (table_in index) - 1 = rw (table_long names index h) f in
      rw e (search_first names 9 (table_in index) name h.sorted.ascending first q (table-few names index h))

module _ (s t : List ℕ) (count : ℕ) (index : List ℕ) (it : count ≤ length t) (h : Indexed (map (name_at s) (take count t)) index) where
  pub find-slot : first_slot < length index
  find-slot = rw h.long (omega arith)

  pub find_first : get_or index first_slot 0 ≤ entries_in index - 1
  find_first = h.first

  module _ (name : List ℕ) (r : Place)
      (er : r ≡ search_at 10 (map (name_at s) (take count t)) (table_in index) name 0 (get_or index first_slot 0) (length (table_in index))) where
    walk : (f : Found) → f ≡ search_ten (map (name_at s) (take count t)) (table_in index) (get_or index first_slot 0) name → f ≡ find_name (map (name_at s) (take count t)) name 0
    walk f e =
        e ∙ sorted_ten (map (name_at s) (take count t)) (table_in index) h.sorted name (get_or index first_slot 0)
        (rw (table_long (map (name_at s) (take count t)) index h) h.first) (table-few (map (name_at s) (take count t)) index h)

    held : (m : ℕ) → r ≡ Ok m → m < entries_in index
    held m e =
        let p : Held (map (name_at s) (take count t)) (table_in index) name m = (sought-placing (map (name_at s) (take count t)) index h (get_or index first_slot 0) h.first name r er).there m e in
        rw (table_long (map (name_at s) (take count t)) index h) at p.within

    pub find-entry : (m : ℕ) → r ≡ Ok m → table_slot + m < length index
    find-entry m e = entry-slot s t count index it h m (held m e)

    pub find-entry-fits : (m : ℕ) → r ≡ Ok m → Fits w64 (table_slot + m)
    find-entry-fits m e = let l : table_slot + m < index_length = rw h.long at (find-entry m e) in Fits-below {n = index_length} tt (omega (arith, l))

    pub find-entry-scaled : (m : ℕ) → r ≡ Ok m → Fits w64 ((table_slot + m) * 8)
    find-entry-scaled m e = let l : table_slot + m < index_length = rw h.long at (find-entry m e) in Fits-below {n = 16400} tt (omega (arith, l))

    pub find-there : (m : ℕ) → r ≡ Ok m → Some (get_or index (table_slot + m) 0) ≡ search_ten (map (name_at s) (take count t)) (table_in index) (get_or index first_slot 0) name
    unfolding search_ten found_in
    find-there m e = rw (← er, e) (ap Some (sym (entry_at (map (name_at s) (take count t)) index h m (held m e))))

    pub find-there-walk : (m : ℕ) → r ≡ Ok m → Some (get_or index (table_slot + m) 0) ≡ find_name (map (name_at s) (take count t)) name 0
    find-there-walk m e = walk (Some (get_or index (table_slot + m) 0)) (find-there m e)

    pub find-free : (m : ℕ) → r ≡ Err m → None ≡ search_ten (map (name_at s) (take count t)) (table_in index) (get_or index first_slot 0) name
    unfolding search_ten found_in
    find-free m e = rw (← er, e)

    pub find-free-walk : (m : ℕ) → r ≡ Err m → None ≡ find_name (map (name_at s) (take count t)) name 0
    find-free-walk m e = walk None (find-free m e)

pub ruleset find_laws = (find-slot, find_first, find-entry, find-entry-fits, find-entry-scaled, find-there, find-there-walk, find-free, find-free-walk)

-- ---- where a name belongs

module _ (a b : List ℕ) where
  standing-same : standing a b ≡ Equal → same_bytes a b ≡ true
  unfolding standing
  standing-same e = go (before_bytes a b) (same_bytes a b) refl e
    where
      go : (p q : Bool) → same_bytes a b ≡ q → pick_standing p Less (pick_standing q Equal Greater) ≡ Equal → same_bytes a b ≡ true
      go true q eq h = clash (cc)
      go false true eq h = eq
      go false false eq h = clash (cc)

  standing-before : standing a b ≡ Less → before_bytes a b ≡ true
  unfolding standing
  standing-before e = go (before_bytes a b) refl (same_bytes a b) e
    where
      go : (p : Bool) → before_bytes a b ≡ p → (q : Bool) → pick_standing p Less (pick_standing q Equal Greater) ≡ Less → before_bytes a b ≡ true
      go true ep q h = ep
      go false ep true h = clash (cc)
      go false ep false h = clash (cc)

  standing-after : standing a b ≡ Greater → before_bytes b a ≡ true
  unfolding standing
  standing-after e = go (before_bytes a b) refl (same_bytes a b) refl e
    where
      go : (p : Bool) → before_bytes a b ≡ p → (q : Bool) → same_bytes a b ≡ q → pick_standing p Less (pick_standing q Equal Greater) ≡ Greater → before_bytes b a ≡ true
      go true ep q eq h = clash (cc)
      go false ep true eq h = clash (cc)
      go false ep false eq h = before-total a b ep eq

module _ (names : List (List ℕ)) (index : List ℕ) (h : Indexed names index) (name : List ℕ) where
  pub place-slot : entries_slot < length index
  place-slot = rw h.long (omega arith)

  pub place-first-slot : first_slot < length index
  place-first-slot = rw h.long (omega arith)

  pub place-half : get_or index entries_slot 0 / 2 ≤ entries_in index - 1
  unfolding entries_in
  place-half = omega arith

  pub place-sought : (first : ℕ) (r : Place) → first ≤ entries_in index - 1 → r ≡ search_at 10 names (table_in index) name 0 first (length (table_in index)) → Placing names (table_in index) name r
  place-sought first r f e = sought-placing names index h first f name r e

  -- no entry
  pub place_none : get_or index entries_slot 0 ≡ 0 → Placing names (table_in index) name (Err 0)
  unfolding entries_in
  place_none z =
      let q : length (table_in index) ≡ 0 = table_long names index h ∙ z in
      placing-free names (table_in index) name 0 (record { within = omega arith; below = λ i l. absurd (omega arith); above = λ i l k. absurd (omega (arith, k, q)) })

  pub place-some : (get_or index entries_slot 0 ≡ 0 → ⊥) → get_or index first_slot 0 < entries_in index
  unfolding entries_in
  place-some z = omega (arith, h.first)

  module _ (m : ℕ) (c : Ordering) (ec : c ≡ standing (name_of_position names (get_or (table_in index) m 0)) name) (l : m < entries_in index) where
    pub place_same : c ≡ Equal → Placing names (table_in index) name (Ok m)
    place_same e = placing-there names (table_in index) name m (rw (table_long names index h) l)
        (standing-same (name_of_position names (get_or (table_in index) m 0)) name (sym ec ∙ e))

    pub place-below : c ≡ Less → Below names (table_in index) name (m + 1)
    place-below e = record {
      all = reach names (table_in index) name h.sorted.ascending m (rw (table_long names index h) l)
          (standing-before (name_of_position names (get_or (table_in index) m 0)) name (sym ec ∙ e));
    }

    -- the entries below it stand before the name, and it stands behind it
    pub place_here : c ≡ Greater → Below names (table_in index) name m → Placing names (table_in index) name (Err m)
    place_here e b = placing-free names (table_in index) name m (record {
      within = rw (table_long names index h) (omega arith);
      below = b.all;
      above = beyond names (table_in index) name h.sorted.ascending m (standing-after (name_of_position names (get_or (table_in index) m 0)) name (sym ec ∙ e));
    })

  -- behind the entry that was put in last
  pub place-behind : (c : Ordering) → c ≡ standing (name_of_position names (get_or (table_in index) (get_or index first_slot 0) 0)) name → c ≡ Less → (get_or index entries_slot 0 ≡ 0 → ⊥)
      → Below names (table_in index) name (get_or index first_slot 0 + 1)
  place-behind c ec e z = place-below (get_or index first_slot 0) c ec (place-some z) e

  -- behind the last
  pub place-last : (m : ℕ) → m ≡ get_or index entries_slot 0 → Below names (table_in index) name m → Placing names (table_in index) name (Err (get_or index entries_slot 0))
  unfolding entries_in
  place-last m e b =
      let q : length (table_in index) ≡ get_or index entries_slot 0 = table_long names index h in
      placing-free names (table_in index) name (get_or index entries_slot 0) (record { within = omega (arith, q); below = rw (← e) b.all; above = λ i l k. absurd (omega (arith, l, k, q)) })

  pub place-inner : (m : ℕ) → (m ≡ get_or index entries_slot 0 → ⊥) → m ≤ entries_in index → m < entries_in index
  unfolding entries_in
  place-inner m z l = omega arith

  pub place-next : (m : ℕ) → m < entries_in index → m + 1 ≤ entries_in index
  place-next m l = omega arith

pub ruleset place_laws = (place-slot, place-first-slot, place-half, place-sought, place_none, place-some, place_same, place-below, place-behind, place_here, place-last, place-inner, place-next)

-- ---- a position put in its place

module _ (index : List ℕ) (at : ℕ) (long : length index ≡ index_length) (it : at ≤ entries_in index) (few : entries_in index < module_limit) where
  pub put-n : Fits w64 (table_slot + get_or index entries_slot 0)
  unfolding entries_in
  put-n = Fits-below {n = index_length} tt (omega arith)

  pub put-n-fits : Fits w64 (get_or index entries_slot 0 + 1)
  unfolding entries_in
  put-n-fits = Fits-below {n = module_limit} tt (omega arith)

  pub put-from : table_slot + at ≤ table_slot + get_or index entries_slot 0
  unfolding entries_in
  put-from = omega arith

  pub put-room : table_slot + get_or index entries_slot 0 < length index
  unfolding entries_in
  put-room = rw long (omega arith)

  module _ (s₀ : List ℕ) (e : s₀ ≡ shifted index (table_slot + at) (table_slot + get_or index entries_slot 0)) where
    shifted-long : length s₀ ≡ index_length
    unfolding entries_in
    shifted-long = ap length e ∙ length-shifted index (table_slot + at) (table_slot + get_or index entries_slot 0) (omega arith) (rw long (omega arith)) ∙ long

    pub put-at : table_slot + at < length s₀
    unfolding entries_in
    put-at = rw shifted-long (omega arith)

    module _ (i : ℕ) where
      abbrev s1 : List ℕ
      s1 = set s₀ (table_slot + at) i

      long_1 : length s1 ≡ index_length
      long_1 = length-set s₀ (table_slot + at) i ∙ shifted-long

      pub put-write_1 : entries_slot < length (set s₀ (table_slot + at) i)
      put-write_1 = rw long_1 (omega arith)

      module _ (n : ℕ) where
        long_2 : length (set s1 entries_slot n) ≡ index_length
        long_2 = length-set s1 entries_slot n ∙ long_1

        pub put-write_2 : first_slot < length (set (set s₀ (table_slot + at) i) entries_slot n)
        put-write_2 = rw long_2 (omega arith)

        module _ (ib : i < module_limit) where
          long_3 : length (set (set s1 entries_slot n) first_slot at) ≡ index_length
          long_3 = length-set (set s1 entries_slot n) first_slot at ∙ long_2

          pub put-write_3 : 3 * i < length (set (set (set s₀ (table_slot + at) i) entries_slot n) first_slot at)
          put-write_3 = rw long_3 (omega arith)

          module _ (k : ℕ) where
            long_4 : length (set (set (set s1 entries_slot n) first_slot at) (3 * i) k) ≡ index_length
            long_4 = length-set (set (set s1 entries_slot n) first_slot at) (3 * i) k ∙ long_3

            pub put-write_4 : 3 * i + 1 < length (set (set (set (set s₀ (table_slot + at) i) entries_slot n) first_slot at) (3 * i) k)
            put-write_4 = rw long_4 (omega arith)

            pub put-write_5 : (j : ℕ) → 3 * i + 2 < length (set (set (set (set (set s₀ (table_slot + at) i) entries_slot n) first_slot at) (3 * i) k) (3 * i + 1) j)
            put-write_5 j = rw (length-set (set (set (set s1 entries_slot n) first_slot at) (3 * i) k) (3 * i + 1) j, long_4) (omega arith)

      pub put-told : (k j len : ℕ) → set (set (set (set (set (set s₀ (table_slot + at) i) entries_slot (get_or index entries_slot 0 + 1)) first_slot at) (3 * i) k) (3 * i + 1) j) (3 * i + 2) len ≡ put_at index at i k j len
      unfolding put_at entries_in
      put-told k j len = rw e

pub ruleset put_laws = (put-n, put-n-fits, put-from, put-room, put-at, put-write_1, put-write_2, put-write_3, put-write_4, put-write_5, put-told)

-- ---- one name more

module _ (s t : List ℕ) (count : ℕ) (index : List ℕ) (it : count ≤ length t) (few : count < module_limit) (h : Indexed (map (name_at s) (take count t)) index) (name : List ℕ) where
  room : length (map (name_at s) (take count t)) < module_limit
  room = rw (names-long s t count it) few

  pub add-long : length index ≡ index_length
  add-long = h.long

  pub add-few : entries_in index < module_limit
  add-few = omega (arith, h.few, names-long s t count it)

  module _ (r : Place) (p : Placing (map (name_at s) (take count t)) (table_in index) name r) where
    pub add-there : (m : ℕ) → r ≡ Ok m → Added (map (name_at s) (take count t)) name index false
    add-there m e =
        let d : Held (map (name_at s) (take count t)) (table_in index) name m = p.there m e in
        let q : get_or (names_by (map (name_at s) (take count t)) (table_in index)) m [] ≡ name =
        by-at (map (name_at s) (take count t)) (table_in index) m d.within ∙ same-eq (name_of_position (map (name_at s) (take count t)) (get_or (table_in index) m 0)) name d.same in
        record {
          indexed = indexed-there (map (name_at s) (take count t)) index name h room
              (mem-there name [] m (names_by (map (name_at s) (take count t)) (table_in index)) (rw (by-long (map (name_at s) (take count t)) (table_in index)) d.within) (rw q (same_refl name)));
          new = λ f. clash (cc);
        }

    pub add-place : (at : ℕ) → r ≡ Err at → at ≤ entries_in index
    add-place at e = rw (table_long (map (name_at s) (take count t)) index h) at (p.free at e).within

    pub add-new : (at k j : ℕ) (index' : List ℕ) → r ≡ Err at → Key name 0 k → Key name 8 j → index' ≡ put_at index at count k j (length name)
        → Added (map (name_at s) (take count t)) name index' true
    add-new at k j index' e kk jj ei =
        let g : Gap (map (name_at s) (take count t)) (table_in index) name at = p.free at e in
        let x : Indexed (map (name_at s) (take count t) ++ (name ∷ [])) (put_at index at (length (map (name_at s) (take count t))) k j (length name)) =
        indexed-put (map (name_at s) (take count t)) index name h room at k j (length name) g (record { first = kk; next = jj; long = refl }) in
        record {
          indexed = rw ei (rw (names-long s t count it) at x);
          new = λ f. gap_new (map (name_at s) (take count t)) (table_in index) h.sorted name at g;
        }

pub ruleset add_laws = (add-long, add-few, add-there, add-place, add-new)

-- ---- java.base first

module _ (names : List (List ℕ)) (index : List ℕ) (h : Indexed names index) where
  pub first-slot : entries_slot < length index
  first-slot = rw h.long (omega arith)

  pub first-index : first_slot < length index
  first-index = rw h.long (omega arith)

  pub first-half : get_or index entries_slot 0 / 2 ≤ entries_in index - 1
  unfolding entries_in
  first-half = omega arith

  pub first-there : (name : List ℕ) (r : Place) (m : ℕ) → r ≡ search_at 10 names (table_in index) name 0 (get_or index entries_slot 0 / 2) (length (table_in index)) → r ≡ Ok m → Indexed names (set index first_slot m)
  first-there name r m er e =
      let p : Held names (table_in index) name m = (sought-placing names index h (get_or index entries_slot 0 / 2) first-half name r er).there m e in
      indexed-first names index m h (rw (table_long names index h) at p.within)

pub ruleset first_laws = (first-slot, first-index, first-half, first-there)
