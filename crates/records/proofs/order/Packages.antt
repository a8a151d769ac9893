-- What each turn of the walk over the records of one kind shows.
use Prim.Native.Nat.{ℕ, zero, suc, ◌+◌, ◌-◌, ◌*◌, ◌/◌, ◌%◌, ◌^◌, ◌≤◌, ◌<◌}
use mathlib.Core.Path.{◌≡◌, refl, sym, ◌∙◌, ap}
use mathlib.Core.List.{List, [], ◌∷◌, map}
use mathlib.Core.Bool.{true}
use native.Mathlib.Omega.{arith}
use lib.ListN.{length, get_or, take, drop, length-drop}
use lib.Seq.{take-nil, drop-drop}
use Rattle.records.specs.Name.{name_of}
use Rattle.records.specs.Record.{bodies, next_of}
use borrow.Author.Tests.{le-leb}
use Rattle.records.specs.Order.{ordered_from, ordered, is_ordered, all_names, is_short, all_short, name_in, packages_of, Inserted, NamesInserted, PackagesOrdered}
use Rattle.records.specs.Record.{Next}
use Rattle.records.specs.declared.record.Kind.{Kind}
use Rattle.records.specs.declared.record.Kind.TheVariants.{Package}
use Rattle.records.proofs.order.Laws.{drop-take}
use Rattle.records.proofs.order.Ordered.{insert_all}
use Rattle.records.proofs.record.Bodies.{bodies-next, bodies-end, next-room, next-later, next-less, next-within, body-room}
use Rattle.std.specs.Prelude.{Some, None}
use Rattle.records.specs.declared.record.Span.{Span}

-- ---- the entry of a name

take_short : (k : ℕ) (x : List ℕ) → length (take k x) ≤ length x
take_short zero x = omega arith
take_short (suc k) [] = omega arith
take_short (suc k) (y ∷ x) = let l : length (take k x) ≤ length x = take_short k x in omega arith

take-most : (k : ℕ) (x : List ℕ) → length (take k x) ≤ k
take-most zero x = omega arith
take-most (suc k) [] = omega arith
take-most (suc k) (y ∷ x) = let l : length (take k x) ≤ k = take-most k x in omega arith

take-prefix : (k m o : ℕ) (x : List ℕ) → take (length (take k (take m (take o x)))) x ≡ take k (take m (take o x))
take-prefix zero m o x = refl
take-prefix (suc k) zero o x = refl
take-prefix (suc k) (suc m) zero x = refl
take-prefix (suc k) (suc m) (suc o) [] = refl
take-prefix (suc k) (suc m) (suc o) (y ∷ x) = ap (λ (l : List ℕ). y ∷ l) (take-prefix k m o x)

drop-first : (len : ℕ) (x : List ℕ) → drop 1 (take len x) ≡ take (len - 1) (drop 1 x)
drop-first zero x = refl
drop-first (suc m) [] = sym (take-nil (suc m - 1))
drop-first (suc m) (y ∷ x) = let e : suc m - 1 ≡ m = omega arith in rw e

-- the entry of the bytes behind a length byte tells them
pub entry-is : (s n : List ℕ) (at : ℕ) → length n ≤ 65535 → take (length n) (drop (at + 1) s) ≡ n → name_in s ((at + 1) * 65536 + length n) ≡ n
unfolding name_in
entry-is s n at l e =
    let a : ((at + 1) * 65536 + length n) / 65536 ≡ at + 1 = omega arith in
    let r : ((at + 1) * 65536 + length n) % 65536 ≡ length n = omega arith in
    rw (a, r) e

-- the name in front of a body of the first `to` bytes
module _ (s source b n : List ℕ) (to start len : ℕ) (ec : source ≡ take to s) (eb : b ≡ take len (drop start source)) (en : n ≡ name_of b) where
  part_of : n ≡ take (get_or b 0 0) (take (len - 1) (take (to - (start + 1)) (drop (start + 1) s)))
  unfolding name_of
  part_of =
      en
      ∙ ap (take (get_or b 0 0))
      (ap (drop 1) eb ∙ drop-first len (drop start source) ∙ ap (take (len - 1)) (drop-drop 1 start source ∙ ap (drop (start + 1)) ec ∙ drop-take (start + 1) to s))

  pub name-short : length n ≤ length s
  name-short =
      omega (arith, ap length part_of, take_short (get_or b 0 0) (take (len - 1) (take (to - (start + 1)) (drop (start + 1) s))), take_short (len - 1) (take (to - (start + 1)) (drop (start + 1) s)), take_short (to - (start + 1)) (drop (start + 1) s), length-drop (start + 1) s)

  pub entry-name : length s ≤ 65535 → name_in s ((start + 1) * 65536 + length n) ≡ n
  entry-name h =
      entry-is s n start (omega (arith, name-short)) (rw (← part_of) at (take-prefix (get_or b 0 0) (len - 1) (to - (start + 1)) (drop (start + 1) s)))

pub short_is : (n : List ℕ) → length n ≤ 255 → is_short n ≡ true
unfolding is_short
short_is n l = le-leb (length n) 255 l

-- ---- the walk

-- what stays behind k stays behind more
pub rest_more : (k m : ℕ) (x y z : List ℕ) → k ≤ m → drop m x ≡ drop m y → drop k y ≡ drop k z → drop m x ≡ drop m z
rest_more k m x y z l e f =
    let d : k + (m - k) ≡ m = omega arith in
    e ∙ (rw (drop-drop (m - k) k y, drop-drop (m - k) k z, d) at (ap (drop (m - k)) f))

-- the names before `at` are in the table, and those from `at` on are still to come
pub record NamesAt (s : List ℕ) (from to : ℕ) (kind : Kind) (t : List ℕ) (count : ℕ) (source table : List ℕ) (n at : ℕ) : Type 0 where
  pub short : length s ≤ 65535
  pub wide : 4 * count + (to - from) ≤ 4 * length t
  pub cut : source ≡ take to s
  pub long : length table ≡ length t
  pub few : 4 * n + (to - at) ≤ 4 * count + (to - from)
  pub small : all_short (map (name_in s) (take count t)) ≡ true → all_short (map (name_in s) (take n table)) ≡ true
  pub sorted : is_ordered (map (name_in s) (take n table)) ≡ true
  pub rest : drop n table ≡ drop n t
  pub left : ordered_from (map (name_in s) (take count t)) (map name_of (bodies kind (drop from (take to s))))
      ≡ ordered_from (map (name_in s) (take n table)) (map name_of (bodies kind (drop at source)))

pub names-start : (s : List ℕ) (from to : ℕ) (kind : Kind) (t : List ℕ) (count : ℕ) (source : List ℕ) → length s ≤ 65535
    → 4 * count + (to - from) ≤ 4 * length t → is_ordered (map (name_in s) (take count t)) ≡ true → source ≡ take to s
    → NamesAt s from to kind t count source t count from
names-start s from to kind t count source h w o ec = record {
  short = h;
  wide = w;
  cut = ec;
  long = refl;
  few = omega arith;
  small = λ a. a;
  sorted = o;
  rest = refl;
  left = rw ec;
}

module _ (s : List ℕ) (from to : ℕ) (kind : Kind) (t : List ℕ) (count : ℕ) (source table : List ℕ) (n at : ℕ) (h : NamesAt s from to kind t count source table n at) where
  pub names-sorted : is_ordered (map (name_in s) (take n table)) ≡ true
  names-sorted = h.sorted

  source-short : length source ≤ length s
  source-short = rw h.cut (take_short to s)

  source-most : length source ≤ to
  source-most = rw h.cut (take-most to s)

  module _ (r : Next) (er : r ≡ next_of kind source at) where
    module _ (span : Span) (e : r ≡ Some span) where
      within : at ≤ length source
      within = next-within kind source at r er span.start span.len span.next e

      after-within : span.next.at ≤ length source
      after-within = next-room kind source at r er span.start span.len span.next e within

      later : at + 4 ≤ span.next.at
      later = next-later kind source at r er span.start span.len span.next e

      body-within : span.start ≤ 65535
      body-within = omega (arith, body-room kind source at r er span.start span.len span.next e within, source-short, h.short)

      pub names-count : n < length table
      names-count = omega (arith, after-within, later, source-most, h.few, h.wide, h.long)

      -- the entry is a number of 64 bits
      pub names-first : span.start + 1 < 2 ^ 64
      names-first = omega (arith, body-within)

      pub names-high : (span.start + 1) * 65536 < 2 ^ 64
      names-high = omega (arith, body-within)

      pub names-less : length source - span.next.at < length source - at
      names-less = next-less kind source at r er span.start span.len span.next e within

      module _ (b m : List ℕ) (eb : b ≡ take span.len (drop span.start source)) (em : m ≡ name_of b) where
        pub names-entry : (span.start + 1) * 65536 + length m < 2 ^ 64
        names-entry = omega (arith, body-within, name-short s source b m to span.start span.len h.cut eb em, h.short)

        pub names_more : length m ≤ 255 → (table₁ : List ℕ) (n₁ : ℕ) → Inserted s table table₁ n ((span.start + 1) * 65536 + length m) n₁
            → NamesAt s from to kind t count source table₁ n₁ span.next.at
        unfolding ordered_from all_short
        names_more lm table₁ n₁ i =
            let name_is : name_in s ((span.start + 1) * 65536 + length m) ≡ m = entry-name s source b m to span.start span.len h.cut eb em h.short in
            record {
              short = h.short;
              wide = h.wide;
              cut = h.cut;
              long = i.long ∙ h.long;
              few = omega (arith, i.most, h.few, later, after-within, source-most);
              small = λ a. rw (i.names_are, name_is) (insert_all is_short m (map (name_in s) (take n table)) (short_is m lm) (h.small a));
              sorted = i.sorted;
              rest = rest_more n n₁ table₁ table t i.least i.rest h.rest;
              left = h.left ∙ rw (bodies-next kind source at r er span.start span.len span.next e within, i.names_are, name_is, em, eb);
            }

    pub names-done : r ≡ None → NamesInserted s (map name_of (bodies kind (drop from (take to s)))) t table count n
    unfolding ordered_from
    names-done e = record {
      names_are = sym (h.left ∙ rw (bodies-end kind source at r er e));
      sorted = h.sorted;
      small = h.small;
      long = h.long;
      rest = h.rest;
    }

  pub names-few : 4 * n ≤ 4 * count + (to - from)
  names-few = omega (arith, h.few)

pub ruleset names_laws = (names-start, names-sorted, names-count, names-first, names-high, names-entry, names-less, names_more, names-done, names-few)

-- ---- the packages

take_all : (s : List ℕ) → take (length s) s ≡ s
take_all [] = refl
take_all (x ∷ s) = ap (λ (l : List ℕ). x ∷ l) (take_all s)

pub packages_room : (s t : List ℕ) → length s ≤ 4 * length t → 4 * 0 + (length s - 0) ≤ 4 * length t
packages_room s t w = omega arith

pub packages_none : (s t : List ℕ) → is_ordered (map (name_in s) (take 0 t)) ≡ true
unfolding is_ordered
packages_none s t = refl

pub packages_are : (s t table : List ℕ) (r : ℕ) → length s ≤ 65535 → length s ≤ 4 * length t
    → NamesInserted s (map name_of (bodies Package (drop 0 (take (length s) s)))) t table 0 r → 4 * r ≤ 4 * 0 + (length s - 0)
    → PackagesOrdered s t table r
unfolding ordered packages_of all_short all_names
packages_are s t table r h w i f = record {
  names_are = i.names_are ∙ rw (take_all s);
  small = i.small refl;
  long = i.long;
  within = omega (arith, i.long);
  most = omega arith;
  rest = i.rest;
}

pub ruleset packages_laws = (packages_room, packages_none, packages_are)
