-- The records of n entries, and of a table: what each turn of the loop shows.
use Prim.Native.Nat.{ℕ, suc, ◌+◌, ◌-◌, ◌^◌, ◌≤◌, ◌<◌}
use mathlib.Core.Path.{◌≡◌, refl, sym, ◌∙◌}
use mathlib.Core.List.{List, [], ◌∷◌, ◌++◌, append-nil}
use mathlib.Core.Bool.{true, false, ◌&&◌}
use native.Mathlib.Omega.{arith}
use lib.ListN.{length}
use lib.Dec.{leb}
use borrow.Author.Tests.{leb-true}
use Rattle.records.specs.Bytes.{u16_at}
use Rattle.records.specs.Output.{Put, record_bytes}
use Rattle.records.proofs.Logic.{and_left, and_right}
use Rattle.class_reader.specs.Entry.{entry_end, is_entry, kind_of, entry_body, entry_item, bytes_of, is_large, entries_good, entries_end, entries_items, table_good, table_end, table_items}
use Rattle.class_reader.specs.Output.{Room, PutItems}
use Rattle.class_reader.specs.declared.entry.Entry.{Entry}
use Rattle.class_reader.proofs.output.Items.{one-fits, rest-fits}
use Rattle.class_reader.proofs.output.Parts.{entry-within}
use Rattle.class_reader.proofs.output.Putting.{Putting, putting_start, putting_room, putting_more, putting_done}

-- ---- n entries

-- out holds the records of the first i entries, up to b; q is where the others start
pub record EntriesPut (o : List ℕ) (at : ℕ) (f t : List ℕ) (e : Entry) (n p : ℕ) (out : List ℕ) (b q i : ℕ) : Type 0 where
  pub small : length f ≤ 65535
  pub within : i ≤ n
  pub low : q ≤ length f
  pub long : length out ≡ length o
  pub good : entries_good e f t (n - i) q ≡ true
  pub ends : entries_end e f n p ≡ entries_end e f (n - i) q
  pub fits : is_large (entries_items e f t (n - i) q) ≡ false
  pub putting : Putting o at (bytes_of (entries_items e f t n p)) out b (bytes_of (entries_items e f t (n - i) q))

pub entries-start : (o : List ℕ) (at : ℕ) (f t : List ℕ) (e : Entry) (n p : ℕ) → length f ≤ 65535 → p ≤ length f → entries_good e f t n p ≡ true → Room o at (entries_items e f t n p) → EntriesPut o at f t e n p o at p 0
entries-start o at f t e n p s l g h =
    let a : n - 0 ≡ n = omega arith in
    record {
      small = s;
      within = omega arith;
      low = l;
      long = refl;
      good = rw a g;
      ends = rw a;
      fits = rw a h.fits;
      putting = rw a (putting_start o at (bytes_of (entries_items e f t n p)) h.room);
    }

module _ {o : List ℕ} {at : ℕ} {f t : List ℕ} {e : Entry} {n p : ℕ} {out : List ℕ} {b q i : ℕ} (h : EntriesPut o at f t e n p out b q i) where
  pub entries-low : q ≤ 65541
  entries-low = omega (arith, h.low, h.small)

  module _ (l : i < n) where
    less : n - i ≡ suc (n - (i + 1))
    less = omega arith

    good-next : (is_entry e f t q && entries_good e f t (n - (i + 1)) (entry_end e f q)) ≡ true
    unfolding entries_good
    good-next = rw less at h.good

    pub entries-good : is_entry e f t q ≡ true
    entries-good = and_left (is_entry e f t q) (entries_good e f t (n - (i + 1)) (entry_end e f q)) good-next

    fits_next : is_large (entry_item e f t q ∷ entries_items e f t (n - (i + 1)) (entry_end e f q)) ≡ false
    unfolding entries_items
    fits_next = rw less at h.fits

    pieces : bytes_of (entries_items e f t (n - i) q) ≡ record_bytes (kind_of e) (entry_body e f t q) ++ bytes_of (entries_items e f t (n - (i + 1)) (entry_end e f q))
    unfolding bytes_of entries_items entry_item
    pieces = rw less

    pub entries-room : Room out b (entry_item e f t q ∷ [])
    unfolding bytes_of entry_item
    entries-room = record {
      room = rw (append-nil (record_bytes (kind_of e) (entry_body e f t q)))
          (putting_room o at (bytes_of (entries_items e f t n p)) out b (bytes_of (entries_items e f t (n - i) q)) h.putting
          (record_bytes (kind_of e) (entry_body e f t q)) (bytes_of (entries_items e f t (n - (i + 1)) (entry_end e f q))) pieces);
      fits = one-fits (entry_item e f t q) (entries_items e f t (n - (i + 1)) (entry_end e f q)) fits_next;
    }

    pub entries-more : (out' : List ℕ) (b' q' : ℕ) → Put out b (record_bytes (kind_of e) (entry_body e f t q)) out' b' → q' ≡ entry_end e f q → EntriesPut o at f t e n p out' b' q' (i + 1)
    unfolding entries_end
    entries-more out' b' q' w eq =
        let z : Putting o at (bytes_of (entries_items e f t n p)) out' b' (bytes_of (entries_items e f t (n - (i + 1)) (entry_end e f q))) =
        putting_more o at (bytes_of (entries_items e f t n p)) out b (bytes_of (entries_items e f t (n - i) q)) h.putting
        (record_bytes (kind_of e) (entry_body e f t q)) (bytes_of (entries_items e f t (n - (i + 1)) (entry_end e f q))) pieces out' b' w in
        record {
          small = h.small;
          within = omega arith;
          low = rw eq (entry-within e f t q entries-good);
          long = z.long;
          good = rw eq (and_right (is_entry e f t q) (entries_good e f t (n - (i + 1)) (entry_end e f q)) good-next);
          ends = h.ends ∙ rw (less, eq);
          fits = rw eq (rest-fits (entry_item e f t q) (entries_items e f t (n - (i + 1)) (entry_end e f q)) fits_next);
          putting = rw eq z;
        }

  pub entries-done : n ≤ i → PutItems o at (entries_items e f t n p) (entries_end e f n p) out b q
  unfolding entries_end entries_items bytes_of
  entries-done l =
      let none : n - i ≡ 0 = omega arith in
      let d : Put o at (bytes_of (entries_items e f t n p)) out b =
      putting_done o at (bytes_of (entries_items e f t n p)) out b (bytes_of (entries_items e f t (n - i) q)) h.putting (rw none) in
      record { place = d.place; behind = sym (h.ends ∙ rw none); bytes = d.bytes }

  pub entries-long : length out ≡ length o
  entries-long = h.long

pub ruleset entries-laws = (entries-start, entries-low, entries-good, entries-room, entries-more, entries-done, entries-long)

-- ---- a table

module _ (o : List ℕ) (at : ℕ) (f t : List ℕ) (e : Entry) (p : ℕ) (s : length f ≤ 65535) (g : table_good e f t p ≡ true) (h : Room o at (table_items e f t p)) where
  pub table-low : p + 2 ≤ length f
  unfolding table_good
  table-low = leb-true (p + 2) (length f) (and_left (leb (p + 2) (length f)) (entries_good e f t (u16_at f p) (p + 2)) g)

  pub table-sum : p + 2 < 2 ^ 64
  table-sum = omega (arith, table-low)

  module _ (n : ℕ) (en : n ≡ u16_at f p) where
    pub table-entries : entries_good e f t n (p + 2) ≡ true
    unfolding table_good
    table-entries = rw en (and_right (leb (p + 2) (length f)) (entries_good e f t (u16_at f p) (p + 2)) g)

    pub table-room : Room o at (entries_items e f t n (p + 2))
    unfolding table_items
    table-room = rw en h

    pub table-put : (out : List ℕ) (r x : ℕ) → PutItems o at (entries_items e f t n (p + 2)) (entries_end e f n (p + 2)) out r x → PutItems o at (table_items e f t p) (table_end e f p) out r x
    unfolding table_items table_end
    table-put out r x q = rw en at q
