-- The records of the tables of a Module attribute, and of the attribute: what each turn of the loop shows.
use Prim.Native.Nat.{ℕ, ◌+◌, ◌≤◌, ◌<◌}
use mathlib.Core.Path.{◌≡◌, refl, sym, ◌∙◌}
use mathlib.Core.List.{List, [], ◌∷◌, ◌++◌, append-nil}
use mathlib.Core.Bool.{true, false, ◌&&◌}
use native.Mathlib.Numerals.{add-one}
use native.Mathlib.Omega.{arith}
use lib.ListN.{length, get_or, drop, drop_of_length-le, length-append}
use lib.Seq.{drop-cons}
use Rattle.records.specs.Output.{Put, record_bytes}
use Rattle.records.proofs.Logic.{and_left, and_right}
use Rattle.records.proofs.output.Written.{put_both, put-room}
use Rattle.class_reader.specs.Attribute.{module_items}
use Rattle.class_reader.specs.Entry.{Item, kind_of, entry_body, entry_item, bytes_of, is_large, table_good, table_end, table_items, tables_good, tables_end, tables_items, module_tables}
use Rattle.class_reader.specs.Output.{Room, PutItems}
use Rattle.class_reader.specs.declared.entry.Entry.{Entry}
use Rattle.class_reader.specs.declared.entry.Entry.TheVariants.{Module, Requires, Exports, Opens, Uses, Provides}
use Rattle.class_reader.proofs.entry.Items.{bytes-append}
use Rattle.class_reader.proofs.output.Items.{front_fits, back_fits, one-fits, rest-fits}
use Rattle.class_reader.proofs.output.Putting.{Putting, putting_start, putting_room, putting_more, putting_done}

-- ---- the tables

-- out holds the records of the first i tables, up to where m tells
pub record TablesPut (o : List ℕ) (at : ℕ) (f t : List ℕ) (p : ℕ) (es : List Entry) (out : List ℕ) (b q i : ℕ) : Type 0 where
  pub small : length f ≤ 65535
  pub long : length out ≡ length o
  pub good : tables_good f t (drop i es) q ≡ true
  pub ends : tables_end f module_tables p ≡ tables_end f (drop i es) q
  pub fits : is_large (tables_items f t (drop i es) q) ≡ false
  pub putting : Putting o at (bytes_of (tables_items f t module_tables p)) out b (bytes_of (tables_items f t (drop i es) q))

pub tables_start : (o : List ℕ) (at : ℕ) (f t : List ℕ) (p : ℕ) (es : List Entry) → es ≡ module_tables → length f ≤ 65535 → tables_good f t module_tables p ≡ true → Room o at (tables_items f t module_tables p) → TablesPut o at f t p es o at p 0
tables_start o at f t p es q s g h = record {
  small = s;
  long = refl;
  good = rw q g;
  ends = rw q;
  fits = rw q h.fits;
  putting = rw q (putting_start o at (bytes_of (tables_items f t module_tables p)) h.room);
}

module _ {o : List ℕ} {at : ℕ} {f t : List ℕ} {p : ℕ} {es : List Entry} {out : List ℕ} {b q i : ℕ} (h : TablesPut o at f t p es out b q i) where
  abbrev rest : List Entry
  rest = drop (i + 1) es

  module _ (l : i < length es) (d : Entry) where
    abbrev e : Entry
    e = get_or es i d

    next : drop i es ≡ e ∷ rest
    next = rw (add-one i) (drop-cons es i d l)

    good-next : (table_good e f t q && tables_good f t rest (table_end e f q)) ≡ true
    unfolding tables_good
    good-next = rw next at h.good

    fits_next : is_large (table_items e f t q ++ tables_items f t rest (table_end e f q)) ≡ false
    unfolding tables_items
    fits_next = rw next at h.fits

    pieces : bytes_of (tables_items f t (drop i es) q) ≡ bytes_of (table_items e f t q) ++ bytes_of (tables_items f t rest (table_end e f q))
    unfolding tables_items
    pieces = rw next (bytes-append (table_items e f t q) (tables_items f t rest (table_end e f q)))

    pub tables_good_lem : table_good e f t q ≡ true
    tables_good_lem = and_left (table_good e f t q) (tables_good f t rest (table_end e f q)) good-next

    pub tables-room : Room out b (table_items e f t q)
    tables-room = record {
      room =
          putting_room o at (bytes_of (tables_items f t module_tables p)) out b (bytes_of (tables_items f t (drop i es) q)) h.putting
          (bytes_of (table_items e f t q)) (bytes_of (tables_items f t rest (table_end e f q))) pieces;
      fits = front_fits (table_items e f t q) (tables_items f t rest (table_end e f q)) fits_next;
    }

    pub tables_more : (out' : List ℕ) (b' q' : ℕ) → PutItems out b (table_items e f t q) (table_end e f q) out' b' q' → TablesPut o at f t p es out' b' q' (i + 1)
    unfolding tables_end
    tables_more out' b' q' w =
        let z : Putting o at (bytes_of (tables_items f t module_tables p)) out' b' (bytes_of (tables_items f t rest (table_end e f q))) =
        putting_more o at (bytes_of (tables_items f t module_tables p)) out b (bytes_of (tables_items f t (drop i es) q)) h.putting
        (bytes_of (table_items e f t q)) (bytes_of (tables_items f t rest (table_end e f q))) pieces out' b' (record { place = w.place; bytes = w.bytes }) in
        record {
          small = h.small;
          long = z.long;
          good = rw w.behind (and_right (table_good e f t q) (tables_good f t rest (table_end e f q)) good-next);
          ends = h.ends ∙ rw (next, w.behind);
          fits = rw w.behind (back_fits (table_items e f t q) (tables_items f t rest (table_end e f q)) fits_next);
          putting = rw w.behind z;
        }

  pub tables-done : length es ≤ i → PutItems o at (tables_items f t module_tables p) (tables_end f module_tables p) out b q
  unfolding tables_end tables_items bytes_of
  tables-done l =
      let none : drop i es ≡ [] = drop_of_length-le es {i = i} l in
      let d : Put o at (bytes_of (tables_items f t module_tables p)) out b =
      putting_done o at (bytes_of (tables_items f t module_tables p)) out b (bytes_of (tables_items f t (drop i es) q)) h.putting (rw none) in
      record { place = d.place; behind = sym (h.ends ∙ rw none); bytes = d.bytes }

  pub tables-long : length out ≡ length o
  tables-long = h.long

pub tables_all : Requires ∷ Exports ∷ Opens ∷ Uses ∷ Provides ∷ [] ≡ module_tables
unfolding module_tables
tables_all = refl

pub ruleset tables-laws = (tables_all, tables_start, tables_good_lem, tables-room, tables_more, tables-done, tables-long)

-- ---- the attribute

module _ (o : List ℕ) (at : ℕ) (f t : List ℕ) (p : ℕ) (h : Room o at (module_items f t p)) where
  abbrev first : List ℕ
  first = record_bytes (kind_of Module) (entry_body Module f t p)

  abbrev others : List Item
  others = tables_items f t module_tables (p + 6)

  module_long : at + (length first + length (bytes_of others)) ≤ length o
  unfolding module_items bytes_of entry_item
  module_long = omega (arith, h.room, length-append first (bytes_of others))

  pub module_first : Room o at (entry_item Module f t p ∷ [])
  unfolding module_items bytes_of entry_item
  module_first = record {
    room = rw (append-nil first) (omega (arith, module_long));
    fits = one-fits (entry_item Module f t p) others h.fits;
  }

  module _ (o₁ : List ℕ) (b : ℕ) (q : Put o at (record_bytes (kind_of Module) (entry_body Module f t p)) o₁ b) where
    pub module_others : Room o₁ b (tables_items f t module_tables (p + 6))
    unfolding module_items
    module_others = record {
      room = put-room o at first o₁ b (length (bytes_of others)) module_long q;
      fits = rest-fits (entry_item Module f t p) others h.fits;
    }

    pub module_put : (out : List ℕ) (r x : ℕ) → PutItems o₁ b (tables_items f t module_tables (p + 6)) (tables_end f module_tables (p + 6)) out r x → Put o at (bytes_of (module_items f t p)) out r
    unfolding module_items bytes_of entry_item
    module_put out r x s =
        put_both o at first o₁ b (bytes_of others) out r (omega (arith, module_long)) q (record { place = s.place; bytes = s.bytes })

pub ruleset module_laws = (module_first, module_others, module_put)
