-- The records of good entries have well-formed bodies.
use Prim.Native.Nat.{ℕ, zero, suc, ◌+◌, ◌<◌}
use mathlib.Core.Path.{◌≡◌, refl}
use mathlib.Core.List.{List, [], ◌∷◌, ◌++◌, append-nil}
use mathlib.Core.Bool.{Bool, true, false, cond, ◌&&◌, ◌||◌, not}
use native.Mathlib.Omega.{arith}
use lib.ListN.{length, get_or}
use lib.Dec.{ltb, leb, eqb}
use borrow.Author.Tests.{le-leb, ltb-true}
use Rattle.records.specs.Bytes.{same_bytes, u16_at}
use Rattle.records.specs.Name.{all_unnamed, printable, is_name, is_empty, is_names, is_list, is_version, is_name_version, is_name_list}
use Rattle.records.specs.Record.{is_module, is_requires, is_body}
use Rattle.records.specs.Output.{two_bytes, name_bytes}
use Rattle.records.proofs.Logic.{and_left, and_right}
use Rattle.records.proofs.output.Made.{two-read}
use Rattle.records.proofs.output.WellFormed.{name-read, after_read, field-made, name-made}
use Rattle.class_reader.specs.Pool.{is_tag, text_at, is_name_text, has_text, name_index, has_name, name_at, has_version, version_at}
use Rattle.class_reader.specs.Entry.{names_good, names_at, name_tag, entry_end, rest_good, is_entry, kind_of, high_flags, prefix_of, names_bytes, list_bytes, suffix_of, entry_body}
use Rattle.class_reader.specs.declared.entry.Entry.{Entry}
use Rattle.class_reader.specs.declared.entry.Entry.TheVariants.{Module, Requires, Exports, Opens, Uses, Provides, Package, MainClass}

-- ---- names and versions

module _ (s : List ℕ) (e : is_name_text s ≡ true) where
  pub text-some : 0 < length s
  unfolding is_name_text
  text-some = ltb-true 0 (length s) (and_left (ltb 0 (length s)) (leb (length s) 255 && printable s) e)

  pub text-printable : printable s ≡ true
  unfolding is_name_text
  text-printable = and_right (leb (length s) 255) (printable s) (and_right (ltb 0 (length s)) (leb (length s) 255 && printable s) e)

  -- such a name, with t behind
  pub text-made : (t : List ℕ) → is_name (name_bytes s ++ t) ≡ true
  text-made t = name-made s t text-printable text-some

  -- such a name alone
  pub alone-made : is_names 1 (name_bytes s ++ []) ≡ true
  unfolding is_names is_empty
  alone-made = rw (text-made [], after_read s [])

pub name-told : (k : ℕ) (f t : List ℕ) (i : ℕ) → has_name k f t i ≡ true → is_name_text (name_at f t i) ≡ true
unfolding has_name has_text name_at
name-told k f t i e =
    and_right (is_tag 1 f t (name_index f t i)) (is_name_text (text_at f t (name_index f t i))) (and_right (is_tag k f t i) (has_text f t (name_index f t i)) e)

version-printable : (f t : List ℕ) (i : ℕ) → has_version f t i ≡ true → printable (version_at f t i) ≡ true
unfolding has_version version_at has_text printable
version-printable f t i e = go (eqb i 0) e
  where
    go : (z : Bool) → (z || (is_tag 1 f t i && is_name_text (text_at f t i))) ≡ true → printable (cond z [] (text_at f t i)) ≡ true
    go true h = refl
    go false h = text-printable (text_at f t i) (and_right (is_tag 1 f t i) (is_name_text (text_at f t i)) h)

version-made : (n : List ℕ) → printable n ≡ true → is_version (name_bytes n) ≡ true
unfolding is_version is_empty
version-made n p = rw (← (append-nil (name_bytes n)), field-made n [] p, after_read n [])

-- ---- lists

names-made : (k : ℕ) (f t : List ℕ) (n p : ℕ) → names_good k f t n p ≡ true → is_names n (names_bytes (names_at f t n p)) ≡ true
unfolding names_good names_at names_bytes is_names is_empty
names-made k f t zero p e = refl
names-made k f t (suc n) p e =
    let a : List ℕ = name_at f t (u16_at f p) in
    let r : List ℕ = names_bytes (names_at f t n (p + 2)) in
    rw (text-made a (name-told k f t (u16_at f p) (and_left (has_name k f t (u16_at f p)) (names_good k f t n (p + 2)) e)) r, after_read a r)
    (names-made k f t n (p + 2) (and_right (has_name k f t (u16_at f p)) (names_good k f t n (p + 2)) e))

list-made : (k : ℕ) (f t : List ℕ) (n p : ℕ) → n < 65536 → names_good k f t n p ≡ true → is_list (list_bytes f t n p) ≡ true
unfolding is_list list_bytes two_bytes
list-made k f t n p l e =
    let b : List ℕ = names_bytes (names_at f t n p) in
    rw (two-read n b l, le-leb 2 (suc (suc (length b))) (omega arith)) (names-made k f t n p e)

-- ---- bodies

u16-low : (f : List ℕ) (i : ℕ) → ((j : ℕ) → get_or f j 0 < 256) → u16_at f i < 65536
unfolding u16_at
u16-low f i h = omega (arith, h i, h (i + 1))

module _ (f t : List ℕ) (p : ℕ) where
  abbrev name : List ℕ
  name = name_at f t (u16_at f p)

  module _ (g : is_name_text name ≡ true) where
    version-body : (i : ℕ) → has_version f t i ≡ true → is_name_version (name_bytes name ++ name_bytes (version_at f t i)) ≡ true
    unfolding is_name_version
    version-body i e =
        rw (text-made name g (name_bytes (version_at f t i)), after_read name (name_bytes (version_at f t i)))
        (version-made (version_at f t i) (version-printable f t i e))

    list-body : (k n q : ℕ) → n < 65536 → names_good k f t n q ≡ true → is_name_list (name_bytes name ++ list_bytes f t n q) ≡ true
    unfolding is_name_list
    list-body k n q l e = rw (text-made name g (list_bytes f t n q), after_read name (list_bytes f t n q)) (list-made k f t n q l e)

    requires-body : (i : ℕ) (x y : ℕ) → (not (same_bytes name all_unnamed) && has_version f t i) ≡ true → is_requires (x ∷ y ∷ (name_bytes name ++ name_bytes (version_at f t i))) ≡ true
    unfolding is_requires
    requires-body i x y e =
        rw (name-read name (name_bytes (version_at f t i)), and_left (not (same_bytes name all_unnamed)) (has_version f t i) e)
        (version-body i (and_right (not (same_bytes name all_unnamed)) (has_version f t i) e))

    rest-body : ((j : ℕ) → get_or f j 0 < 256) → (e : Entry) → rest_good e f t p ≡ true → is_body (kind_of e) (entry_body e f t p) ≡ true
    unfolding rest_good is_body kind_of entry_body prefix_of suffix_of is_module
    rest-body h Module r = version-body (u16_at f (p + 4)) r
    rest-body h Requires r = requires-body (u16_at f (p + 4)) (high_flags (get_or f (p + 2) 0)) _ r
    rest-body h Exports r = list-body 19 (u16_at f (p + 4)) (p + 6) (u16-low f (p + 4) h) r
    rest-body h Opens r = list-body 19 (u16_at f (p + 4)) (p + 6) (u16-low f (p + 4) h) r
    rest-body h Uses r = alone-made name g
    rest-body h Provides r = list-body 7 (u16_at f (p + 2)) (p + 4) (u16-low f (p + 2) h) r
    rest-body h Package r = alone-made name g
    rest-body h MainClass r = alone-made name g

module _ (e : Entry) (f t : List ℕ) (p : ℕ) (g : is_entry e f t p ≡ true) where
  entry_more : (has_name (name_tag e) f t (u16_at f p) && rest_good e f t p) ≡ true
  unfolding is_entry
  entry_more = and_right (leb (entry_end e f p) (length f)) (has_name (name_tag e) f t (u16_at f p) && rest_good e f t p) g

  pub entry_named : is_name_text (name_at f t (u16_at f p)) ≡ true
  entry_named = name-told (name_tag e) f t (u16_at f p) (and_left (has_name (name_tag e) f t (u16_at f p)) (rest_good e f t p) entry_more)

  -- in a file that is a byte string
  pub entry-body : ((j : ℕ) → get_or f j 0 < 256) → is_body (kind_of e) (entry_body e f t p) ≡ true
  entry-body h = rest-body f t p entry_named h e (and_right (has_name (name_tag e) f t (u16_at f p)) (rest_good e f t p) entry_more)
