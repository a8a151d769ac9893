-- How long the texts, names and versions of a good entry are.
use Prim.Native.Nat.{ℕ, zero, suc, ◌+◌, ◌*◌, ◌≤◌}
use mathlib.Core.Path.{◌≡◌, refl}
use mathlib.Core.List.{List, []}
use mathlib.Core.Bool.{Bool, true, false, cond, ◌&&◌, ◌||◌}
use native.Mathlib.Omega.{arith}
use lib.ListN.{length, length-append}
use lib.Dec.{ltb, leb, eqb}
use borrow.Author.Tests.{leb-true, le-leb}
use Rattle.records.specs.Bytes.{u16_at}
use Rattle.records.specs.Name.{printable}
use Rattle.records.specs.Order.{all_short, all_names, is_short}
use Rattle.records.specs.Output.{name_bytes}
use Rattle.records.proofs.Logic.{and_left, and_right}
use Rattle.class_reader.specs.Pool.{is_tag, text_at, is_name_text, has_text, name_index, has_name, name_at, has_version, version_at}
use Rattle.class_reader.specs.Entry.{names_good, names_at, names_bytes}

pub text_short : (f t : List ℕ) (i : ℕ) → has_text f t i ≡ true → length (text_at f t i) ≤ 255
unfolding has_text is_name_text
text_short f t i h =
    let n : (ltb 0 (length (text_at f t i)) && (leb (length (text_at f t i)) 255 && printable (text_at f t i))) ≡ true =
    and_right (is_tag 1 f t i) (ltb 0 (length (text_at f t i)) && (leb (length (text_at f t i)) 255 && printable (text_at f t i))) h in
    leb-true (length (text_at f t i)) 255
    (and_left (leb (length (text_at f t i)) 255) (printable (text_at f t i))
    (and_right (ltb 0 (length (text_at f t i))) (leb (length (text_at f t i)) 255 && printable (text_at f t i)) n))

pub name_short : (k : ℕ) (f t : List ℕ) (i : ℕ) → has_name k f t i ≡ true → length (name_at f t i) ≤ 255
unfolding has_name name_at
name_short k f t i h = text_short f t (name_index f t i) (and_right (is_tag k f t i) (has_text f t (name_index f t i)) h)

pub version_short : (f t : List ℕ) (i : ℕ) → has_version f t i ≡ true → length (version_at f t i) ≤ 255
unfolding has_version version_at
version_short f t i h = go (eqb i 0) h where
  go : (b : Bool) → (b || has_text f t i) ≡ true → length (cond b [] (text_at f t i)) ≤ 255
  go true e = omega arith
  go false e = text_short f t i e

-- the names of n indices take at most 256 bytes each
pub names-short : (k : ℕ) (f t : List ℕ) (n p : ℕ) → names_good k f t n p ≡ true → length (names_bytes (names_at f t n p)) ≤ 256 * n
unfolding names_good names_at names_bytes name_bytes
names-short k f t zero p h = omega arith
names-short k f t (suc n) p h =
    let first : length (name_at f t (u16_at f p)) ≤ 255 =
    name_short k f t (u16_at f p) (and_left (has_name k f t (u16_at f p)) (names_good k f t n (p + 2)) h) in
    let rest : length (names_bytes (names_at f t n (p + 2))) ≤ 256 * n =
    names-short k f t n (p + 2) (and_right (has_name k f t (u16_at f p)) (names_good k f t n (p + 2)) h) in
    simp length-append (omega arith)

-- and each is short enough for a length byte
pub all_short_lem : (k : ℕ) (f t : List ℕ) (n p : ℕ) → names_good k f t n p ≡ true → all_short (names_at f t n p) ≡ true
unfolding names_good names_at all_short all_names is_short
all_short_lem k f t zero p e = refl
all_short_lem k f t (suc n) p e =
    let l : length (name_at f t (u16_at f p)) ≤ 255 =
    name_short k f t (u16_at f p) (and_left (has_name k f t (u16_at f p)) (names_good k f t n (p + 2)) e) in
    rw (le-leb (length (name_at f t (u16_at f p))) 255 l)
    (all_short_lem k f t n (p + 2) (and_right (has_name k f t (u16_at f p)) (names_good k f t n (p + 2)) e))
