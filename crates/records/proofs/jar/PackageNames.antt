-- The package names that good package records tell: each is printable and has 1 to 255 bytes.
use Prim.Native.Nat.{ℕ, zero, suc, ◌+◌, ◌≤◌, ◌<◌}
use mathlib.Core.Path.{◌≡◌, refl}
use mathlib.Core.List.{List, [], ◌∷◌, map}
use mathlib.Core.Bool.{Bool, true, false, cond, ◌&&◌}
use native.Mathlib.Omega.{arith}
use lib.ListN.{length, get_or, take, drop, length-drop}
use lib.Seq.{length-take-le, get_or-drop}
use lib.Dec.{ltb, leb}
use borrow.Author.Tests.{le-leb, ltb-true, leb-true}
use Rattle.records.specs.Name.{printable, name_of, after_name, is_field, is_name, is_empty, is_names}
use Rattle.records.specs.Record.{body_of, size_of, record_more, whole, records, mark_for, kind_in, package_kind, is_body, is_of, bodies_in, bodies}
use Rattle.records.specs.Request.{check_records}
use Rattle.records.specs.Order.{ordered, packages_of, all_names, is_short, all_short}
use Rattle.records.specs.declared.error.Input.TheVariants.{Packages}
use Rattle.records.specs.declared.record.Kind.TheVariants.{Package}
use Rattle.records.proofs.order.Ordered.{ordered-all}
use Rattle.records.proofs.record.Laws.{records-cons, records-none, records-ind, body-front}
use Rattle.records.proofs.request.Laws.{all_bodies, good-bodies}
use Rattle.records.proofs.Logic.{and_split}
use Rattle.std.specs.Prelude.{Ok}

-- printable, of 1 to 255 bytes
unfoldable pub is_package_name : List ℕ → Bool
is_package_name n = is_short n && (ltb 0 (length n) && printable n)

name-short : (n : List ℕ) → is_package_name n ≡ true → is_short n ≡ true
unfolding is_package_name
name-short n e = (and_split (is_short n) (ltb 0 (length n) && printable n) e).0

pub name-some : (n : List ℕ) → is_package_name n ≡ true → 0 < length n
unfolding is_package_name
name-some n e = ltb-true 0 (length n) (and_split (ltb 0 (length n)) (printable n) (and_split (is_short n) (ltb 0 (length n) && printable n) e).1).0

pub name-printable : (n : List ℕ) → is_package_name n ≡ true → printable n ≡ true
unfolding is_package_name
name-printable n e = (and_split (ltb 0 (length n)) (printable n) (and_split (is_short n) (ltb 0 (length n) && printable n) e).1).1

pub names-short : (ns : List (List ℕ)) → all_names is_package_name ns ≡ true → all_short ns ≡ true
unfolding all_names all_short
names-short [] e = refl
names-short (n ∷ ns) e =
    let p : (is_package_name n ≡ true) × (all_names is_package_name ns ≡ true) = and_split (is_package_name n) (all_names is_package_name ns) e in
    rw (name-short n p.0) (names-short ns p.1)

-- ---- the length byte of a body is one of the string's bytes

unfoldable low_first : List ℕ → Bool
low_first b = leb (get_or b 0 0) 255

record LowBodies (t : List ℕ) : Type 0 where
  low : ((i : ℕ) → get_or t i 0 < 256) → all_bodies low_first (bodies Package t) ≡ true

low-stop : (t : List ℕ) → whole t ≡ false → LowBodies t
unfolding bodies bodies_in all_bodies
low-stop t e = record { low = λ h. rw (records-none t e) }

first-low : (m : ℕ) (t : List ℕ) → get_or t 0 0 < 256 → get_or (take m t) 0 0 ≤ 255
first-low zero t h = omega arith
first-low (suc m) [] h = omega arith
first-low (suc m) (x ∷ t) h = omega arith

low-more : (t : List ℕ) → whole t ≡ true → LowBodies (drop (suc (record_more t)) t) → LowBodies t
unfolding bodies bodies_in all_bodies low_first
low-more t e ih = record { low = λ h. rw (records-cons t e) (go h (is_of Package (take (suc (record_more t)) t))) }
  where
    n : ℕ
    n = suc (record_more t)

    rest : ((i : ℕ) → get_or t i 0 < 256) → all_bodies low_first (bodies_in Package (records (drop n t))) ≡ true
    rest h = ih.low (λ i. rw (get_or-drop n t i 0) (h (n + i)))

    here : ((i : ℕ) → get_or t i 0 < 256) → leb (get_or (body_of (take n t)) 0 0) 255 ≡ true
    here h = rw (body-front t) (le-leb (get_or (take (size_of t) (drop 4 t)) 0 0) 255 (first-low (size_of t) (drop 4 t) (rw (get_or-drop 4 t 0 0) (h (4 + 0)))))

    go : ((i : ℕ) → get_or t i 0 < 256) → (b : Bool) → all_bodies low_first (cond b (body_of (take n t) ∷ bodies_in Package (records (drop n t))) (bodies_in Package (records (drop n t)))) ≡ true
    go h true = rw (here h) (rest h)
    go h false = rest h

-- ---- the names

body-name : (b : List ℕ) → is_body Package b ≡ true → low_first b ≡ true → is_package_name (name_of b) ≡ true
unfolding is_body is_names is_name is_field low_first is_package_name is_short name_of
body-name b e l =
    let f : (is_name b ≡ true) × (is_empty (after_name b) ≡ true) = and_split (is_name b) (is_empty (after_name b)) e in
    let g : (ltb 0 (get_or b 0 0) ≡ true) × (is_field b ≡ true) = and_split (ltb 0 (get_or b 0 0)) (is_field b) f.0 in
    let h : (leb (1 + get_or b 0 0) (length b) ≡ true) × (printable (name_of b) ≡ true) = and_split (leb (1 + get_or b 0 0) (length b)) (printable (name_of b)) g.1 in
    let m : length (take (get_or b 0 0) (drop 1 b)) ≡ get_or b 0 0 =
    length-take-le (get_or b 0 0) (drop 1 b) (rw length-drop (omega (arith, leb-true (1 + get_or b 0 0) (length b) h.0))) in
    rw (m, l, g.0) h.1

body-names : (bs : List (List ℕ)) → all_bodies (is_body Package) bs ≡ true → all_bodies low_first bs ≡ true → all_names is_package_name (map name_of bs) ≡ true
unfolding all_bodies all_names
body-names [] e l = refl
body-names (b ∷ bs) e l =
    let f : (is_body Package b ≡ true) × (all_bodies (is_body Package) bs ≡ true) = and_split (is_body Package b) (all_bodies (is_body Package) bs) e in
    let g : (low_first b ≡ true) × (all_bodies low_first bs ≡ true) = and_split (low_first b) (all_bodies low_first bs) l in
    rw (body-name b f.0 g.0) (body-names bs f.1 g.1)

package_known : kind_in Packages (mark_for Package) ≡ Package
unfolding kind_in package_kind mark_for
package_known = refl

pub good_packages : (s : List ℕ) → ((i : ℕ) → get_or s i 0 < 256) → check_records Packages s ≡ (Ok tt) → all_names is_package_name (ordered (packages_of s)) ≡ true
unfolding packages_of
good_packages s h e =
    ordered-all is_package_name (map name_of (bodies Package s))
    (body-names (bodies Package s) (good-bodies Packages s e Package package_known) ((records-ind LowBodies low-stop low-more s).low h))
