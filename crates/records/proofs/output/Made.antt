-- A record that is made is read back as it was made.
use Prim.Native.Nat.{ℕ, suc, ◌+◌, ◌*◌, ◌/◌, ◌%◌, ◌≤◌, ◌<◌}
use mathlib.Core.Path.{◌≡◌, refl, ◌∙◌}
use mathlib.Core.List.{List, [], ◌∷◌, ◌++◌, append_assoc, append-nil}
use mathlib.Core.Bool.{true}
use native.Mathlib.Omega.{arith}
use lib.ListN.{length, length-append}
use lib.Seq.{take_at, drop_at}
use borrow.Author.Tests.{le-leb}
use Rattle.records.specs.Bytes.{u16_at}
use Rattle.records.specs.Record.{mark_of, size_of, body_of, record_more, whole, records, mark_for}
use Rattle.records.specs.Output.{two_bytes, record_bytes, name_bytes, module_record, base_record, group, no_targets, automatic_records}
use Rattle.records.specs.Order.{all_short}
use Rattle.records.specs.Name.{java_base}
use Rattle.records.specs.declared.record.Kind.{Kind}
use Rattle.records.specs.declared.record.Kind.TheVariants.{Module, Requires, Exports, Opens, Uses, Provides, Package, MainClass, Place, Root, LimitModules, AddReads, AddExports, AddOpens, Static, Other}
use Rattle.records.proofs.record.Laws.{records-cons, records-end}
use Rattle.records.proofs.output.Groups.{short-first, short-rest}

two_back : (n : ℕ) → n < 65536 → n / 256 % 256 * 256 + n % 256 ≡ n
two_back n h = omega arith

pub two-read : (n : ℕ) (t : List ℕ) → n < 65536 → u16_at (two_bytes n ++ t) 0 ≡ n
unfolding u16_at two_bytes
two-read n t h = two_back n h

pub mark-fits : (k : Kind) → mark_for k < 65536
unfolding mark_for
mark-fits Module = omega arith
mark-fits Requires = omega arith
mark-fits Exports = omega arith
mark-fits Opens = omega arith
mark-fits Uses = omega arith
mark-fits Provides = omega arith
mark-fits Package = omega arith
mark-fits MainClass = omega arith
mark-fits Place = omega arith
mark-fits Root = omega arith
mark-fits LimitModules = omega arith
mark-fits AddReads = omega arith
mark-fits AddExports = omega arith
mark-fits AddOpens = omega arith
mark-fits Static = omega arith
mark-fits Other = omega arith

module _ (k : Kind) (b : List ℕ) where
  pub made-mark : mark_of (record_bytes k b) ≡ mark_for k
  unfolding mark_of record_bytes
  made-mark = two-read (mark_for k) (two_bytes (length b) ++ b) (mark-fits k)

  pub made-body : body_of (record_bytes k b) ≡ b
  unfolding body_of record_bytes two_bytes
  made-body = refl

  pub made-long : length (record_bytes k b) ≡ suc (3 + length b)
  unfolding record_bytes two_bytes
  made-long = omega arith

  module _ (rest : List ℕ) (h : length b < 65536) where
    more : record_more (record_bytes k b ++ rest) ≡ 3 + length b
    unfolding record_more size_of record_bytes two_bytes u16_at
    more = rw (two_back (length b) h)

    pub made-whole : whole (record_bytes k b ++ rest) ≡ true
    unfolding whole
    made-whole =
        le-leb (suc (record_more (record_bytes k b ++ rest))) (length (record_bytes k b ++ rest))
        (rw (more, length-append, made-long) (omega arith))

    pub made-records : records (record_bytes k b ++ rest) ≡ record_bytes k b ∷ records rest
    made-records =
        records-cons (record_bytes k b ++ rest) made-whole
        ∙ rw (more, take_at (record_bytes k b) rest (suc (3 + length b)) made-long, drop_at (record_bytes k b) rest (suc (3 + length b)) made-long)

-- ---- the records of an automatic module

-- a record of this kind for each name
unfoldable pub group_records : Kind → List ℕ → List (List ℕ) → List (List ℕ)
group_records k end [] = []
group_records k end (n ∷ ns) = record_bytes k (name_bytes n ++ end) ∷ group_records k end ns

body-fits : (n end : List ℕ) → length n ≤ 255 → length end ≤ 2 → length (name_bytes n ++ end) < 65536
unfolding name_bytes
body-fits n end ln le = rw length-append (omega arith)

pub group-records : (k : Kind) (end : List ℕ) (ns : List (List ℕ)) (rest : List ℕ) → length end ≤ 2 → all_short ns ≡ true
    → records (group k end ns ++ rest) ≡ group_records k end ns ++ records rest
unfolding group group_records
group-records k end [] rest le sh = refl
group-records k end (n ∷ ns) rest le sh =
    rw (append_assoc (record_bytes k (name_bytes n ++ end)) (group k end ns) rest)
    (made-records k (name_bytes n ++ end) (group k end ns ++ rest) (body-fits n end (short-first n ns sh) le)
    ∙ rw (group-records k end ns rest le (short-rest n ns sh)))

group-alone : (k : Kind) (end : List ℕ) (ns : List (List ℕ)) → length end ≤ 2 → all_short ns ≡ true → records (group k end ns) ≡ group_records k end ns
group-alone k end ns le sh =
    let none : records [] ≡ [] = records-end [] 0 (omega arith) in
    let all : records (group k end ns ++ []) ≡ group_records k end ns ++ [] = group-records k end ns [] le sh ∙ rw none in
    simp append-nil at all

pub automatic-records : (n : List ℕ) (ps : List (List ℕ)) → length n ≤ 255 → all_short ps ≡ true → records (automatic_records n ps)
    ≡ module_record n ∷ base_record ∷ (group_records Exports no_targets ps ++ (group_records Opens no_targets ps ++ group_records Package [] ps))
unfolding automatic_records module_record base_record name_bytes
automatic-records n ps ln sh =
    let k : List ℕ = group Package [] ps in
    let p : List ℕ = group Opens no_targets ps ++ k in
    let x : List ℕ = group Exports no_targets ps ++ p in
    let base : List ℕ = 0x80 ∷ 0 ∷ (name_bytes java_base ++ (0 ∷ [])) in
    made-records Module (0 ∷ 0 ∷ 1 ∷ (name_bytes n ++ (0 ∷ []))) (record_bytes Requires base ++ x) (rw length-append (omega arith))
    ∙ rw (made-records Requires base x (omega arith), group-records Exports no_targets ps p (omega arith) sh, group-records Opens no_targets ps k (omega arith) sh, group-alone Package [] ps (omega arith) sh)
