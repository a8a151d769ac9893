-- The records of one kind that are written for the packages of a table, and what each turn of the loop shows.
use Prim.Native.Nat.{ℕ, suc, ◌+◌, ◌≤◌, ◌<◌}
use mathlib.Core.Path.{◌≡◌, refl, sym, ◌∙◌, ap}
use mathlib.Core.List.{List, [], ◌∷◌}
use mathlib.Core.Bool.{true}
use native.Mathlib.Omega.{arith}
use native.Mathlib.Numerals.{add-one}
use lib.ListN.{length, get_or, take, drop, length-append}
use lib.Seq.{length-take-le, get_or-take}
use lib.Dec.{leb}
use borrow.Author.Tests.{leb-true}
use Rattle.records.specs.Output.{written}
use Rattle.records.specs.Order.{name_in}
use Rattle.records.specs.Record.{mark_for}
use Rattle.records.specs.Output.{Put, record_bytes, marked, no_targets, group, group_of, names_in}
use Rattle.records.specs.Order.{all_short, all_names, is_short}
use Rattle.records.specs.declared.record.Kind.{Kind}
use Rattle.records.proofs.output.Written.{put-long, written-two, written_none}
use Rattle.records.proofs.output.Records.{marked-long}
use Rattle.records.proofs.output.Sizes.{names-next, names-end}
use Rattle.records.proofs.Logic.{and_left, and_right}

pub group-marked : (k : Kind) (e : ℕ) (ns : List (List ℕ)) → group k (take e no_targets) ns ≡ group_of (mark_for k) e ns
unfolding group group_of record_bytes marked
group-marked k e [] = refl
group-marked k e (n ∷ ns) = rw (group-marked k e ns)

pub group_of-long : (m e : ℕ) (n : List ℕ) (ns : List (List ℕ)) → e ≤ 2 → length (group_of m e (n ∷ ns)) ≡ 5 + length n + e + length (group_of m e ns)
unfolding group_of
group_of-long m e n ns h =
    length-append (marked m n (take e no_targets)) (group_of m e ns) ∙ rw (marked-long m n (take e no_targets), length-take-le e no_targets h)

-- the first name of short names is short, and so are the others
pub short-first : (n : List ℕ) (ns : List (List ℕ)) → all_short (n ∷ ns) ≡ true → length n ≤ 255
unfolding all_short all_names is_short
short-first n ns e = leb-true (length n) 255 (and_left (leb (length n) 255) (all_short ns) e)

pub short-rest : (n : List ℕ) (ns : List (List ℕ)) → all_short (n ∷ ns) ≡ true → all_short ns ≡ true
unfolding all_short all_names is_short
short-rest n ns e = and_right (leb (length n) 255) (all_short ns) e

-- out holds the records of the first i names, up to b
pub record GroupAt (o : List ℕ) (at m e : ℕ) (s t : List ℕ) (count : ℕ) (out : List ℕ) (b i : ℕ) : Type 0 where
  pub entries : count ≤ length t
  pub ends : e ≤ 2
  pub within : i ≤ count
  pub long : length out ≡ length o
  pub short : all_short (drop i (names_in s t count)) ≡ true
  pub room : b + length (group_of m e (drop i (names_in s t count))) ≤ length out
  pub place : at + length (group_of m e (names_in s t count)) ≡ b + length (group_of m e (drop i (names_in s t count)))
  pub left : written o at (group_of m e (names_in s t count)) ≡ written out b (group_of m e (drop i (names_in s t count)))

module _ {o : List ℕ} {at m e : ℕ} {s t : List ℕ} {count : ℕ} {out : List ℕ} {b i : ℕ} (h : GroupAt o at m e s t count out b i) where
  abbrev rest : List (List ℕ)
  rest = drop (suc i) (names_in s t count)

  module _ (end : List ℕ) (ee : end ≡ take e no_targets) where
    module _ (l : i < length (take count t)) (r : List ℕ) (er : r ≡ name_in s (get_or (take count t) i 0)) where
      inside : i < count
      inside = omega (arith, length-take-le count t h.entries)

      next : drop i (names_in s t count) ≡ r ∷ rest
      next = names-next s t count i h.entries inside ∙ rw (← get_or-take count t i 0 inside, ← er)

      pub group-short : length r ≤ 255
      group-short = short-first r rest (rw next at h.short)

      long-next : length (group_of m e (drop i (names_in s t count))) ≡ 5 + length r + e + length (group_of m e rest)
      long-next = rw next (group_of-long m e r rest h.ends)

      pub group-room : b + (5 + length r + length end) ≤ length out
      group-room = omega (arith, h.room, long-next, ap length ee, length-take-le e no_targets h.ends)

      pub group-more : (b' : ℕ) (out' : List ℕ) → Put out b (marked m r end) out' b' → GroupAt o at m e s t count out' b' (i + 1)
      unfolding group_of
      group-more b' out' p =
          let one : length (marked m r end) ≡ 5 + length r + e = marked-long m r end ∙ rw (ee, length-take-le e no_targets h.ends) in
          let fits : b + length (marked m r end) ≤ length out = omega (arith, one, h.room, long-next) in
          let same : length out' ≡ length out = put-long out b (marked m r end) out' b' fits p in
          record {
            entries = h.entries;
            ends = h.ends;
            within = omega (arith, inside);
            long = same ∙ h.long;
            short = rw (add-one i) (short-rest r rest (rw next at h.short));
            room = rw (add-one i) (omega (arith, h.room, long-next, same, one, p.place));
            place = rw (add-one i) (omega (arith, h.place, long-next, one, p.place));
            left = h.left ∙ rw (add-one i, next, p.bytes, p.place, ← ee) (sym (written-two out b (marked m r end) (group_of m e rest) fits));
          }

  pub group-done : length (take count t) ≤ i → Put o at (group_of m e (names_in s t count)) out b
  unfolding group_of
  group-done l =
      let none : drop i (names_in s t count) ≡ [] = names-end s t count i h.entries (omega (arith, length-take-le count t h.entries)) in
      record {
        place = sym (h.place ∙ rw none (omega arith));
        bytes = sym (h.left ∙ rw none (written_none out b));
      }

pub ruleset put_group_laws = (group-room, group-short, group-more, group-done)
