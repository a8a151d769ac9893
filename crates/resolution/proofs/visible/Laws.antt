-- The visible positions: what each turn of the walk over the table shows.
use Prim.Native.Nat.{ℕ, ◌+◌, ◌≤◌, ◌<◌}
use mathlib.Core.Path.{◌≡◌, sym, ap, ◌∙◌}
use mathlib.Core.Bool.{◌||◌, or_assoc, or-false}
use mathlib.Core.List.{List, [], ◌∷◌, ◌++◌, map}
use native.Mathlib.Omega.{arith}
use native.Mathlib.Numerals.{add-one}
use lib.Dec.{eqb, ltb}
use lib.ListN.{length, get_or, take, replicate, length-replicate}
use lib.Seq.{take-suc, take-length}
use borrow.Author.Tests.{ltb-true, ltb-false}
use Rattle.records.specs.Set.{check_set, name_at, modules}
use Rattle.records.specs.Finder.{is_first}
use Rattle.records.specs.Sorted.{has_position, entries_in, table_in}
use Rattle.records.specs.Sorted as Sorted
use Rattle.records.proofs.Logic.{by}
use Rattle.records.proofs.set.Blocks.{good-set}
use Rattle.records.proofs.sorted.Growth as Growth
use Rattle.records.proofs.sorted.Visible.{sorted_exactly}
use Rattle.records.proofs.sorted.Index.{table_long, entry_at, entry_in}
use Rattle.records.proofs.sorted.Laws.{names-long, position-name}
use Rattle.resolution.specs.Configuration.{with_read}
use Rattle.resolution.specs.Lookup.{Lookup}
use Rattle.resolution.specs.Positions.{is_visible}
use Rattle.resolution.specs.Readability.{Holding}
use Rattle.resolution.specs.Row.{holds, Added}
use Rattle.resolution.proofs.Positions.{visible_in}
use Rattle.resolution.proofs.Sets.{set-length, visible-start}
use Rattle.resolution.proofs.configuration.Laws.{read-added, read-long}
use Rattle.resolution.proofs.row.Laws.{empty-zeros}
use Rattle.std.specs.Prelude.{Ok}

has_last : (j p : ℕ) (l : List ℕ) → has_position j (l ++ (p ∷ [])) ≡ has_position j l || eqb j p
unfolding has_position
has_last j p [] = or-false (eqb j p)
has_last j p (q ∷ l) = rw (has_last j p l) (sym (or_assoc (eqb j q) (has_position j l) (eqb j p)))

-- the first k entries are in the row
pub record VisibleAt (index ws : List ℕ) (k : ℕ) : Type 0 where
  pub within : k ≤ entries_in index
  pub long : length ws ≡ 8
  pub so_far : (j : ℕ) → holds ws j ≡ has_position j (take k (table_in index))

pub visible-start-at : (index : List ℕ) → VisibleAt index (replicate 8 0) 0
unfolding has_position
visible-start-at index = record { within = omega arith; long = length-replicate {A = ℕ} 8 0; so_far = λ j. (empty-zeros 8).none j }

module _ (s t index : List ℕ) (n : ℕ) (x : Lookup s t n index) where
  pub visible-long : length index ≡ 2050
  visible-long = x.indexed.long

  module _ (ws : List ℕ) (k : ℕ) (h : VisibleAt index ws k) (m : ℕ) (em : m ≡ entries_in index) where
    pub visible-few : k < m → k < 512
    visible-few l = omega (arith, x.indexed.few, x.indexed.most)

    pub visible_more : (p : ℕ) (after : List ℕ) → k < m → p ≡ get_or index (1538 + k) 0 → after ≡ with_read ws p → VisibleAt index after (k + 1)
    visible_more p after l ep ea₂ =
        let a : Added ws p after = read-added ws p after h.long ea₂ in
        let kl : k < entries_in index = omega (arith, em) in
        let kt : k < length (table_in index) = rw (table_long (map (name_at s) (take n t)) index x.indexed) kl in
        let ea : get_or (table_in index) k 0 ≡ p = entry_at (map (name_at s) (take n t)) index x.indexed k kl ∙ sym ep in
        let small : p < 512 = rw ep (omega (arith, entry_in (map (name_at s) (take n t)) index x.indexed k kl, x.indexed.most)) in
        record {
          within = omega (arith, em);
          long = read-long ws p after h.long ea₂;
          so_far = λ j. a.below small j ∙ rw (h.so_far j) (sym (rw (add-one k, take-suc (table_in index) k 0 kt, ea) (has_last j p (take k (table_in index)))));
        }

    module _ (e : check_set s ≡ Ok (record { count = n; starts = t })) where
      there : (j : ℕ) → has_position j (table_in index) ≡ is_visible (modules s) j
      unfolding Sorted.is_visible
      there j = by (ltb j n)
          (λ y. let jn : j < n = ltb-true j n y in here j jn ∙ sym (visible-start s n t e j jn))
          (λ y. past j (ltb-false j n y))
        where
          exact : (i : ℕ) → has_position i (table_in index) ≡ Sorted.is_visible (map (name_at s) (take n t)) i
          exact i = sorted_exactly (map (name_at s) (take n t)) (table_in index) x.indexed.sorted i

          first : (i : ℕ) → i < n → Sorted.is_visible (map (name_at s) (take n t)) i ≡ is_first (map (name_at s) (take n t)) (name_at s (get_or t i 0)) i
          first i l = ap (λ (z : List ℕ). is_first (map (name_at s) (take n t)) z i) (position-name s t n x.within i l)

          here : (i : ℕ) → i < n → has_position i (table_in index) ≡ is_first (map (name_at s) (take n t)) (name_at s (get_or t i 0)) i
          here i l = exact i ∙ first i l

          past : (i : ℕ) → n ≤ i → has_position i (table_in index) ≡ is_visible (modules s) i
          past i l =
              by (has_position i (table_in index))
              (λ y. absurd (omega (arith, Growth.visible_in (map (name_at s) (take n t)) i (sym (exact i) ∙ y), names-long s t n x.within)))
              (λ y. by (is_visible (modules s) i) (λ z. absurd (omega (arith, visible_in (modules s) i z, set-length s n t (good-set s n t e)))) (λ z. y ∙ sym z))

      pub visible-done : m ≤ k → Holding ws (is_visible (modules s))
      visible-done l =
          let q : k ≡ length (table_in index) = rw (table_long (map (name_at s) (take n t)) index x.indexed) (omega (arith, em, h.within)) in
          record { each = λ j. h.so_far j ∙ rw (q, take-length (table_in index)) (there j) }

pub ruleset visible-laws = (visible-start-at, visible-long, visible-few, visible_more, visible-done)
