-- The visible blocks of a set that the check takes, one after the other, are again such a set, and they are all of its blocks.
use Prim.Native.Nat.{ℕ, suc, ◌+◌, ◌≤◌}
use mathlib.Core.Path.{◌≡◌, ◌∙◌}
use mathlib.Core.List.Memᴰ
use mathlib.Core.List.{List, [], ◌∷◌, ◌++◌, map, flatten, Memᴰ}
use mathlib.Core.Logic.{⊎_elim}
use mathlib.Core.Bool.{Bool, true, false, cond, ◌||◌}
use native.Mathlib.Omega.{arith}
use lib.ListN.{length, length-append}
use Rattle.records.specs.Record.{records, is_of}
use Rattle.records.specs.Descriptor.{Descriptor, descriptor_of}
use Rattle.records.specs.Set.{table_of, accepted, check_set, up_to_next, blocks_of, blocks, modules}
use Rattle.records.specs.Places.{has_place, names_in, distinct}
use Rattle.records.specs.Finder.{is_first, found_from, visible_blocks}
use Rattle.records.specs.declared.record.Kind.TheVariants.{Module, Place}
use Rattle.records.proofs.finder.Distinct.{found-distinct, distinct-visible}
use Rattle.records.proofs.set.Blocks.{GoodSet, good-set}
use Rattle.records.proofs.set.BlockSets.{GoodBlock, good-block, Joined, joined}
use Rattle.records.proofs.set.Table.{Taken, taken}
use Rattle.std.specs.Prelude.{Ok}

-- ---- what is found is no more and no longer than what there is

module _ (f : List ℕ → List ℕ) (l : List (List ℕ)) where
  found-mem : (k : ℕ) (xs : List (List ℕ)) (x : List ℕ) → Memᴰ x (found_from f l k xs) → Memᴰ x xs
  unfolding found_from
  found-mem k [] x h = h
  found-mem k (y ∷ ys) x h = go (is_first l (f y) k) (found-mem (suc k) ys x) h
    where
      go : (b : Bool) → (Memᴰ x (found_from f l (suc k) ys) → Memᴰ x ys) → Memᴰ x (cond b (y ∷ found_from f l (suc k) ys) (found_from f l (suc k) ys)) → Memᴰ x (y ∷ ys)
      go true below m = ⊎_elim (λ q. Memᴰ.head q) (λ q. Memᴰ.tail (below q)) (Memᴰ.cases_cons m)
      go false below m = Memᴰ.tail (below m)

  record Less (ys xs : List (List ℕ)) : Type 0 where
    few : length ys ≤ length xs
    short : length (flatten ys) ≤ length (flatten xs)

  found_less : (k : ℕ) (xs : List (List ℕ)) → Less (found_from f l k xs) xs
  unfolding found_from flatten
  found_less k [] = record { few = omega arith; short = omega arith }
  found_less k (y ∷ ys) = go (is_first l (f y) k) (found_less (suc k) ys)
    where
      go : (b : Bool) → Less (found_from f l (suc k) ys) ys → Less (cond b (y ∷ found_from f l (suc k) ys) (found_from f l (suc k) ys)) (y ∷ ys)
      go true h = record { few = omega (arith, h.few); short = omega (arith, h.short, length-append y (flatten (found_from f l (suc k) ys)), length-append y (flatten ys)) }
      go false h = record { few = omega (arith, h.few); short = omega (arith, h.short, length-append y (flatten ys)) }

-- the blocks are no longer than the records
blocks-short : (rs : List (List ℕ)) → length (up_to_next rs) + length (flatten (blocks_of rs)) ≤ length (flatten rs)
unfolding up_to_next blocks_of flatten
blocks-short [] = omega arith
blocks-short (r ∷ rs) = go (is_of Module r) (is_of Place r) (blocks-short rs)
  where
    go : (m p : Bool) → length (up_to_next rs) + length (flatten (blocks_of rs)) ≤ length (flatten rs)
        → length (cond (m || p) [] (r ++ up_to_next rs)) + length (flatten (cond m ((r ++ up_to_next rs) ∷ blocks_of rs) (blocks_of rs))) ≤ length (r ++ flatten rs)
    go true p h = omega (arith, h, length-append r (flatten rs), length-append (r ++ up_to_next rs) (flatten (blocks_of rs)), length-append r (up_to_next rs))
    go false true h = omega (arith, h, length-append r (flatten rs))
    go false false h = omega (arith, h, length-append r (flatten rs), length-append r (up_to_next rs))

-- ---- the visible blocks of a set

-- the check takes v; its blocks are the visible blocks of s, all of them visible; and it has no PL
pub record VisibleSet (s v : List ℕ) : Type 0 where
  pub count : ℕ
  pub starts : List ℕ
  pub taken : check_set v ≡ Ok (record { count = count; starts = starts })
  pub blocks_are : blocks v ≡ visible_blocks s
  pub visible_are : visible_blocks v ≡ visible_blocks s
  pub one_place : has_place (records v) ≡ false

module _ (s : List ℕ) (n : ℕ) (t : List ℕ) (e : check_set s ≡ Ok (record { count = n; starts = t })) where
  visible-distinct : distinct (names_in (visible_blocks s)) ≡ true
  unfolding visible_blocks
  visible-distinct = found-distinct (λ (b : List ℕ). (descriptor_of b).name) (map (λ (m : Descriptor). m.name) (modules s)) 0 (blocks s)

  visible-good : (b : List ℕ) → Memᴰ b (visible_blocks s) → GoodBlock b
  unfolding visible_blocks
  visible-good b m = good-block s n t e b (found-mem (λ (x : List ℕ). (descriptor_of x).name) (map (λ (d : Descriptor). d.name) (modules s)) 0 (blocks s) b m)

  visible-joined : Joined (visible_blocks s)
  unfolding visible_blocks blocks
  visible-joined =
      let f : Less (λ (x : List ℕ). (descriptor_of x).name) (map (λ (d : Descriptor). d.name) (modules s)) (visible_blocks s) (blocks s) = found_less (λ (x : List ℕ). (descriptor_of x).name) (map (λ (d : Descriptor). d.name) (modules s)) 0 (blocks s) in
      let g : GoodSet s n t = good-set s n t e in
      let k : Taken s n t = taken s n t e in
      joined (visible_blocks s) visible-good visible-distinct (omega (arith, f.few, g.few, g.count)) (omega (arith, f.short, blocks-short (records s), k.used, k.short))

  -- the visible blocks, one after the other
  pub visible-set : VisibleSet s (flatten (visible_blocks s))
  unfolding accepted table_of
  visible-set = record {
    count = length visible-joined.starts;
    starts = table_of visible-joined.starts (length (flatten (visible_blocks s)));
    taken = visible-joined.taken;
    blocks_are = visible-joined.blocks_are;
    visible_are = distinct-visible (flatten (visible_blocks s)) (rw visible-joined.blocks_are visible-distinct) ∙ visible-joined.blocks_are;
    one_place = visible-joined.one_place;
  }
