-- The loops of `collect_transitive_reads` and `reachable_from`: a start, each turn, the end, and the fall of the unmarked positions.
use mathlib.Core.Path.{◌≡◌, refl, subst}
use mathlib.Core.Bool.{Bool, true, false, not, ◌&&◌}
use mathlib.Core.List.{List}
use Prim.Native.Nat.{ℕ, ◌+◌, ◌≤◌, ◌<◌}
use native.Mathlib.Omega.{arith}
use lib.ListN.{length}
use borrow.Author.Tests.{not-true}
use Rattle.records.proofs.Logic.{true≠false, and_left, and_right}
use Rattle.resolution.specs.Row.{holds, Added, NoneFrom, First}
use Rattle.resolution.specs.Graph.{edge, lacks, AnyLacking, Collected, ReachedFrom, unmarked}
use Rattle.resolution.proofs.reach.Search.{Gathered, start, skip, visit, fewer, gather-start, gather-skip, gather-visit, gather-all}

-- an edge to what is not marked: there is the edge, and no mark; where there is none such, an edge leads to a mark
lack-edge : (a b : Bool) → (a && not b) ≡ true → a ≡ true
lack-edge a b h = and_left a (not b) h

lack-mark : (a b : Bool) → (a && not b) ≡ true → b ≡ false
lack-mark a b h = not-true b (and_right a (not b) h)

no-lack : (a b : Bool) → (a && not b) ≡ false → a ≡ true → b ≡ true
no-lack true true h e = refl
no-lack true false h e = true≠false refl h
no-lack false b h e = true≠false e refl

-- a visit of m would add nothing
still : (g : List ℕ) (m : ℕ) (ws : List ℕ) (r : Bool) → AnyLacking g m ws r → r ≡ false → Collected g m 512 ws ws
unfolding lacks
still g m ws r a e = skip g m 0 512 ws ws (start g m ws) (λ i _ _ d. no-lack (edge g m i) (holds ws i) (a.none e i) d)

-- the successors of m below k are looked at
pub record CollectAt (g : List ℕ) (m : ℕ) (before out : List ℕ) (k : ℕ) : Type 0 where
  pub within : k ≤ 512
  pub so_far : Collected g m k before out

pub collect-start : (g : List ℕ) (m : ℕ) (ws : List ℕ) → CollectAt g m ws ws 0
collect-start g m ws = record { within = omega arith; so_far = start g m ws }

module _ {g : List ℕ} {m : ℕ} {before out : List ℕ} {k : ℕ} (h : CollectAt g m before out k) where
  -- up to the next successor n that is not marked
  passed : (n : ℕ) → ((i : ℕ) → k ≤ i → i < n → lacks g m out i ≡ false) → Collected g m n before out
  unfolding lacks
  passed n none = skip g m k n before out h.so_far (λ i f l e. no-lack (edge g m i) (holds out i) (none i f l) e)

  -- there is none
  pub collect-none : NoneFrom (lacks g m out) k 512 → Collected g m 512 before out
  collect-none n = passed 512 n.none

  module _ (j : ℕ) (n : First (lacks g m out) k 512 j) where
    -- j is marked now, and visited
    pub collect-visit : (marked after : List ℕ) → Added out j marked → Collected g j 512 marked after
        → CollectAt g m before after (j + 1)
    unfolding lacks
    collect-visit marked after w v = record {
      within = omega (arith, n.below);
      so_far = visit g m j before out marked after (passed j n.none) (lack-edge (edge g m j) (holds out j) n.found) (w.below n.below) v;
    }

    -- j is marked now, and a visit would add nothing
    pub collect-still : (marked : List ℕ) (r : Bool) → Added out j marked → AnyLacking g j marked r → r ≡ false
        → CollectAt g m before marked (j + 1)
    collect-still marked r w a e = collect-visit marked marked w (still g j marked r a e)

    pub collect-fewer : (marked : List ℕ) (t : ℕ) → Added out j marked → unmarked before ≡ t → unmarked marked < t
    unfolding lacks
    collect-fewer marked t w q =
        subst (λ (x : ℕ). unmarked marked < x) q
        (fewer g m j before out marked n.below (passed j n.none) (lack-mark (edge g m j) (holds out j) n.found) (w.below n.below))

pub ruleset collect-laws = (collect-start, collect-none, collect-visit, collect-still, collect-fewer)

-- the positions of `from` below k are visited
pub record GatherAt (g from out : List ℕ) (k : ℕ) : Type 0 where
  pub within : k ≤ 512
  pub so_far : Gathered g k from out

pub reach-start : (g from : List ℕ) → GatherAt g from from 0
reach-start g from = record { within = omega arith; so_far = gather-start g from }

module _ {g from out : List ℕ} {k : ℕ} (h : GatherAt g from out k) where
  -- there is none from k on
  pub reach-none : length g ≡ 4608 → NoneFrom (holds from) k 512 → ReachedFrom g from out
  reach-none e n = gather-all g from out e (gather-skip g from k 512 out h.so_far n.none)

  -- from k to the next position m of the row
  module _ (m : ℕ) (n : First (holds from) k 512 m) where
    pub reach-visit : (after : List ℕ) → Collected g m 512 out after → GatherAt g from after (m + 1)
    reach-visit after v = record {
      within = omega (arith, n.below);
      so_far = gather-visit g from m out after (gather-skip g from k m out h.so_far n.none) n.found v;
    }

    pub reach-still : (r : Bool) → AnyLacking g m out r → r ≡ false → GatherAt g from out (m + 1)
    reach-still r a e = reach-visit out (still g m out r a e)

pub ruleset reach-laws = (reach-start, reach-none, reach-visit, reach-still)
