-- The next edge from a position to what a row does not hold.
use mathlib.Core.Path.{◌≡◌, sym, ap, ◌∙◌}
use mathlib.Core.Bool.{Bool, false, not, ◌&&◌}
use mathlib.Core.List.{List}
use Prim.Native.Nat.{ℕ, ◌≤◌}
use lib.ListN.{length}
use Rattle.resolution.specs.Row.{holds, NoneFrom, First}
use Rattle.resolution.specs.Graph.{lacks, Lacking, AnyLacking}
use Rattle.resolution.proofs.graph.Edges.{edge-out}

-- the next position of the row of such edges is the next such edge
pub next_lacking : (g : List ℕ) (i : ℕ) (out ws : List ℕ) (k r : ℕ) → Lacking g i out ws → First (holds ws) k 512 r
    → First (lacks g i out) k 512 r
next_lacking g i out ws k r h n = record {
  from = n.from;
  below = n.below;
  none = λ j f l. sym (h.each j) ∙ n.none j f l;
  found = sym (h.each r) ∙ n.found;
}

pub no_lacking : (g : List ℕ) (i : ℕ) (out ws : List ℕ) (k : ℕ) → Lacking g i out ws → NoneFrom (holds ws) k 512
    → NoneFrom (lacks g i out) k 512
no_lacking g i out ws k h n = record { none = λ j f l. sym (h.each j) ∙ n.none j f l }

pub no_edge : (g : List ℕ) (i : ℕ) (out : List ℕ) (k : ℕ) → length g ≡ 4608 → 512 ≤ i → NoneFrom (lacks g i out) k 512
unfolding lacks
no_edge g i out k e l = record { none = λ j _ _. ap (λ (t : Bool). t && not (holds out j)) (edge-out g i j e l) }

pub none_lacking : (g : List ℕ) (i : ℕ) (out : List ℕ) (k : ℕ) (r : Bool) → AnyLacking g i out r → r ≡ false → NoneFrom (lacks g i out) k 512
none_lacking g i out k r a e = record { none = λ j _ _. a.none e j }

pub ruleset next-edge-laws = (next_lacking, no_lacking, none_lacking, no_edge)
