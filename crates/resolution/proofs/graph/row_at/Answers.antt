use Rattle.std.proofs.Common.{rules, arith, ◌≡◌, ◌∙◌, ap, ℕ, ◌+◌, ◌-◌, ◌*◌, ◌<◌, List, get_or, drop}
use Rattle.std.proofs.Math.Seq.{get_or-take, get_or-drop}
use Rattle.resolution.proofs.graph.Edges.{row-edges}
use Rattle.resolution.proofs.graph.row_at.Goals as goal

pub returns : goal.returns
returns c =
    let g : List ℕ = c.args.g.now in
    let i : ℕ = c.args.i in
    let e : (k : ℕ) → k < 8 → get_or c.copy_from_slice.new.self k 0 ≡ get_or g (i * 9 + k) 0 =
    λ k l. ap (λ (s : List ℕ). get_or s k 0) c.copy_from_slice.ensures.after
    ∙ get_or-take (i * 9 + 8 - i * 9) (drop (i * 9) g) k 0 (omega arith) ∙ get_or-drop (i * 9) g k 0 in
    row-edges g i c.copy_from_slice.new.self (search rules) e
