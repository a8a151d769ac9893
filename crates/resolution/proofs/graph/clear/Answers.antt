use Rattle.std.proofs.Common.{◌∙◌, ap, replicate, ℕ}
use Rattle.resolution.proofs.graph.clear.Goals as goal

pub returns : goal.returns
returns c = c.fill.ensures.after (λ y h. h) ∙ ap (λ (n : ℕ). replicate {A = ℕ} n 0) c.requires
