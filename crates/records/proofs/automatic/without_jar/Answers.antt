use Rattle.std.proofs.Common.{refl, ◌∙◌, ap, ℕ, List, Bor}
use Rattle.records.proofs.automatic.Derivation.{jar_cut}
use Rattle.records.proofs.automatic.without_jar.Goals as goal

pub returns : goal.returns
returns c = ap (λ (x : Bor (List ℕ)). x.now) c.unwrap_or.ensures ∙ jar_cut c.args.s.now c.strip_suffix.result c.args.s refl c.strip_suffix.ensures.cases
