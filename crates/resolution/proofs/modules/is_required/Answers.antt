use Rattle.std.proofs.Common.{rules, tests, ◌∙◌}
use Rattle.std.proofs.lemmas.Iterator.{YieldsList-from_slice}
use Rattle.std.proofs.lemmas.Iterator.Search.{any_from_yields_List}
use Rattle.records.specs.Set.{block_at}
use Rattle.resolution.specs.Filter.{requires_in}
use Rattle.resolution.proofs.modules.Laws.{required_any}
use Rattle.resolution.proofs.modules.is_required.Goals as goal

pub returns : goal.returns
returns c =
    any_from_yields_List (λ i. requires_in (block_at c.args.sources.now.set.now c.args.sources.now.starts.now i) c.args.name.now) _ _ _ c.any.ensures.ran
    (YieldsList-from_slice c.args.positions.now cc) (λ x b q k. search (rules, tests))
    ∙ required_any c.args.sources.now.set.now c.args.sources.now.starts.now c.args.positions.now c.args.name.now
