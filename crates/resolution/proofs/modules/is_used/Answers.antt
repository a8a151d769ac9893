use Rattle.std.proofs.Common.{rules, tests, ◌∙◌}
use Rattle.std.proofs.lemmas.Iterator.{YieldsList-from_slice}
use Rattle.std.proofs.lemmas.Iterator.Search.{any_from_yields_List}
use Rattle.records.specs.Name.{mem_name, name_of}
use Rattle.records.specs.Record.{bodies}
use Rattle.records.specs.Set.{block_at}
use Rattle.records.specs.declared.record.Kind.TheVariants as Kind
use Rattle.std.specs.Prelude.{map}
use Rattle.resolution.proofs.modules.Laws.{used_any}
use Rattle.resolution.proofs.modules.is_used.Goals as goal

pub returns : goal.returns
returns c =
    any_from_yields_List (λ i. mem_name c.args.name.now (map name_of (bodies Kind.Uses (block_at c.args.sources.now.set.now c.args.sources.now.starts.now i)))) _ _ _ c.any.ensures.ran
    (YieldsList-from_slice c.args.positions.now cc) (λ x b q k. search (rules, tests))
    ∙ used_any c.args.sources.now.set.now c.args.sources.now.starts.now c.args.positions.now c.args.name.now
