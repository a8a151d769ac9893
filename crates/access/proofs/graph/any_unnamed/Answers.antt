use Rattle.std.proofs.Common.{rules, tests, arith, ◌∙◌}
use Rattle.std.proofs.lemmas.Iterator.{YieldsList-from_range}
use Rattle.std.proofs.lemmas.Iterator.Search.{any_from_yields_List}
use Rattle.access.specs.GraphSteps.{unnamed_in}
use Rattle.access.proofs.graph.Leads.{any_is}
use Rattle.access.proofs.graph.any_unnamed.Goals as goal

pub returns : goal.returns
returns c =
    any_from_yields_List (λ k. unnamed_in c.args.row.words c.args.members.words c.args.words.now k) _ _ _ c.any.ensures.ran
    (YieldsList-from_range 0 c.args.n c.args.n (cc) (omega arith)) (λ x b q k. search (rules, tests))
    ∙ any_is (unnamed_in c.args.row.words c.args.members.words c.args.words.now) c.args.n
