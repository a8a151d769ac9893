use borrow.Author.Rules.{rules}
use Rattle.resolution.proofs.visible.Laws.{visible-laws}
use Rattle.resolution.proofs.visible.visible.Goals as goal

pub loop-k-init : goal.loop-k-init
loop-k-init c = search (visible-laws, rules)

pub loop-k-preserved : goal.loop-k-preserved
loop-k-preserved c = search (visible-laws, rules)

pub returns : goal.returns
returns c = search (visible-laws, rules)
