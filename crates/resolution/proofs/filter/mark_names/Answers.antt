use borrow.Author.Rules.{rules}
use Rattle.resolution.proofs.filter.Laws.{names-laws}
use Rattle.resolution.proofs.filter.mark_names.Goals as goal

pub loop-span-smaller : goal.loop-span-smaller
loop-span-smaller c = search (names-laws, rules)

pub loop-span-preserved : goal.loop-span-preserved
loop-span-preserved c = search (names-laws, rules)

pub returns : goal.returns
returns c = search (names-laws, rules)
