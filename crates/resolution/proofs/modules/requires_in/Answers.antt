use Rattle.resolution.proofs.modules.Laws.{block_laws}
use borrow.Author.Rules.{rules}
use Rattle.resolution.proofs.modules.requires_in.Goals as goal

pub loop-span-preserved : goal.loop-span-preserved
loop-span-preserved c = search (block_laws, rules)
