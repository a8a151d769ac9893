use Rattle.resolution.proofs.modules.Shared.{scan_laws}
use borrow.Author.Rules.{rules}
use Rattle.resolution.proofs.modules.least_in.Goals as goal

pub loop-span-preserved-then-is_lesser : goal.loop-span-preserved-then-is_lesser
loop-span-preserved-then-is_lesser c = search (scan_laws, rules)

pub loop-span-preserved : goal.loop-span-preserved
loop-span-preserved c = search (scan_laws, rules)
