use borrow.Author.Rules.{rules}
use Rattle.resolution.proofs.configure.Laws.{members-laws}
use Rattle.resolution.proofs.configure.member_row.Goals as goal

pub loop-i-init : goal.loop-i-init
loop-i-init c = search (members-laws, rules)

pub loop-i-preserved : goal.loop-i-preserved
loop-i-preserved c = search (members-laws, rules)
