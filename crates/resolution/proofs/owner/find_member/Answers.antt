use Rattle.resolution.proofs.owner.Laws.{owner-laws}
use borrow.Author.Rules.{rules}
use Rattle.resolution.proofs.owner.find_member.Goals as goal

pub loop-i-init : goal.loop-i-init
loop-i-init c = search (owner-laws, rules)

pub loop-i-preserved : goal.loop-i-preserved
loop-i-preserved c = search (owner-laws, rules)

pub returns-then-owns : goal.returns-then-owns
returns-then-owns c = search (owner-laws, rules)

pub returns : goal.returns
returns c = search (owner-laws, rules)
