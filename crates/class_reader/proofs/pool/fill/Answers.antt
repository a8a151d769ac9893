use borrow.Author.Rules.{rules}
use Rattle.class_reader.proofs.pool.Table.{fill-laws}
use Rattle.class_reader.proofs.pool.fill.Goals as goal

pub loop-i-init : goal.loop-i-init
loop-i-init c = search (fill-laws, rules)

pub returns-then-not-is_constant : goal.returns-then-not-is_constant
returns-then-not-is_constant c = search (fill-laws, rules)

pub loop-i-preserved-then-second : goal.loop-i-preserved-then-second
loop-i-preserved-then-second c = search (fill-laws, rules)

pub loop-i-preserved : goal.loop-i-preserved
loop-i-preserved c = search (fill-laws, rules)

pub returns : goal.returns
returns c = search (fill-laws, rules)
