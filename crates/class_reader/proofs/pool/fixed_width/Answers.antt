use Rattle.class_reader.proofs.pool.Widths.{width-none}
use borrow.Author.Rules.{rules}
use Rattle.class_reader.proofs.pool.fixed_width.Goals as goal

pub returns-in_default : goal.returns-in_default
returns-in_default c = search (width-none, rules)
