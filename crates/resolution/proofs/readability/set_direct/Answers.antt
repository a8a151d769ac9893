use Rattle.resolution.proofs.readability.Rows.{set-direct-laws}
use borrow.Author.Rules.{rules}
use Rattle.resolution.proofs.readability.set_direct.Goals as goal

pub loop-p-init : goal.loop-p-init
loop-p-init c = search (set-direct-laws, rules)

pub set_direct_row-requires : goal.set_direct_row-requires
set_direct_row-requires c = record { base_value = search rules; p_bound = search (rules, c.in-Some.ensures); graph_len = search (set-direct-laws, rules); rows_len = search (set-direct-laws, rules) }

pub loop-p-preserved : goal.loop-p-preserved
loop-p-preserved c = search (set-direct-laws, rules, c.in-Some.ensures)

pub returns : goal.returns
returns c = search (set-direct-laws, rules, c.in_default.ensures)
