use borrow.Author.Rules.{rules}
use Rattle.resolution.proofs.reach.Laws.{collect-laws}
use Rattle.resolution.proofs.reach.+collect_transitive_reads.Goals as goal

pub collect_transitive_reads-out-requires : goal.collect_transitive_reads-out-requires
collect_transitive_reads-out-requires t c = search (collect-laws, rules, c.in-Some.ensures)

pub loop-j-preserved-then-any_lacking : goal.loop-j-preserved-then-any_lacking
loop-j-preserved-then-any_lacking t c = search (collect-laws, rules, c.in-Some.ensures)

pub loop-j-preserved : goal.loop-j-preserved
loop-j-preserved t c = search (collect-laws, rules, c.in-Some.ensures)

pub returns : goal.returns
returns t c = search (collect-laws, rules, c.in_default.ensures)
