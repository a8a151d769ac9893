use Rattle.resolution.proofs.readability.Answers.{read-edges_are}
use borrow.Author.Rules.{rules}
use borrow.Author.Rules.{rules}
use Rattle.resolution.proofs.readability.read_edges.Goals as goal

pub clear-requires : goal.clear-requires
clear-requires c = search (read-edges_are, rules)

pub slice_bounds-set_reads-end : goal.slice_bounds-set_reads-end
slice_bounds-set_reads-end c = search (read-edges_are, rules)

pub set_reads-requires : goal.set_reads-requires
set_reads-requires c = record { graph_len = search rules; rows_len = search rules; direct_rows = search rules }

pub add_reads-requires : goal.add_reads-requires
add_reads-requires c = search (read-edges_are, rules)

pub returns : goal.returns
returns c = search (read-edges_are, rules)
