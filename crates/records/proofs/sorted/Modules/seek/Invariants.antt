use Rattle.records.proofs.sorted.Laws.{SeekAt}
use Rattle.records.proofs.sorted.Modules.seek.Given as goal

abbrev pub invariant-loop : goal.invariant-loop
invariant-loop l = SeekAt l.self.set.now l.self.starts.now l.self.count l.self.index.now l.first l.name l.keys.first l.keys.next l.low l.high l.m l.counter
