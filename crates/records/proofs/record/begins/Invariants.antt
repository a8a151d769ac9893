use mathlib.Core.List.{map}
use Rattle.records.proofs.record.Search.{BeginsAt}
use Rattle.records.proofs.record.begins.Given as goal

abbrev pub invariant-loop-name : goal.invariant-loop-name
invariant-loop-name l = BeginsAt (map (λ n. n.now) l.names) l.body l.name-index l.t
