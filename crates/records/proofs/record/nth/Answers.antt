use Rattle.std.proofs.Common.{rules}
use Rattle.records.proofs.record.Bodies.{nth_laws, nth_start}
use Rattle.records.proofs.record.nth.Goals as goal

pub loop-init : goal.loop-init
loop-init c = nth_start _ _ _

pub returns-in_err-c : goal.returns-in_err-c
returns-in_err-c c = search (nth_laws, c.in_err-c.was, rules)

pub loop-preserved : goal.loop-preserved
loop-preserved c = search (nth_laws, c.in_ok-c.was, rules)
