use Rattle.class_reader.proofs.measure.Laws.{measure-sum, measure-more, measure-laws}
use borrow.Author.Rules.{rules}
use Rattle.class_reader.proofs.measure.measure.Goals as goal

pub loop-i-init : goal.loop-i-init
loop-i-init c = search (measure-laws, rules)

pub entry_size-requires : goal.entry_size-requires
entry_size-requires c = search (measure-laws, rules)

pub end-requires : goal.end-requires
end-requires c = search (measure-laws, rules)

pub returns-in_err-bytes-clause-value : goal.returns-in_err-bytes-clause-value
returns-in_err-bytes-clause-value c = search (measure-laws, rules)

pub with_record-requires : goal.with_record-requires
with_record-requires c = measure-sum c.loop-i.invariant c.loop-i-test.true _ c.in_ok-bytes.ensures

pub loop-i-preserved : goal.loop-i-preserved
loop-i-preserved c = measure-more c.loop-i.invariant c.loop-i-test.true _ c.in_ok-bytes.ensures _ _ c.end.ensures c.with_record.ensures

pub returns-clause-value : goal.returns-clause-value
returns-clause-value c = search (measure-laws, rules)

pub returns-clause-small : goal.returns-clause-small
returns-clause-small c = search (measure-laws, rules)
