use Rattle.class_reader.specs.declared.entry.Entry.TheVariants.{Module}
use Rattle.class_reader.proofs.measure.Laws.{tables_bad, tables_more, tables-laws}
use borrow.Author.Rules.{rules}
use Rattle.class_reader.proofs.measure.measure_tables.Goals as goal

pub loop-e-init : goal.loop-e-init
loop-e-init c = search (tables-laws, rules)

pub returns-in_err-measured-clause-value : goal.returns-in_err-measured-clause-value
returns-in_err-measured-clause-value c = tables_bad c.loop-e.invariant c.loop-e-test.true Module _ c.in_err-measured.ensures.value c.from_residual.ensures

pub loop-e-preserved : goal.loop-e-preserved
loop-e-preserved c = tables_more c.loop-e.invariant c.loop-e-test.true Module _ c.in_ok-measured.ensures.value c.in_ok-measured.ensures.small

pub returns-clause-value : goal.returns-clause-value
returns-clause-value c = search (tables-laws, rules)
