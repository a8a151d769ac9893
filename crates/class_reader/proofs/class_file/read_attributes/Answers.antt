use Rattle.class_reader.proofs.class_file.Reading.{behind-fault, behind-found, behind-measured, behind-read, behind-laws}
use mathlib.Core.Path.{refl}
use borrow.Author.Rules.{rules}
use Rattle.class_reader.proofs.class_file.read_attributes.Goals as goal

pub returns-then-not-fields_good : goal.returns-then-not-fields_good
returns-then-not-fields_good c = search (behind-laws, rules)

pub walk-requires : goal.walk-requires
walk-requires c = search (behind-laws, rules)

pub write_descriptor-requires-clause-readable : goal.write_descriptor-requires-clause-readable
write_descriptor-requires-clause-readable c =
    behind-found _ _ _ _ c.fields_good.ensures c.if-not-fields_good.false _ c.be16.ensures.value _ c.in-Ok.ensures.value

pub write_descriptor-requires-clause-size_value : goal.write_descriptor-requires-clause-size_value
write_descriptor-requires-clause-size_value c =
    behind-measured _ _ _ _ c.fields_good.ensures c.if-not-fields_good.false _ c.be16.ensures.value _ c.in-Ok.ensures.value

pub returns-in-Ok : goal.returns-in-Ok
returns-in-Ok c =
    behind-read _ _ _ _ c.fields_good.ensures c.if-not-fields_good.false _ c.be16.ensures.value _ c.in-Ok.ensures.value _ _ _ c.write_descriptor.ensures

pub returns-in-Err : goal.returns-in-Err
returns-in-Err c =
    behind-fault _ _ _ _ c.fields_good.ensures c.if-not-fields_good.false _ c.be16.ensures.value _ _ _ c.in-Err.ensures.value refl
