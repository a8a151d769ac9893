use Rattle.std.proofs.Common.{refl}
use Rattle.records.specs.Name.{printable}
use Rattle.records.proofs.name.Laws.{printable-next}
use Rattle.records.proofs.name.printable_part.Goals as goal

pub loop-b-init : goal.loop-b-init
unfolding printable
loop-b-init c = refl

pub loop-b-preserved : goal.loop-b-preserved
loop-b-preserved c =
    printable-next c.args.s.now c.loop-b.b-index c.loop-b.good c.is_ascii_graphic-good.result c.loop-b-test.true c.loop-b.invariant c.is_ascii_graphic-good.ensures.value
