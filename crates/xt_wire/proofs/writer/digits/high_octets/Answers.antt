use Rattle.std.proofs.Common.{rules, refl, arith}
use Rattle.xt_wire.proofs.OfNumbers.UnitSteps.{unit_small}
use Rattle.xt_wire.proofs.OfWriter.NumberSteps.{one_high}
use Rattle.xt_wire.proofs.writer.digits.high_octets.Goals as goal

pub loop-at-preserved : goal.loop-at-preserved
loop-at-preserved c =
    let small = unit_small c.args.size c.requires in
    (one_high c.args.size c.loop-at.at _ c.low_octets-low.result c.loop-at.octets c.loop-at-test.true (omega arith) (search rules) c.loop-at.invariant.0 refl, search rules)
