use Rattle.std.proofs.Common.{arith}
use Rattle.xt_wire.proofs.OfNumbers.UnitSteps.{unit_small}
use Rattle.value_writer.proofs.places.end_of_number.Goals as goal

pub overflow_add-padding : goal.overflow_add-padding
overflow_add-padding c = let small = unit_small c.args.size c.requires.size in grind arith
