use Rattle.packed_reader.specs.Spots.{spot_of}
use Rattle.packed_reader.proofs.PieceSteps.{counted_is}
use Rattle.packed_reader.proofs.pieces.counted_content.Goals as goal

pub returns-clause-size : goal.returns-clause-size
returns-clause-size c = counted_is c.args.order c.args.code c.in_ok-count.count c.unit_of.result (spot_of c.args.ahead) _ c.requires c.in_ok-count.ensures.value c.unit_of.ensures.unit
