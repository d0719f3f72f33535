use Rattle.packed_reader.specs.Spots.{spot_of}
use Rattle.packed_reader.proofs.PieceSteps.{told_is}
use Rattle.packed_reader.proofs.pieces.content_size.Goals as goal

pub returns-in_ok-count-in-4-clause-size : goal.returns-in_ok-count-in-4-clause-size
returns-in_ok-count-in-4-clause-size c = told_is c.args.order c.args.code c.in_ok-count-in-4.count (spot_of c.args.ahead) (spot_of c.in_ok-count-in-4.behind) c.in-4.is c.in_ok-count-in-4.ensures.value
