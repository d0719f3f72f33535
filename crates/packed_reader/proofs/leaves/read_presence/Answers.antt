use Rattle.packed_reader.specs.Spots.{spot_of}
use Rattle.packed_reader.proofs.LeafSteps.{presence_is}
use Rattle.packed_reader.proofs.leaves.read_presence.Goals as goal

pub returns : goal.returns
returns c = presence_is c.args.order c.in_ok-number.number (spot_of c.args.ahead) (spot_of c.in_ok-number.behind) c.in_ok-number.ensures.value c.if-number-gt1.false
