use Rattle.packed_reader.specs.Spots.{spot_of}
use Rattle.packed_reader.proofs.Steps.{octets_ahead}
use Rattle.packed_reader.proofs.numbers.next_octets.Goals as goal

pub returns-clause-value : goal.returns-clause-value
returns-clause-value c = rw (c.split_at.ensures.front, c.split_at.ensures.back) (octets_ahead c.args.count (spot_of c.args.ahead) c.if-ahead-count.false)
