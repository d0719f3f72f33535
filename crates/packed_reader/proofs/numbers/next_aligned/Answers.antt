use Rattle.std.proofs.Common.{◌≡◌, min, arith, rules}
use Rattle.xcdr_model.specs.Numbers.{padding}
use Rattle.packed_reader.specs.Reads.{most}
use Rattle.packed_reader.specs.Spots.{spot_of}
use Rattle.packed_reader.proofs.Steps.{number_ahead}
use Rattle.packed_reader.proofs.numbers.next_aligned.Goals as goal

pub returns-clause-value : goal.returns-clause-value
returns-clause-value c =
    let from : c.from.result ≡ c.args.size = search rules in
    let pad : c.padding_in-pad.result ≡ padding (min c.args.size (most c.args.rep)) c.args.ahead.place = c.padding_in-pad.ensures.octets in
    let e = number_ahead (most c.args.rep) c.args.order c.args.size c.padding_in-pad.result (spot_of c.args.ahead) pad (omega arith) in
    rw (c.number.ensures.value, c.split_at-2.ensures.front, c.split_at-2.ensures.back, c.split_at.ensures.back, from) e
