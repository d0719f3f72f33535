use Rattle.std.proofs.Common.{◌≡◌, take, length, reverse}
use Rattle.xt_wire.proofs.writer.digits.high_octets.Given as goal

abbrev pub invariant-loop-at : goal.invariant-loop-at
invariant-loop-at l = (take l.at l.octets ≡ take l.at (reverse (take l.size l.low))) × (length l.octets ≡ 16)
