use Rattle.std.proofs.Common.{◌≡◌, nat_lt, drop}
use Rattle.xt_shapes.specs.Lists.{has}
use Rattle.packed_reader.proofs.lists.has_above_one.Given as goal

abbrev pub invariant-loop-octet : goal.invariant-loop-octet
invariant-loop-octet l = has (λ b. nat_lt 1 b) (drop l.octet-index l.octets) ≡ has (λ b. nat_lt 1 b) l.octets
