use Rattle.std.proofs.Common.{◌≡◌, ◌++◌, true, false, drop}
use Rattle.packed_json.specs.Lists.{octets_text}
use Rattle.packed_json.proofs.numbers.put_octets.Given as goal

abbrev pub invariant-loop-octet : goal.invariant-loop-octet
invariant-loop-octet l = (l.out ++ l.block) ++ octets_text true (drop l.octet-index l.rest) ≡ l.initial.out ++ octets_text false l.octets
