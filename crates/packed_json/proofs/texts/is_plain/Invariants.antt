use Rattle.std.proofs.Common.{◌≡◌, drop}
use Rattle.json.specs.Print.{escape}
use Rattle.packed_json.proofs.texts.is_plain.Given as goal

abbrev pub invariant-loop-octet : goal.invariant-loop-octet
invariant-loop-octet l = escape (drop l.octet-index l.octets) ≡ drop l.octet-index l.octets → escape l.octets ≡ l.octets
