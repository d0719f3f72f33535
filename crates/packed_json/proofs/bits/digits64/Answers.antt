use Rattle.std.proofs.Common.{refl}
use Rattle.type_values.proofs.ListTests.{octets_are}
use Rattle.packed_json.proofs.HexDigits.{hex_escape}
use Rattle.packed_json.proofs.bits.digits64.Goals as goal

pub returns-in-Ok : goal.returns-in-Ok
returns-in-Ok c = rw (c.in-Ok.ensures.written, hex_escape c.args.octets.now (octets_are c.args.octets.now c.type_inv.octets)) refl
