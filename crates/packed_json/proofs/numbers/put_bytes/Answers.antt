use Rattle.std.proofs.Common.{◌≡◌, false, length, rules}
use Rattle.type_values.proofs.ListTests as fitting
use Rattle.packed_json.proofs.Lists.{octets_are}
use Rattle.packed_json.proofs.numbers.put_bytes.Goals as goal

pub returns : goal.returns
returns c =
    let xs = c.args.octets.now in
    let many : length xs ≡ c.args.count = search rules in
    rw (← many, octets_are c.args.order false xs (fitting.octets_are xs c.type_inv.octets)) c.in_ok-put_octets.ensures
