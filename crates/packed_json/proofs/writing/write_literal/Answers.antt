use Rattle.std.proofs.Common.{rules, sym}
use Rattle.std.proofs.lemmas.Int.{to_z-of_z}
use Rattle.std.specs.Int.{w128}
use Rattle.packed_json.proofs.ListLaws.{literal_put}
use Rattle.packed_json.proofs.writing.write_literal.Goals as goal

pub returns-in-Some : goal.returns-in-Some
returns-in-Some c =
    let value = rw (to_z-of_z w128 c.args.number (search rules)) at c.in-Some.ensures.value in
    literal_put c.put.result c.args.named.now c.args.number c.octets.result.now c.args.out.now c.put.new.out (rw c.octets.ensures (sym value)) c.put.ensures
