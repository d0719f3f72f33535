use Rattle.std.proofs.Common.{map, sym, ◌∙◌, rules}
use Rattle.std.specs.Int.{w128}
use Rattle.std.proofs.lemmas.Int.{to_z-of_z}
use Rattle.type_trees.specs.Bridge.{literal_shape}
use Rattle.packed_reader.specs.Spots.{spot_of}
use Rattle.packed_reader.proofs.LeafSteps.{enum_number_is}
use Rattle.packed_reader.proofs.leaves.enum_number.Goals as goal

pub returns : goal.returns
returns c =
    let kind = c.args.kind.now in
    let ls = map literal_shape kind.literals in
    let d = c.enum_value-value.result in
    let read = rw c.enum_size-size.ensures.size at c.in_ok-number.ensures.value in
    let is = rw c.enum_size-size.ensures.size at c.enum_value-value.ensures in
    let known = rw (to_z-of_z w128 d (search rules), c.as_slice.ensures) at c.is_literal.ensures in
    rw (to_z-of_z w128 d (search rules)) (enum_number_is c.args.rep c.args.order kind.ext kind.bits ls c.in_ok-number.number d (spot_of c.args.ahead) (spot_of c.in_ok-number.behind) read is (sym known ∙ c.if-not-is_literal.false))
