use Rattle.std.proofs.Common.{◌≡◌, ◌^◌, pos, true, map, rules}
use Rattle.xt_shapes.specs.Typing.{is_below}
use Rattle.type_trees.specs.Bridge.{flag_shape}
use Rattle.packed_reader.proofs.Views.{packed_natural}
use Rattle.packed_reader.specs.Spots.{spot_of}
use Rattle.packed_reader.proofs.LeafSteps.{mask_is}
use Rattle.packed_reader.proofs.leaves.read_mask.Goals as goal

pub returns : goal.returns
returns c =
    let kind = c.args.kind.now in
    let n = c.in_ok-number.number in
    let below : is_below (2 ^ kind.bits) (pos n) ≡ true = search rules in
    rw (packed_natural n) (mask_is c.args.rep c.args.order kind.bits (map flag_shape kind.flags) n (spot_of c.args.ahead) (spot_of c.in_ok-number.behind) (rw c.mask_size.ensures.size at c.in_ok-number.ensures.value) below)
