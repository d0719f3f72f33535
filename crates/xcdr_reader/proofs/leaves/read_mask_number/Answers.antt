use Rattle.std.proofs.Common.{refl, map}
use Rattle.type_trees.specs.Bridge.{flag_shape}
use Rattle.xt_shapes.specs.Shape.{bitmask}
use Rattle.xcdr_reader.proofs.LeafSteps.{disc_mask}
use Rattle.xcdr_reader.specs.Modes.{most}
use Rattle.xcdr_reader.proofs.leaves.read_mask_number.Goals as goal

pub returns : goal.returns
returns g c = let k = c.args.kind.now in disc_mask (most c.args.mode) (bitmask k.bits (map flag_shape k.flags)) k.bits (map flag_shape k.flags) refl (rw c.most.ensures.most at c.read_mask.ensures)
