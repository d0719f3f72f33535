use Rattle.std.proofs.Common.{refl, map}
use Rattle.type_trees.specs.Bridge.{literal_shape}
use Rattle.xt_shapes.specs.Shape.{enumeration}
use Rattle.xcdr_reader.proofs.LeafSteps.{disc_enum}
use Rattle.xcdr_reader.specs.Modes.{most}
use Rattle.xcdr_reader.proofs.leaves.read_enum_number.Goals as goal

pub returns : goal.returns
returns g c = let k = c.args.kind.now in disc_enum (most c.args.mode) (enumeration k.ext k.bits (map literal_shape k.literals)) k.ext k.bits (map literal_shape k.literals) refl (rw c.most.ensures.most at c.read_enum.ensures)
