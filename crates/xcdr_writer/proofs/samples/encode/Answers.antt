use Rattle.type_trees.specs.Bridge.{type_shape}
use Rattle.type_trees.specs.View.{val}
use Rattle.xcdr_writer.proofs.SampleSteps.{fits_anywhere}
use Rattle.xcdr_writer.proofs.samples.encode.Goals as goal

pub returns : goal.returns
returns g c = fits_anywhere c.args.rep c.args.out.now.order (type_shape c.args.ty.now) (val c.args.value.now) c.requires c.encode_value.ensures
