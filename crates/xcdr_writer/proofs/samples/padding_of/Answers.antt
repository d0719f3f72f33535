use Rattle.type_trees.specs.Bridge.{type_shape}
use Rattle.type_trees.specs.View.{val}
use Rattle.xcdr_writer.proofs.SampleSteps.{padding_told}
use Rattle.xcdr_writer.proofs.samples.padding_of.Goals as goal

pub returns-clause-padding : goal.returns-clause-padding
returns-clause-padding c = padding_told c.args.rep (type_shape c.args.ty.now) (val c.args.value.now) c.end_of_value.result c.requires c.end_of_value.ensures
