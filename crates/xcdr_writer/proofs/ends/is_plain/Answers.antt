use Rattle.std.proofs.Common.{◌∙◌, ap}
use Rattle.std.specs.Option.{is_some}
use Rattle.type_trees.specs.Bridge.{type_shape}
use Rattle.xcdr_writer.proofs.SizeSteps as steps
use Rattle.xcdr_writer.proofs.ends.is_plain.Goals as goal

pub returns : goal.returns
returns c = steps.plain_is (type_shape c.args.ty.now) c.is_some.result (c.is_some.ensures ∙ ap is_some c.as_prim.ensures)
