use Rattle.std.proofs.Common.{refl}
use Rattle.type_trees.specs.Bridge.{type_shape}
use Rattle.tool_samples.proofs.SampleSays.{taken_as}
use Rattle.tool_samples.proofs.payloads.taken.Goals as goal

pub returns : goal.returns
returns c = taken_as c.args.rep (type_shape c.args.ty.now) c.args.sample.now c.read_guided.result c.new-cursor.ensures refl c.read_guided.ensures.value
