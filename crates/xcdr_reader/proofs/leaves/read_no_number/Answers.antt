use Rattle.type_trees.specs.Bridge.{type_shape}
use Rattle.xcdr_reader.proofs.LeafSteps.{no_number}
use Rattle.xcdr_reader.specs.Modes.{most}
use Rattle.xcdr_reader.proofs.leaves.read_no_number.Goals as goal

pub returns : goal.returns
returns g c = rw c.short.ensures (no_number (most c.args.mode) (type_shape c.args.ty.now) c.place.result (g.C.Cursor.state c.args.cursor.now) (g.met.C.Cursor.stands c.args.cursor.now) c.place.ensures c.requires)
