use Rattle.type_trees.specs.Bridge.{type_shape}
use Rattle.type_trees.specs.View.{val}
use Rattle.xcdr_model.specs.FixedSpelling.{fixed_of}
use Rattle.xcdr_writer.proofs.Joining.{at_start, wrote, wrote_part, caused}
use Rattle.xcdr_writer.proofs.samples.write_value.Goals as goal

pub returns-clause-whole : goal.returns-clause-whole
returns-clause-whole g c = wrote c.encode.result (fixed_of c.args.rep c.args.out.now.order (type_shape c.args.ty.now) (val c.args.value.now)) _ _ (at_start _ c.requires.place c.requires.origin) c.encode.ensures

pub returns-clause-prefix : goal.returns-clause-prefix
returns-clause-prefix g c = wrote_part c.encode.result (fixed_of c.args.rep c.args.out.now.order (type_shape c.args.ty.now) (val c.args.value.now)) _ _ (at_start _ c.requires.place c.requires.origin) c.encode.ensures

pub returns-clause-cause : goal.returns-clause-cause
returns-clause-cause g c = caused c.encode.result (fixed_of c.args.rep c.args.out.now.order (type_shape c.args.ty.now) (val c.args.value.now)) _ _ (at_start _ c.requires.place c.requires.origin) c.encode.ensures
