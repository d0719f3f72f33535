use Rattle.std.proofs.Common.{refl, arith}
use Rattle.type_trees.specs.Bridge.{type_shape}
use Rattle.type_trees.specs.View.{val}
use Rattle.xcdr_writer.proofs.SampleSteps.{told, not_told, end_small}
use Rattle.xcdr_writer.proofs.samples.size_of_sample.Goals as goal

pub overflow_add-octets : goal.overflow_add-octets
overflow_add-octets c = let low = end_small c.args.rep (type_shape c.args.ty.now) (val c.args.value.now) c.end_of_value-end.result c.end_of_value-end.ensures in grind arith

pub overflow_add-octets-2 : goal.overflow_add-octets-2
overflow_add-octets-2 c = let low = end_small c.args.rep (type_shape c.args.ty.now) (val c.args.value.now) c.end_of_value-end.result c.end_of_value-end.ensures in grind arith

pub returns-then-octets-le1048576 : goal.returns-then-octets-le1048576
returns-then-octets-le1048576 c = told c.args.rep (type_shape c.args.ty.now) (val c.args.value.now) c.end_of_value-end.result _ c.end_of_value-end.ensures refl c.if-octets-le1048576.true

pub returns-else-octets-le1048576 : goal.returns-else-octets-le1048576
returns-else-octets-le1048576 c = not_told c.args.rep (type_shape c.args.ty.now) (val c.args.value.now) c.end_of_value-end.result _ c.end_of_value-end.ensures refl c.if-octets-le1048576.false
