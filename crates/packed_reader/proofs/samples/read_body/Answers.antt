use Rattle.std.proofs.Common.{sym, ◌∙◌}
use Rattle.type_trees.specs.Bridge.{type_shape}
use Rattle.packed_reader.specs.View.{packed_val}
use Rattle.packed_reader.proofs.SampleSteps.{own_two, own_one, tail_one}
use Rattle.packed_reader.proofs.samples.read_body.Goals as goal

pub returns-in_ok-value-in-Xcdr2 : goal.returns-in_ok-value-in-Xcdr2
returns-in_ok-value-in-Xcdr2 c = rw c.in-Xcdr2.is (own_two c.args.order (type_shape c.args.ty.now) c.args.body.now (packed_val c.in_ok-value-in-Xcdr2.value) c.in_ok-value-in-Xcdr2.ensures)

pub returns-then-is_open : goal.returns-then-is_open
returns-then-is_open c = rw c.in-Xcdr1.is (tail_one c.args.order (type_shape c.args.ty.now) c.args.body.now (packed_val c.in_ok-value-in-Xcdr1.value) c.in_ok-value-in-Xcdr1.ensures)

pub returns-in_ok-value-in-Xcdr1-2 : goal.returns-in_ok-value-in-Xcdr1-2
returns-in_ok-value-in-Xcdr1-2 c = rw c.in-Xcdr1.is (own_one c.args.order (type_shape c.args.ty.now) c.args.body.now (packed_val c.in_ok-value-in-Xcdr1-2.value) (sym c.is_open.ensures ∙ c.if-is_open.false) c.in_ok-value-in-Xcdr1-2.ensures)
