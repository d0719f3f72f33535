use Rattle.std.proofs.Common.{sym}
use Rattle.xt_shapes.specs.declared.leaves.Order.TheVariants.{Little}
use Rattle.xt_shapes.specs.Sizes.{size}
use Rattle.type_trees.specs.Bridge.{type_shape}
use Rattle.packed_reader.specs.View.{numbers_of}
use Rattle.value_writer.specs.Runs.{run_fixed}
use Rattle.xcdr_writer.specs.Parts.{most_of, items_fixed}
use Rattle.xcdr_writer.proofs.SizeSteps.{items_are}
use Rattle.packed_writer.proofs.Appending.{some_as}
use Rattle.packed_writer.proofs.writing.write_run.Goals as goal

pub returns : goal.returns
returns c =
    let r = c.args.rep in
    let shape = type_shape c.args.ty.now in
    let p = c.in-Some.prim in
    let xs = numbers_of c.args.numbers.now in
    some_as c.write_numbers.result c.args.out.now c.write_numbers.new.out (items_fixed r Little shape xs) (run_fixed (most_of r) Little (size p) xs) (items_are r Little shape p xs (sym c.in-Some.ensures)) c.write_numbers.ensures
