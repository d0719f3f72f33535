use Rattle.std.proofs.Common.{◌≤◌, ◌-◌}
use Rattle.std.specs.Prelude.{Some}
use Rattle.xt_shapes.specs.Defaults.{default_of}
use Rattle.type_trees.specs.Bridge.{type_shape}
use Rattle.try_construct.specs.Items.{items_of}
use Rattle.xt_wire.proofs.OfCursor.Ahead.{Ahead}
use Rattle.xcdr_reader.specs.Parts.{items_read}
use Rattle.xcdr_reader.proofs.InBlocks.{numbers_then}
use Rattle.xcdr_reader.proofs.blocks.read_numbers.Given as goal

-- What is left to read is the numbers from here on, behind those that were gathered.
abbrev pub invariant-loop-at : goal.invariant-loop-at
invariant-loop-at g l = record {
  within : l.at ≤ l.count;
  ahead : Ahead (items_read l.mode l.bound l.elem.tc (type_shape l.elem.ty) (Some l.count)) (numbers_then l.mode l.bound l.elem.tc (default_of (type_shape l.elem.ty)) l.prim l.count l.at (items_of l.items)) (g.C.Cursor.state l.fn.cursor) (g.C.Cursor.state l.cursor);
}

abbrev pub decreases-loop-at : goal.decreases-loop-at
decreases-loop-at g l = l.count - l.at
