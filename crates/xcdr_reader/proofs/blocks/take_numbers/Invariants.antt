use Rattle.std.proofs.Common.{◌≡◌, ◌-◌, ◌*◌, length}
use Rattle.xt_shapes.specs.Defaults.{default_of}
use Rattle.xt_shapes.specs.Sizes.{size}
use Rattle.type_trees.specs.Bridge.{type_shape}
use Rattle.try_construct.specs.Items.{items_of}
use Rattle.xcdr_reader.specs.Blocks.{and_numbers}
use Rattle.xcdr_reader.proofs.blocks.take_numbers.Given as goal

-- the numbers that are left make of these items what all make of the first
abbrev pub invariant-loop-turn : goal.invariant-loop-turn
invariant-loop-turn l = record {
  left : length l.rest ≡ (l.many - l.turn) * size l.prim;
  same : and_numbers l.bound l.elem.tc (default_of (type_shape l.elem.ty)) l.order l.prim (l.many - l.turn) (items_of l.items) l.rest ≡ and_numbers l.bound l.elem.tc (default_of (type_shape l.elem.ty)) l.order l.prim l.many (items_of l.fn.items) l.octets;
}
