use Rattle.std.proofs.Common.{◌-◌}
use Rattle.type_trees.specs.Bridge.{type_shape, members_shape}
use Rattle.xt_shapes.specs.Defaults.{default_of}
use Rattle.try_construct.specs.Items.{items_of, items_then}
use Rattle.try_construct.specs.Entries.{entries_of}
use Rattle.try_construct.specs.Members.{slots_of}
use Rattle.xt_wire.proofs.OfCursor.Ahead.{Ahead}
use Rattle.xcdr_reader.specs.Insides.{members_read}
use Rattle.xcdr_reader.specs.Members.{Pieces, Holds, pieces_then, mutable_read}
use Rattle.xcdr_reader.specs.Parts.{items_read, entries_read}
use Rattle.xcdr_reader.proofs.DecodeSteps.{parts_from, value_at, entries_from, members_from}
use Rattle.xcdr_reader.proofs.decode.+decode.Given as goal

-- What is left to read is the items from here on, behind those that were gathered.
abbrev pub invariant-read_items-loop-at : goal.invariant-read_items-loop-at
invariant-read_items-loop-at g l = Ahead (items_read l.mode l.bound l.elem.tc (type_shape l.elem.ty) l.fn.given) (parts_from (items_then l.bound l.elem.tc (default_of (type_shape l.elem.ty))) (value_at l.mode (type_shape l.elem.ty)) l.count l.at (items_of l.items)) (g.C.Cursor.state l.fn.cursor) (g.C.Cursor.state l.cursor)

abbrev pub invariant-read_entries-loop-at : goal.invariant-read_entries-loop-at
invariant-read_entries-loop-at g l = Ahead (entries_read l.mode l.kind.bound l.kind.key.tc (type_shape l.kind.key.ty) l.kind.value.tc (type_shape l.kind.value.ty)) (entries_from l.mode l.kind.bound l.kind.key.tc (type_shape l.kind.key.ty) l.kind.value.tc (type_shape l.kind.value.ty) l.count l.at (entries_of l.entries)) (g.C.Cursor.state l.fn.cursor) (g.C.Cursor.state l.cursor)

abbrev pub invariant-read_members-loop-at : goal.invariant-read_members-loop-at
invariant-read_members-loop-at g l = Ahead (members_read l.mode l.cut (members_shape l.members)) (members_from l.mode l.cut l.members l.at (slots_of l.slots)) (g.C.Cursor.state l.fn.cursor) (g.C.Cursor.state l.cursor)

-- What is left to read is the pieces from here on, behind those that came.
abbrev pub invariant-read_pieces-loop-turn : goal.invariant-read_pieces-loop-turn
invariant-read_pieces-loop-turn g l = (ps : Pieces) × Holds (members_shape l.members) l.known ps × Ahead (mutable_read l.mode (members_shape l.members)) (pieces_then l.mode (members_shape l.members) (l.turn-end - l.turn) ps) (g.C.Cursor.state l.fn.cursor) (g.C.Cursor.state l.cursor)
