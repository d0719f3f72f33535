-- Slots as options (this profile's own).
use Rattle.std.specs.Prelude.{Option, Some, None}
use Rattle.xt_shapes.specs.Vals.{Val, Slot, absent, present}

abbrev pub slot_of : Option Val → Slot
slot_of None = absent
slot_of (Some v) = present v
