-- Values in slots, by index (this profile's own).
use Rattle.std.specs.Prelude.{ℕ, zero, suc, Option, Some, None}
use Rattle.xt_shapes.specs.Vals.{Val, Slots, no_slots, one_slot, Slot, absent, present}

-- a slot with that value, or without one
abbrev pub slot_with : Option Val → Slot
slot_with None = absent
slot_with (Some v) = present v

-- the slot with that index; past the last one nothing is there
abbrev pub slot_at : Slots → ℕ → Slot
slot_at no_slots i = absent
slot_at (one_slot s ss) zero = s
slot_at (one_slot s ss) (suc i) = slot_at ss i
