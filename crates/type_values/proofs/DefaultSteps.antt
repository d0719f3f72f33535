-- Defaults of many members, and of the first case that has a label.
use Rattle.std.proofs.Common.{◌≡◌, refl, List, [], ◌∷◌, cond, map}
use Rattle.type_trees.specs.declared.types.Member.{Member}
use Rattle.xt_shapes.specs.Vals.{Slot, slots_of, absent, present}
use Rattle.xt_shapes.specs.Defaults.{default_of, default_slots}
use Rattle.type_trees.specs.Bridge.{type_shape, members_shape}
use Rattle.type_trees.proofs.Views.{member_tree_is}

abbrev pub slot_default : Member → Slot
slot_default m = cond m.optional absent (present (default_of (type_shape m.ty)))

pub default_slots_is : (ms : List Member) → default_slots (members_shape ms) ≡ slots_of (map slot_default ms)
default_slots_is [] = refl
default_slots_is (m ∷ ms) = rw (member_tree_is m, default_slots_is ms) refl
