-- The octets of a key by its parts (DDS-XTypes 1.3, 7.6.8).
use Rattle.std.specs.Prelude.{ℕ, List, Bool, true, map}
use Rattle.xt_shapes.specs.declared.leaves.Ext.TheVariants.{Final}
use Rattle.xt_shapes.specs.declared.leaves.Order.{Order}
use Rattle.xt_shapes.specs.Shape.{Shape, structure, Members}
use Rattle.xt_shapes.specs.Typing.{have_types}
use Rattle.xt_shapes.specs.Vals.{Val, struct_of, Slots, slots_in}
use Rattle.xcdr_model.specs.FixedSpelling.{Fixed, fixed}
use Rattle.xcdr_model.specs.KeyOctets.{members_from, key_type, key_types, key_shape}
use Rattle.xcdr_model.specs.Keys.{all_present, key_part, key_parts, key}

-- parts one after another, with their types
abbrev pub chained : Order → List (ℕ × Shape) → List (ℕ × Val) → Fixed
chained o xs ys = fixed o (structure Final (members_from xs)) (struct_of (all_present (map (λ y. y.1) ys)))

-- the counted members of a structure
abbrev pub counted_fixed : Order → Bool → Members → Slots → Fixed
counted_fixed o keyed ms ss = chained o (key_types keyed ms) (key_parts keyed ms ss)

abbrev pub part_fixed : Order → Shape → Val → Fixed
part_fixed o t v = fixed o (key_type t) (key_part t v)

-- a top value's key
abbrev pub top_fixed : Order → Shape → Val → Fixed
top_fixed o t v = fixed o (key_shape t) (struct_of (all_present (key t v)))

-- whether a structure's slots have the types of its members
abbrev pub is_filled : Shape → Val → Bool
is_filled (structure e ms) v = have_types ms (slots_in v)
is_filled _ v = true
