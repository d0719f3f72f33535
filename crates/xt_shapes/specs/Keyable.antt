-- Which types a key member may have (DDS-XTypes 1.3, 7.2.2.4.4; the list of keyable types is this profile's own).
use Rattle.std.specs.Prelude.{Bool, true, false, not, ◌&&◌, ◌||◌}
use Rattle.xt_shapes.specs.Lists.{has}
use Rattle.xt_shapes.specs.Shape.{Head, Shape, prim, str, enumeration, bitmask, sequence, array, map_of, structure, union, Members, no_members, member, heads}

-- The counted members of a structure are its key members, or all its members where none is a key.
abbrev pub any_key : Members → Bool
any_key ms = has (λ h. h.key) (heads ms)

abbrev pub counted : Bool → Head → Bool
counted keyed h = not keyed || h.key

abbrev pub is_leaf : Shape → Bool
is_leaf (prim p) = true
is_leaf (str bound) = true
is_leaf (enumeration ext bits literals) = true
is_leaf (bitmask bits flags) = true
is_leaf _ = false

abbrev mutual
  pub keyable : Shape → Bool
  keyable (prim p) = true
  keyable (str bound) = true
  keyable (enumeration ext bits literals) = true
  keyable (bitmask bits flags) = true
  keyable (sequence bound tc t) = is_leaf t
  keyable (array dims tc t) = is_leaf t
  keyable (map_of bound kc k vc v) = false
  keyable (structure ext ms) = counted_keyable (any_key ms) ms
  keyable (union ext key disc cs) = false

  -- counted members are keyable and not optional
  pub counted_keyable : Bool → Members → Bool
  counted_keyable keyed no_members = true
  counted_keyable keyed (member h t ms) = (not (counted keyed h) || (not h.optional && keyable t)) && counted_keyable keyed ms
