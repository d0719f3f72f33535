-- What the laws ask of a type (this profile's own). All of it holds of a valid type: each part has its own recursion, so that a law names
-- what it needs.
use Rattle.std.specs.Prelude.{◌^◌, ◌-◌, Bool, true, false, not, nat_lt, ◌&&◌}
use Rattle.xt_shapes.specs.Defaults.{default_of}
use Rattle.xt_shapes.specs.Keyable.{counted_keyable}
use Rattle.xt_shapes.specs.Kinds.{is_number}
use Rattle.xt_shapes.specs.Lists.{all}
use Rattle.xt_shapes.specs.NodeRules.{is_light, keys_discard}
use Rattle.xt_shapes.specs.Select.{has_member}
use Rattle.xt_shapes.specs.Shape.{Shape, prim, str, enumeration, bitmask, sequence, array, map_of, structure, union, Members, no_members, member, Cases, no_cases, one_case, product, heads}
use Rattle.xt_shapes.specs.Sizes.{enum_size}
use Rattle.xt_shapes.specs.Typing.{has_type, in_range}
use Rattle.xcdr_model.specs.Projection.{is_mutable}
use Rattle.std.specs.Prelude.{ℕ, nat_le, ◌==◌, ◌||◌}

abbrev pub some_member : Members → Bool
some_member no_members = false
some_member (member h t ms) = true

abbrev pub distinct_members : Members → Bool
distinct_members no_members = true
distinct_members (member h t ms) = not (has_member ms h.id) && distinct_members ms

-- distinct ids, parts, and no empty array
abbrev mutual
  pub sound : Shape → Bool
  sound (prim p) = true
  sound (str bound) = true
  sound (enumeration e bits ls) = true
  sound (bitmask bits fs) = true
  sound (sequence bound tc t) = sound t
  sound (array dims tc t) = nat_lt 0 (product dims) && sound t
  sound (map_of bound kc k vc t) = sound k && sound t
  sound (structure e ms) = some_member ms && (distinct_members ms && sound_members ms)
  sound (union e key disc cs) = not (is_mutable e) && (sound disc && sound_cases cs)

  pub sound_members : Members → Bool
  sound_members no_members = true
  sound_members (member h t ms) = sound t && sound_members ms

  pub sound_cases : Cases → Bool
  sound_cases no_cases = true
  sound_cases (one_case h t cs) = sound t && sound_cases cs

-- ids below the reserved last one, literals within their holder, and masks of at most 64 bits
abbrev mutual
  pub storable : Shape → Bool
  storable (prim p) = true
  storable (str bound) = true
  storable (enumeration e bits ls) = all (λ l. in_range (enum_size bits) (enum_size bits == 4) l.value) ls
  storable (bitmask bits fs) = nat_le bits 64
  storable (sequence bound tc t) = storable t
  storable (array dims tc t) = storable t
  storable (map_of bound kc k vc t) = storable k && storable t
  storable (structure e ms) = members_storable ms
  storable (union e key disc cs) = (is_number disc && storable disc) && cases_storable cs

  pub members_storable : Members → Bool
  members_storable no_members = true
  members_storable (member h t ms) = nat_lt h.id (2 ^ 28 - 1) && (storable t && members_storable ms)

  pub cases_storable : Cases → Bool
  cases_storable no_cases = true
  cases_storable (one_case h t cs) = storable t && cases_storable cs

-- case ids are distinct, in each union of the type
abbrev pub has_case : Cases → ℕ → Bool
has_case no_cases id = false
has_case (one_case h t cs) id = (h.id == id) || has_case cs id

abbrev mutual
  pub cases_apart : Shape → Bool
  cases_apart (prim p) = true
  cases_apart (str bound) = true
  cases_apart (enumeration e bits ls) = true
  cases_apart (bitmask bits fs) = true
  cases_apart (sequence bound tc t) = cases_apart t
  cases_apart (array dims tc t) = cases_apart t
  cases_apart (map_of bound kc k vc t) = cases_apart k && cases_apart t
  cases_apart (structure e ms) = in_members_apart ms
  cases_apart (union e key disc cs) = cases_apart disc && in_cases_apart cs

  pub in_members_apart : Members → Bool
  in_members_apart no_members = true
  in_members_apart (member h t ms) = cases_apart t && in_members_apart ms

  pub in_cases_apart : Cases → Bool
  in_cases_apart no_cases = true
  in_cases_apart (one_case h t cs) = not (has_case cs h.id) && (cases_apart t && in_cases_apart cs)

-- what is in a collection has a weight of at most 128
abbrev mutual
  pub light : Shape → Bool
  light (prim p) = true
  light (str bound) = true
  light (enumeration e bits ls) = true
  light (bitmask bits fs) = true
  light (sequence bound tc t) = is_light t && light t
  light (array dims tc t) = is_light t && light t
  light (map_of bound kc k vc t) = (is_light k && light k) && (is_light t && light t)
  light (structure e ms) = light_members ms
  light (union e key disc cs) = light disc && light_cases cs

  pub light_members : Members → Bool
  light_members no_members = true
  light_members (member h t ms) = light t && light_members ms

  pub light_cases : Cases → Bool
  light_cases no_cases = true
  light_cases (one_case h t cs) = light t && light_cases cs

-- each default that a reader may fill in has its type
abbrev pub own_default : Shape → Bool
own_default t = has_type t (default_of t)

abbrev mutual
  pub defaults_typed : Shape → Bool
  defaults_typed (prim p) = true
  defaults_typed (str bound) = true
  defaults_typed (enumeration e bits ls) = true
  defaults_typed (bitmask bits fs) = true
  defaults_typed (sequence bound tc t) = own_default t && defaults_typed t
  defaults_typed (array dims tc t) = own_default t && defaults_typed t
  defaults_typed (map_of bound kc k vc t) = (own_default k && defaults_typed k) && (own_default t && defaults_typed t)
  defaults_typed (structure e ms) = member_defaults ms
  defaults_typed (union e key disc cs) = case_defaults cs

  pub member_defaults : Members → Bool
  member_defaults no_members = true
  member_defaults (member h t ms) = (own_default t && defaults_typed t) && member_defaults ms

  pub case_defaults : Cases → Bool
  case_defaults no_cases = true
  case_defaults (one_case h t cs) = (own_default t && defaults_typed t) && case_defaults cs

-- ---- the key members of a top type are keyable, not optional, and set to Discard

abbrev pub keys_sound : Shape → Bool
keys_sound (structure e ms) = counted_keyable true ms && keys_discard (heads ms)
keys_sound _ = true

-- ---- all that the laws ask of a type; each part holds of a valid type

abbrev pub premises_hold : Shape → Bool
premises_hold t = sound t && (storable t && (cases_apart t && (light t && (defaults_typed t && keys_sound t))))
