-- The JSON of a value with raw bits for the numbers that stand for floats (this profile's own).
use Rattle.std.specs.Prelude.{ℕ, List, ◌==◌, Option, Some, None, bytes_eq, if◌then◌else◌}
use Rattle.json.specs.Json as json
use Rattle.json.specs.Json.{Json}
use Rattle.type_trees.specs.Trees.{Tree, prim, str, enumeration, bitmask, sequence, array, map_of, structure, union, alias, Members, no_members, member, Cases, no_cases, one_case}
use Rattle.json_values.specs.Names.{name_text}
use Rattle.json_values.specs.Written.{value_key}
use Rattle.dynamic_data.specs.numbers.Floats.{leaf_bits}
use Rattle.dynamic_data.specs.numbers.Walks.{case_in}

abbrev pub each_item : (Json → Json) → json.Items → json.Items
each_item f json.no_items = json.no_items
each_item f (json.item j js) = json.item (f j) (each_item f js)

abbrev pub in_array : (Json → Json) → Json → Json
in_array f (json.array js) = json.array (each_item f js)
in_array f j = j

abbrev pub in_pair : (Json → Json) → (Json → Json) → Json → Json
in_pair f g (json.array (json.item a (json.item b json.no_items))) = json.array (json.item (f a) (json.item (g b) json.no_items))
in_pair f g j = j

abbrev pub each_member : (List ℕ → Json → Json) → json.Members → json.Members
each_member f json.no_members = json.no_members
each_member f (json.member key j ms) = json.member key (f key j) (each_member f ms)

abbrev pub in_object : (List ℕ → Json → Json) → Json → Json
in_object f (json.object ms) = json.object (each_member f ms)
in_object f j = j

abbrev pub in_body : (Json → Json) → List ℕ → Json → Json
in_body f key j = if bytes_eq key value_key then f j else j

-- a body of the case that is selected
abbrev pub selected_bits : (ℕ → Json → Json) → Option ℕ → Json → Json
selected_bits f None j = j
selected_bits f (Some id) j = f id j

-- A number to which no finite float is the nearest becomes `too_large`.
abbrev mutual
  pub bits : (too_large : Json) → Tree → Json → Json
  bits too_large (prim p) j = leaf_bits too_large p j
  bits too_large (str bound) j = j
  bits too_large (enumeration name ext width literals) j = j
  bits too_large (bitmask name width flags) j = j
  bits too_large (sequence bound tc t) j = in_array (bits too_large t) j
  bits too_large (array dims tc t) j = in_array (bits too_large t) j
  bits too_large (map_of bound kc key vc value) j = in_array (in_pair (bits too_large key) (bits too_large value)) j
  bits too_large (structure head ms) j = in_object (member_bits too_large ms) j
  bits too_large (union head disc cs) j = in_object (in_body (selected_bits (case_bits too_large cs) (case_in disc cs j))) j
  bits too_large (alias name t) j = bits too_large t j

  -- what stands at a key, by the first member with that name
  pub member_bits : (too_large : Json) → Members → List ℕ → Json → Json
  member_bits too_large no_members key j = j
  member_bits too_large (member head t ms) key j = if bytes_eq (name_text head.name) key then bits too_large t j else member_bits too_large ms key j

  -- a body of the case with that id
  pub case_bits : (too_large : Json) → Cases → ℕ → Json → Json
  case_bits too_large no_cases id j = j
  case_bits too_large (one_case head t cs) id j = if head.id == id then bits too_large t j else case_bits too_large cs id j
