-- Names as they stand in JSON, and the types whose names are texts. The JSON of values is this profile's own.
use Rattle.std.specs.Prelude.{ℕ, List, [], ◌∷◌, Bool, true, ◌&&◌, bytes_eq, map, replicate}
use Rattle.std.specs.Int.{w32, to_le_bytes}
use Rattle.std.specs.Str.{is_utf8}
use Rattle.hex.specs.Hex.{encode_lower}
use Rattle.xt_shapes.specs.Lists.{has, all}
use Rattle.type_trees.specs.declared.types.Name.{Name}
use Rattle.type_trees.specs.declared.types.Name.TheVariants.{Full, Hashed}
use Rattle.type_trees.specs.declared.types.Literal.{Literal}
use Rattle.type_trees.specs.Trees.{Tree, prim, str, enumeration, bitmask, sequence, array, map_of, structure, union, alias, Members, no_members, member, Cases, no_cases, one_case}

-- a hashed name is `#` and its four octets, the lowest first, in hexadecimal
abbrev pub name_text : Name → List ℕ
name_text (Full t) = t
name_text (Hashed h) = 35 ∷ encode_lower (to_le_bytes w32 h)

-- the text of a hashed name, and zeros in place of a full one
abbrev pub digits_of : Name → List ℕ
digits_of (Full t) = replicate 9 0
digits_of (Hashed h) = name_text (Hashed h)

abbrev pub is_among : List ℕ → List (List ℕ) → Bool
is_among name names = has (λ n. bytes_eq n name) names

abbrev pub literal_names : List Literal → List (List ℕ)
literal_names literals = map (λ l. name_text l.name) literals

abbrev pub member_names : Members → List (List ℕ)
member_names no_members = []
member_names (member head t ms) = name_text head.name ∷ member_names ms

-- each name of a member or literal is a text
abbrev mutual
  pub has_text_names : Tree → Bool
  has_text_names (prim p) = true
  has_text_names (str bound) = true
  has_text_names (enumeration name ext bits literals) = all is_utf8 (literal_names literals)
  has_text_names (bitmask name bits flags) = true
  has_text_names (sequence bound tc t) = has_text_names t
  has_text_names (array dims tc t) = has_text_names t
  has_text_names (map_of bound kc k vc v) = has_text_names k && has_text_names v
  has_text_names (structure head ms) = members_have_text_names ms
  has_text_names (union head disc cs) = has_text_names disc && cases_have_text_names cs
  has_text_names (alias name t) = has_text_names t

  pub members_have_text_names : Members → Bool
  members_have_text_names no_members = true
  members_have_text_names (member head t ms) = is_utf8 (name_text head.name) && (has_text_names t && members_have_text_names ms)

  pub cases_have_text_names : Cases → Bool
  cases_have_text_names no_cases = true
  cases_have_text_names (one_case head t cs) = has_text_names t && cases_have_text_names cs
