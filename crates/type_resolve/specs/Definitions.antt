-- The objects of types that are declared one after another, from their definitions (DDS-XTypes 1.3, 7.3.4; the order is this profile's own).
use Rattle.std.specs.Prelude.{◌≡◌, ℕ, Bool, List, [], ◌∷◌, ◌++◌, map, Option, Some, None}
use Rattle.idl_types.specs.State.{Declared}
use Rattle.idl_types.specs.Uses.{tree_at, whole}
use Rattle.idl_types.specs.Definitions.{member_head, case_head}
use Rattle.idl_types.specs.declared.declarations.UsedMember.{UsedMember}
use Rattle.idl_types.specs.declared.declarations.UsedCase.{UsedCase}
use Rattle.idl_types.specs.declared.declarations.Definition.{Definition}
use Rattle.idl_types.specs.declared.declarations.Definition.TheVariants as definition_of
use Rattle.object_formats.specs.Objects as o
use Rattle.object_formats.specs.Objects.{Identifier, MemberPart, CasePart, Object}
use Rattle.idl_tokens.specs.Classes.{Text}
use Rattle.type_resolve.specs.declared.sides.Identifiers.{Identifiers}
use Rattle.type_resolve.specs.Objects.{alias_object, enum_object, mask_object, union_object, struct_object, member_part, case_part, identifier, texts, joined}
use Rattle.type_resolve.specs.Views.{Seen, sides, hashes_seen}

-- ---- types in a list

-- the texts of all types, one type after another
abbrev pub types_texts : Declared → List (List ℕ)
types_texts [] = []
types_texts (d ∷ ds) = texts d.1 ++ types_texts ds

-- what each type is named by
abbrev pub types_sides : Declared → List Seen
types_sides ds = map (λ d. sides d.1) ds

-- these are the identifiers of the types, one for each
abbrev pub AreNamed : Declared → List Identifiers → Type 0
AreNamed ts ids = types_sides ts ≡ map hashes_seen ids

-- ---- a definition's own object

abbrev pub used_member_part : Bool → Declared → UsedMember → MemberPart
used_member_part complete ts m = member_part complete (member_head m) (identifier complete (whole ts m.used))

abbrev pub used_case_part : Bool → Declared → UsedCase → CasePart
used_case_part complete ts c = case_part complete (case_head c) (identifier complete (whole ts c.used))

-- what a structure names as its base
abbrev pub base_identifier : Bool → Declared → Option ℕ → Identifier
base_identifier complete ts None = o.none
base_identifier complete ts (Some at) = identifier complete (tree_at ts at)

-- A structure has its own members alone, and names its base.
abbrev pub own_object : Bool → Declared → Text → Definition → Object
own_object complete ts name (definition_of.Enum e) = enum_object complete e.name e.ext e.bits e.literals
own_object complete ts name (definition_of.Mask m) = mask_object complete m.name m.bits m.flags
own_object complete ts name (definition_of.Struct s) = struct_object complete (Some name) s.ext s.nested s.hashed_ids (base_identifier complete ts s.base) (map (used_member_part complete ts) s.members)
own_object complete ts name (definition_of.Union u) =
    union_object complete (record { name = Some name; ext = u.ext; nested = u.nested; hashed_ids = u.hashed_ids; disc_key = u.disc_key }) (identifier complete (whole ts u.disc)) (map (used_case_part complete ts) u.cases)
own_object complete ts name (definition_of.Alias used) = alias_object complete (Some name) (identifier complete (whole ts used))

-- ---- what a definition needs, before its own two texts

abbrev pub base_texts : Declared → Option ℕ → List (List ℕ)
base_texts ts None = []
base_texts ts (Some at) = texts (tree_at ts at)

abbrev pub needed_texts : Declared → Definition → List (List ℕ)
needed_texts ts (definition_of.Enum e) = []
needed_texts ts (definition_of.Mask m) = []
needed_texts ts (definition_of.Struct s) = base_texts ts s.base ++ joined (map (λ m. texts (whole ts m.used)) s.members)
needed_texts ts (definition_of.Union u) = texts (whole ts u.disc) ++ joined (map (λ c. texts (whole ts c.used)) u.cases)
needed_texts ts (definition_of.Alias used) = texts (whole ts used)
