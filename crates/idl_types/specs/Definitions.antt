-- Types as their definitions have them, over the types that were declared before (OMG IDL 4.2, 7.4.1; that a base's members come first is
-- DDS-XTypes 1.3, 7.2.2.4.4).
use Rattle.std.specs.Prelude.{ℕ, Bool, true, false, ◌&&◌, List, [], ◌∷◌, ◌++◌, length, map, min, Option, Some, None}
use Rattle.xt_shapes.specs.declared.leaves.Ext.{Ext}
use Rattle.xt_shapes.specs.Kinds.{same_ext}
use Rattle.type_trees.specs.declared.types.Base.{Base}
use Rattle.type_trees.specs.Trees.{MemberHead, CaseHead, StructHead, Tree, enumeration, bitmask, structure, union, alias, Members, no_members, member}
use Rattle.type_trees.specs.View.{members_of, cases_of}
use Rattle.idl_tokens.specs.Classes.{Text}
use Rattle.idl_types.specs.State.{Declared}
use Rattle.idl_types.specs.Uses.{tree_at, whole}
use Rattle.idl_types.specs.declared.declarations.UsedMember.{UsedMember}
use Rattle.idl_types.specs.declared.declarations.UsedCase.{UsedCase}
use Rattle.idl_types.specs.declared.declarations.Definition.{Definition}
use Rattle.idl_types.specs.declared.declarations.Definition.TheVariants as definition_of
use Rattle.idl_types.specs.declared.declarations.Declaration.{Declaration}

abbrev pub ListedMembers : Type 0
ListedMembers = List (MemberHead × Tree)

abbrev pub member_head : UsedMember → MemberHead
member_head m = record { id = m.id; name = m.name; tc = m.tc; optional = m.optional; must_understand = m.must_understand; key = m.key }

abbrev pub case_head : UsedCase → CaseHead
case_head c = record { id = c.id; name = c.name; tc = c.tc; labels = c.labels; is_default = c.is_default }

abbrev pub member_whole : Declared → UsedMember → MemberHead × Tree
member_whole ts m = (member_head m, whole ts m.used)

abbrev pub case_whole : Declared → UsedCase → CaseHead × Tree
case_whole ts c = (case_head c, whole ts c.used)

-- ---- bases

abbrev pub listed : Members → ListedMembers
listed no_members = []
listed (member head t ms) = (head, t) ∷ listed ms

-- A declared type has at most 65,536 nodes, so the count is that of all its members.
abbrev pub count_of : ListedMembers → ℕ
count_of ms = min (length ms) 4294967295

abbrev pub as_base : StructHead → ListedMembers → Base
as_base head ms = record { name = head.name; nested = head.nested; hashed_ids = head.hashed_ids; count = count_of ms }

-- what a structure has of a type that is its base
abbrev pub members_on : Tree → ListedMembers
members_on (structure head ms) = listed ms
members_on _ = []

abbrev pub bases_on : Tree → List Base
bases_on (structure head ms) = head.bases ++ as_base head (listed ms) ∷ []
bases_on _ = []

abbrev pub members_before : Declared → Option ℕ → ListedMembers
members_before ts None = []
members_before ts (Some at) = members_on (tree_at ts at)

abbrev pub bases_before : Declared → Option ℕ → List Base
bases_before ts None = []
bases_before ts (Some at) = bases_on (tree_at ts at)

-- ---- definitions

-- the type of this name
abbrev pub defined : Declared → Text → Definition → Tree
defined ts name (definition_of.Enum e) = enumeration e.name e.ext e.bits e.literals
defined ts name (definition_of.Mask m) = bitmask m.name m.bits m.flags
defined ts name (definition_of.Struct s) =
    structure (record { name = Some name; ext = s.ext; nested = s.nested; hashed_ids = s.hashed_ids; bases = bases_before ts s.base }) (members_of (members_before ts s.base ++ map (member_whole ts) s.members))
defined ts name (definition_of.Union u) =
    union (record { name = Some name; ext = u.ext; nested = u.nested; hashed_ids = u.hashed_ids; disc_key = u.disc_key }) (whole ts u.disc) (cases_of (map (case_whole ts) u.cases))
defined ts name (definition_of.Alias used) = alias (Some name) (whole ts used)

-- the types of declarations, each over those before it
abbrev pub declared_from : Declared → List Declaration → Declared
declared_from ts [] = ts
declared_from ts (d ∷ ds) = declared_from (ts ++ (d.name, defined ts d.name d.definition) ∷ []) ds

abbrev pub declared : List Declaration → Declared
declared ds = declared_from [] ds

-- ---- V17: what a structure names as its base is a structure of the same extensibility

abbrev pub is_structure_of : Ext → Tree → Bool
is_structure_of ext (structure head ms) = same_ext ext head.ext
is_structure_of ext _ = false

abbrev pub base_fits : Declared → Ext → Option ℕ → Bool
base_fits ts ext None = true
base_fits ts ext (Some at) = is_structure_of ext (tree_at ts at)

abbrev pub fits : Declared → Definition → Bool
fits ts (definition_of.Struct s) = base_fits ts s.ext s.base
fits ts _ = true

-- each definition, over those before it
abbrev pub all_fit_from : Declared → List Declaration → Bool
all_fit_from ts [] = true
all_fit_from ts (d ∷ ds) = fits ts d.definition && all_fit_from (ts ++ (d.name, defined ts d.name d.definition) ∷ []) ds

abbrev pub all_fit : List Declaration → Bool
all_fit ds = all_fit_from [] ds
