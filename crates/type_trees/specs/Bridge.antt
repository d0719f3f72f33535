-- The shape of a type: its aliases are resolved, its names hashed, and the names of types dropped (DDS-XTypes 1.3, 7.3.4; that
-- aliases are resolved is this profile's own).
use Rattle.std.specs.Prelude.{ℕ, List, map}
use Rattle.type_trees.specs.declared.types.Name.{Name}
use Rattle.type_trees.specs.declared.types.Literal as named
use Rattle.type_trees.specs.declared.types.Flag as flagged
use Rattle.type_trees.specs.declared.types.Member as declared_member
use Rattle.type_trees.specs.declared.types.Case as declared_case
use Rattle.type_trees.specs.declared.types.XType.{XType}
use Rattle.type_trees.specs.Hash.{name_hash, little_endian}
use Rattle.type_trees.specs.View.{tree, members_tree, cases_tree}
use Rattle.type_trees.specs.Trees as trees
use Rattle.xt_shapes.specs.Shape.{Literal, Flag, Head, CaseHead, Shape, prim, str, enumeration, bitmask, sequence, array, map_of, structure, union, Members, no_members, member, Cases, no_cases, one_case}

-- a name's hash as a number, its octets read from the lowest
unfoldable pub name_number : Name → ℕ
name_number (Name.Full text) = little_endian (name_hash text)
name_number (Name.Hashed hash) = hash

abbrev pub literal_shape : named.Literal → Literal
literal_shape l = record { hash = name_number l.name; value = l.value; is_default = l.is_default }

abbrev pub flag_shape : flagged.Flag → Flag
flag_shape f = record { hash = name_number f.name; position = f.position }

abbrev pub head_shape : trees.MemberHead → Head
head_shape h = record { id = h.id; hash = name_number h.name; tc = h.tc; optional = h.optional; must_understand = h.must_understand; key = h.key }

abbrev pub case_shape : trees.CaseHead → CaseHead
case_shape h = record { id = h.id; hash = name_number h.name; tc = h.tc; labels = h.labels; is_default = h.is_default }

abbrev mutual
  pub shape : trees.Tree → Shape
  shape (trees.prim p) = prim p
  shape (trees.str bound) = str bound
  shape (trees.enumeration name ext bits literals) = enumeration ext bits (map literal_shape literals)
  shape (trees.bitmask name bits flags) = bitmask bits (map flag_shape flags)
  shape (trees.sequence bound tc t) = sequence bound tc (shape t)
  shape (trees.array dims tc t) = array dims tc (shape t)
  shape (trees.map_of bound kc k vc v) = map_of bound kc (shape k) vc (shape v)
  shape (trees.structure head ms) = structure head.ext (member_shapes ms)
  shape (trees.union head disc cs) = union head.ext head.disc_key (shape disc) (case_shapes cs)
  shape (trees.alias name t) = shape t

  pub member_shapes : trees.Members → Members
  member_shapes trees.no_members = no_members
  member_shapes (trees.member head t ms) = member (head_shape head) (shape t) (member_shapes ms)

  pub case_shapes : trees.Cases → Cases
  case_shapes trees.no_cases = no_cases
  case_shapes (trees.one_case head t cs) = one_case (case_shape head) (shape t) (case_shapes cs)

-- of the program's types
abbrev pub type_shape : XType → Shape
type_shape ty = shape (tree ty)

abbrev pub members_shape : List declared_member.Member → Members
members_shape ms = member_shapes (members_tree ms)

abbrev pub cases_shape : List declared_case.Case → Cases
cases_shape cs = case_shapes (cases_tree cs)

abbrev pub member_head : declared_member.Member → Head
member_head m = record { id = m.id; hash = name_number m.name; tc = m.tc; optional = m.optional; must_understand = m.must_understand; key = m.key }

abbrev pub case_head : declared_case.Case → CaseHead
case_head c = record { id = c.id; hash = name_number c.name; tc = c.tc; labels = c.labels; is_default = c.is_default }
