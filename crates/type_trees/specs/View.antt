-- What the program's types and values stand for: the same trees, without the addresses of their parts (this profile's own).
use Rattle.std.specs.Prelude.{List, [], ◌∷◌, map}
use Rattle.xt_shapes.specs.declared.leaves.Try.{Try}
use Rattle.type_trees.specs.declared.types.XType.{XType, fold-XType}
use Rattle.type_trees.specs.declared.types.XType.TheOpen.{XType-F, AliasType-F, ArrayType-F, Case-F, Elem-F, MapType-F, Member-F, SeqType-F, StructType-F, UnionType-F}
use Rattle.type_trees.specs.declared.types.AliasType.{AliasType, fold-AliasType}
use Rattle.type_trees.specs.declared.types.ArrayType.{ArrayType, fold-ArrayType}
use Rattle.type_trees.specs.declared.types.Case.{Case, fold-Case}
use Rattle.type_trees.specs.declared.types.Elem.{Elem, fold-Elem}
use Rattle.type_trees.specs.declared.types.MapType.{MapType, fold-MapType}
use Rattle.type_trees.specs.declared.types.Member.{Member, fold-Member}
use Rattle.type_trees.specs.declared.types.SeqType.{SeqType, fold-SeqType}
use Rattle.type_trees.specs.declared.types.StructType.{StructType, fold-StructType}
use Rattle.type_trees.specs.declared.types.UnionType.{UnionType, fold-UnionType}
use Rattle.type_trees.specs.declared.values.Slot.{Slot, fold-Slot}
use Rattle.type_trees.specs.declared.values.Slot.TheOpen.{Slot-F, Value-F, Pair-F, UnionValue-F}
use Rattle.type_trees.specs.declared.values.Value.{Value, fold-Value}
use Rattle.type_trees.specs.declared.values.Pair.{Pair, fold-Pair}
use Rattle.type_trees.specs.declared.values.UnionValue.{UnionValue, fold-UnionValue}
use Rattle.type_trees.specs.Trees.{MemberHead, CaseHead, Tree, prim, str, enumeration, bitmask, sequence, array, map_of, structure, union, alias, Members, no_members, member, Cases, no_cases, one_case}
use Rattle.xt_shapes.specs.Vals.{Val, int, text, listed, mapped, struct_of, union_of, Slot as Body, absent, present, Vals, Pairs, Slots, vals_of, pairs_of, slots_of}

abbrev pub members_of : List (MemberHead × Tree) → Members
members_of [] = no_members
members_of (m ∷ ms) = member m.0 m.1 (members_of ms)

abbrev pub cases_of : List (CaseHead × Tree) → Cases
cases_of [] = no_cases
cases_of (c ∷ cs) = one_case c.0 c.1 (cases_of cs)

-- One level of a type, where each type inside stands as its tree.
module _ (F : Type 0 → Type 0 → Type 0 → Type 0 → Type 0 → Type 0 → Type 0 → Type 0 → Type 0 → Type 0 → Type 0) where
  abbrev pub Level : Type 0
  Level = F Tree Tree Tree (CaseHead × Tree) (Try × Tree) Tree (MemberHead × Tree) Tree Tree Tree

abbrev pub type_level : Level XType-F → Tree
type_level (XType-F.Prim p) = prim p
type_level (XType-F.Str bound) = str bound
type_level (XType-F.Enum e) = enumeration e.value.name e.value.ext e.value.bits e.value.literals
type_level (XType-F.Mask m) = bitmask m.value.name m.value.bits m.value.flags
type_level (XType-F.Seq s) = s.value
type_level (XType-F.Array a) = a.value
type_level (XType-F.Map m) = m.value
type_level (XType-F.Struct s) = s.value
type_level (XType-F.Union u) = u.value
type_level (XType-F.Alias a) = a.value

abbrev pub alias_level : Level AliasType-F → Tree
alias_level a = alias a.name a.ty

abbrev pub array_level : Level ArrayType-F → Tree
array_level a = array a.dims a.elem.0 a.elem.1

abbrev pub case_level : Level Case-F → CaseHead × Tree
case_level c = (record { id = c.id; name = c.name; tc = c.tc; labels = c.labels; is_default = c.is_default }, c.ty)

abbrev pub elem_level : Level Elem-F → Try × Tree
elem_level e = (e.tc, e.ty)

abbrev pub map_level : Level MapType-F → Tree
map_level m = map_of m.bound m.key.0 m.key.1 m.value.0 m.value.1

abbrev pub member_level : Level Member-F → MemberHead × Tree
member_level m = (record { id = m.id; name = m.name; tc = m.tc; optional = m.optional; must_understand = m.must_understand; key = m.key }, m.ty)

abbrev pub sequence_level : Level SeqType-F → Tree
sequence_level s = sequence s.bound s.elem.0 s.elem.1

abbrev pub struct_level : Level StructType-F → Tree
struct_level s = structure (record { name = s.name; ext = s.ext; nested = s.nested; hashed_ids = s.hashed_ids; bases = s.bases }) (members_of s.members)

abbrev pub union_level : Level UnionType-F → Tree
union_level u = union (record { name = u.name; ext = u.ext; nested = u.nested; hashed_ids = u.hashed_ids; disc_key = u.disc_key }) u.disc (cases_of u.cases)

-- the tree of a type
abbrev pub tree : XType → Tree
tree = fold-XType _ _ _ _ _ _ _ _ _ _ type_level alias_level array_level case_level elem_level map_level member_level sequence_level struct_level union_level

abbrev pub alias_tree : AliasType → Tree
alias_tree = fold-AliasType _ _ _ _ _ _ _ _ _ _ type_level alias_level array_level case_level elem_level map_level member_level sequence_level struct_level union_level

abbrev pub array_tree : ArrayType → Tree
array_tree = fold-ArrayType _ _ _ _ _ _ _ _ _ _ type_level alias_level array_level case_level elem_level map_level member_level sequence_level struct_level union_level

abbrev pub case_tree : Case → CaseHead × Tree
case_tree = fold-Case _ _ _ _ _ _ _ _ _ _ type_level alias_level array_level case_level elem_level map_level member_level sequence_level struct_level union_level

abbrev pub elem_tree : Elem → Try × Tree
elem_tree = fold-Elem _ _ _ _ _ _ _ _ _ _ type_level alias_level array_level case_level elem_level map_level member_level sequence_level struct_level union_level

abbrev pub map_tree : MapType → Tree
map_tree = fold-MapType _ _ _ _ _ _ _ _ _ _ type_level alias_level array_level case_level elem_level map_level member_level sequence_level struct_level union_level

abbrev pub member_tree : Member → MemberHead × Tree
member_tree = fold-Member _ _ _ _ _ _ _ _ _ _ type_level alias_level array_level case_level elem_level map_level member_level sequence_level struct_level union_level

abbrev pub sequence_tree : SeqType → Tree
sequence_tree = fold-SeqType _ _ _ _ _ _ _ _ _ _ type_level alias_level array_level case_level elem_level map_level member_level sequence_level struct_level union_level

abbrev pub struct_tree : StructType → Tree
struct_tree = fold-StructType _ _ _ _ _ _ _ _ _ _ type_level alias_level array_level case_level elem_level map_level member_level sequence_level struct_level union_level

abbrev pub union_tree : UnionType → Tree
union_tree = fold-UnionType _ _ _ _ _ _ _ _ _ _ type_level alias_level array_level case_level elem_level map_level member_level sequence_level struct_level union_level

-- the trees of several members
abbrev pub members_tree : List Member → Members
members_tree ms = members_of (map member_tree ms)

abbrev pub cases_tree : List Case → Cases
cases_tree cs = cases_of (map case_tree cs)

-- One level of a value.
module _ (F : Type 0 → Type 0 → Type 0 → Type 0 → Type 0) where
  abbrev pub ValueLevel : Type 0
  ValueLevel = F Body Val (Val × Val) Val

abbrev pub slot_level : ValueLevel Slot-F → Body
slot_level Slot-F.Absent = absent
slot_level (Slot-F.Present v) = present v

abbrev pub value_level : ValueLevel Value-F → Val
value_level (Value-F.Int n) = int n
value_level (Value-F.Str s) = text s
value_level (Value-F.List vs) = listed (vals_of vs)
value_level (Value-F.Map ps) = mapped (pairs_of ps)
value_level (Value-F.Struct ss) = struct_of (slots_of ss)
value_level (Value-F.Union u) = u.value

abbrev pub pair_level : ValueLevel Pair-F → Val × Val
pair_level p = (p.key, p.value)

abbrev pub union_value_level : ValueLevel UnionValue-F → Val
union_value_level u = union_of u.disc u.body

-- the tree of a value
abbrev pub val : Value → Val
val = fold-Value _ _ _ _ slot_level value_level pair_level union_value_level

abbrev pub body_val : Slot → Body
body_val = fold-Slot _ _ _ _ slot_level value_level pair_level union_value_level

abbrev pub pair_val : Pair → Val × Val
pair_val = fold-Pair _ _ _ _ slot_level value_level pair_level union_value_level

abbrev pub union_val : UnionValue → Val
union_val = fold-UnionValue _ _ _ _ slot_level value_level pair_level union_value_level

abbrev pub vals : List Value → Vals
vals vs = vals_of (map val vs)

abbrev pub pairs_val : List Pair → Pairs
pairs_val ps = pairs_of (map pair_val ps)

abbrev pub slots_val : List Slot → Slots
slots_val ss = slots_of (map body_val ss)
