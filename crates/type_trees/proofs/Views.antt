-- The trees of types and values, level by level.
use Rattle.std.proofs.Common.{◌≡◌, ℕ, ℤ, List, rules, Box, Global}
use Rattle.xt_shapes.specs.declared.leaves.Primitive.{Primitive}
use Rattle.type_trees.specs.declared.types.EnumType.{EnumType}
use Rattle.type_trees.specs.declared.types.MaskType.{MaskType}
use Rattle.type_trees.specs.declared.types.XType as x
use Rattle.type_trees.specs.declared.types.XType.{XType, the_lemmas}
use Rattle.type_trees.specs.declared.types.AliasType.{AliasType}
use Rattle.type_trees.specs.declared.types.ArrayType.{ArrayType}
use Rattle.type_trees.specs.declared.types.Case.{Case}
use Rattle.type_trees.specs.declared.types.Elem.{Elem}
use Rattle.type_trees.specs.declared.types.MapType.{MapType}
use Rattle.type_trees.specs.declared.types.Member.{Member}
use Rattle.type_trees.specs.declared.types.SeqType.{SeqType}
use Rattle.type_trees.specs.declared.types.StructType.{StructType, out-StructType}
use Rattle.type_trees.specs.declared.types.UnionType.{UnionType, out-UnionType}
use Rattle.type_trees.specs.declared.values.Value as v
use Rattle.type_trees.specs.declared.values.Value.{Value, the_lemmas as the_value_lemmas}
use Rattle.type_trees.specs.declared.values.Slot as s
use Rattle.type_trees.specs.declared.values.Slot.{Slot}
use Rattle.type_trees.specs.declared.values.Pair.{Pair}
use Rattle.type_trees.specs.declared.values.UnionValue.{UnionValue}
use Rattle.type_trees.specs.Trees.{prim, str, enumeration, bitmask, sequence, array, map_of, structure, union, alias}
use Rattle.xt_shapes.specs.Vals.{int, text, listed, mapped, struct_of, union_of, absent, present}
use Rattle.type_trees.specs.View.{tree, alias_tree, array_tree, case_tree, elem_tree, map_tree, member_tree, sequence_tree, struct_tree, union_tree, members_tree, cases_tree, val, body_val, pair_val, union_val, vals, pairs_val, slots_val}

pub tree_prim : (p : Primitive) → tree (x.Prim p) ≡ prim p
tree_prim p = search (rules, the_lemmas)

pub tree_str : (n : ℕ) → tree (x.Str n) ≡ str n
tree_str n = search (rules, the_lemmas)

pub tree_enum : (b : Box EnumType Global) → tree (x.Enum b) ≡ enumeration b.value.name b.value.ext b.value.bits b.value.literals
tree_enum b = search (rules, the_lemmas)

pub tree_mask : (b : Box MaskType Global) → tree (x.Mask b) ≡ bitmask b.value.name b.value.bits b.value.flags
tree_mask b = search (rules, the_lemmas)

pub tree_seq : (b : Box SeqType Global) → tree (x.Seq b) ≡ sequence_tree b.value
tree_seq b = search (rules, the_lemmas)

pub tree_array : (b : Box ArrayType Global) → tree (x.Array b) ≡ array_tree b.value
tree_array b = search (rules, the_lemmas)

pub tree_map : (b : Box MapType Global) → tree (x.Map b) ≡ map_tree b.value
tree_map b = search (rules, the_lemmas)

pub tree_struct : (b : Box StructType Global) → tree (x.Struct b) ≡ struct_tree b.value
tree_struct b = search (rules, the_lemmas)

pub tree_union : (b : Box UnionType Global) → tree (x.Union b) ≡ union_tree b.value
tree_union b = search (rules, the_lemmas)

pub tree_alias : (b : Box AliasType Global) → tree (x.Alias b) ≡ alias_tree b.value
tree_alias b = search (rules, the_lemmas)

pub elem_tree_is : (e : Elem) → elem_tree e ≡ (e.tc, tree e.ty)
elem_tree_is e = search (rules, the_lemmas)

pub alias_tree_is : (a : AliasType) → alias_tree a ≡ alias a.name (tree a.ty)
alias_tree_is a = search (rules, the_lemmas)

pub sequence_tree_is : (s : SeqType) → sequence_tree s ≡ sequence s.bound s.elem.tc (tree s.elem.ty)
sequence_tree_is s = search (rules, the_lemmas)

pub array_tree_is : (a : ArrayType) → array_tree a ≡ array a.dims a.elem.tc (tree a.elem.ty)
array_tree_is a = search (rules, the_lemmas)

pub map_tree_is : (m : MapType) → map_tree m ≡ map_of m.bound m.key.tc (tree m.key.ty) m.value.tc (tree m.value.ty)
map_tree_is m = search (rules, the_lemmas)

pub member_tree_is : (m : Member) → member_tree m ≡ (record { id = m.id; name = m.name; tc = m.tc; optional = m.optional; must_understand = m.must_understand; key = m.key }, tree m.ty)
member_tree_is m = search (rules, the_lemmas)

pub case_tree_is : (c : Case) → case_tree c ≡ (record { id = c.id; name = c.name; tc = c.tc; labels = c.labels; is_default = c.is_default }, tree c.ty)
case_tree_is c = search (rules, the_lemmas)

pub struct_tree_is : (t : StructType) → let s = out-StructType t in struct_tree t ≡ structure (record { name = s.name; ext = s.ext; nested = s.nested; hashed_ids = s.hashed_ids; bases = s.bases }) (members_tree s.members)
struct_tree_is t = search (rules, the_lemmas)

pub union_tree_is : (t : UnionType) → let u = out-UnionType t in union_tree t ≡ union (record { name = u.name; ext = u.ext; nested = u.nested; hashed_ids = u.hashed_ids; disc_key = u.disc_key }) (tree u.disc) (cases_tree u.cases)
union_tree_is t = search (rules, the_lemmas)

pub val_int : (n : ℤ) → val (v.Int n) ≡ int n
val_int n = search (rules, the_value_lemmas)

pub val_str : (t : List ℕ) → val (v.Str t) ≡ text t
val_str t = search (rules, the_value_lemmas)

pub val_list : (vs : List Value) → val (v.List vs) ≡ listed (vals vs)
val_list vs = search (rules, the_value_lemmas)

pub val_map : (ps : List Pair) → val (v.Map ps) ≡ mapped (pairs_val ps)
val_map ps = search (rules, the_value_lemmas)

pub val_struct : (ss : List Slot) → val (v.Struct ss) ≡ struct_of (slots_val ss)
val_struct ss = search (rules, the_value_lemmas)

pub val_union : (b : Box UnionValue Global) → val (v.Union b) ≡ union_val b.value
val_union b = search (rules, the_value_lemmas)

pub body_val_absent : body_val s.Absent ≡ absent
body_val_absent = search (rules, the_value_lemmas)

pub body_val_present : (w : Value) → body_val (s.Present w) ≡ present (val w)
body_val_present w = search (rules, the_value_lemmas)

pub pair_val_is : (p : Pair) → pair_val p ≡ (val p.key, val p.value)
pair_val_is p = search (rules, the_value_lemmas)

pub union_val_is : (u : UnionValue) → union_val u ≡ union_of u.disc (body_val u.body)
union_val_is u = search (rules, the_value_lemmas)

pub ruleset tree_rules = (tree_prim, tree_str, tree_enum, tree_mask, tree_seq, tree_array, tree_map, tree_struct, tree_union, tree_alias, elem_tree_is, alias_tree_is, sequence_tree_is, array_tree_is, map_tree_is, member_tree_is, case_tree_is, struct_tree_is, union_tree_is)

pub ruleset val_rules = (val_int, val_str, val_list, val_map, val_struct, val_union, body_val_absent, body_val_present, pair_val_is, union_val_is)
