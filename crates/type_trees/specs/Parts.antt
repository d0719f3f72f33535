-- The parts of the program's types, by kind, as the shape of the type has them (this profile's own).
use Rattle.std.specs.Prelude.{ℕ, List, Bool, map}
use Rattle.xt_shapes.specs.declared.leaves.Ext.{Ext}
use Rattle.xt_shapes.specs.declared.leaves.Try.{Try}
use Rattle.xt_shapes.specs.Shape.{Literal, Flag, Shape, Members, Cases}
use Rattle.type_trees.specs.declared.types.EnumType.{EnumType}
use Rattle.type_trees.specs.declared.types.MaskType.{MaskType}
use Rattle.type_trees.specs.declared.types.SeqType.{SeqType}
use Rattle.type_trees.specs.declared.types.ArrayType.{ArrayType}
use Rattle.type_trees.specs.declared.types.MapType.{MapType}
use Rattle.type_trees.specs.declared.types.StructType.{StructType, out-StructType}
use Rattle.type_trees.specs.declared.types.UnionType.{UnionType, out-UnionType}
use Rattle.type_trees.specs.Bridge.{literal_shape, flag_shape, type_shape, members_shape, cases_shape}

abbrev pub enum_parts : EnumType → Ext × ℕ × List Literal
enum_parts e = (e.ext, e.bits, map literal_shape e.literals)

abbrev pub mask_parts : MaskType → ℕ × List Flag
mask_parts m = (m.bits, map flag_shape m.flags)

abbrev pub sequence_parts : SeqType → ℕ × Try × Shape
sequence_parts s = (s.bound, s.elem.tc, type_shape s.elem.ty)

abbrev pub array_parts : ArrayType → List ℕ × Try × Shape
array_parts a = (a.dims, a.elem.tc, type_shape a.elem.ty)

abbrev pub map_parts : MapType → ℕ × Try × Shape × Try × Shape
map_parts m = (m.bound, m.key.tc, type_shape m.key.ty, m.value.tc, type_shape m.value.ty)

abbrev pub structure_parts : StructType → Ext × Members
structure_parts t = let s = out-StructType t in (s.ext, members_shape s.members)

abbrev pub union_parts : UnionType → Ext × Bool × Shape × Cases
union_parts t = let u = out-UnionType t in (u.ext, u.disc_key, type_shape u.disc, cases_shape u.cases)
