-- The kinds of types, and the parts of a type that is of a kind (DDS-XTypes 1.3, 7.2.2).
use Rattle.std.specs.Prelude.{ℕ, List, Bool, true, false, Option, Some, None, ◌==◌}
use Rattle.xt_shapes.specs.declared.leaves.Ext.{Ext}
use Rattle.xt_shapes.specs.declared.leaves.Try.{Try}
use Rattle.xt_shapes.specs.declared.leaves.Primitive.{Primitive}
use Rattle.xt_shapes.specs.Shape.{Literal, Flag, Shape, prim, str, enumeration, bitmask, sequence, array, map_of, structure, union, Members, Cases}

-- primitives by number
abbrev pub prim_code : Primitive → ℕ
prim_code Primitive.Boolean = 1
prim_code Primitive.Byte = 2
prim_code Primitive.Int8 = 3
prim_code Primitive.Uint8 = 4
prim_code Primitive.Int16 = 5
prim_code Primitive.Uint16 = 6
prim_code Primitive.Int32 = 7
prim_code Primitive.Uint32 = 8
prim_code Primitive.Int64 = 9
prim_code Primitive.Uint64 = 10
prim_code Primitive.Float32 = 11
prim_code Primitive.Float64 = 12
prim_code Primitive.Char8 = 13

abbrev pub same_prim : Primitive → Primitive → Bool
same_prim p q = prim_code p == prim_code q

abbrev pub ext_code : Ext → ℕ
ext_code Ext.Final = 0
ext_code Ext.Appendable = 1
ext_code Ext.Mutable = 2

abbrev pub same_ext : Ext → Ext → Bool
same_ext a b = ext_code a == ext_code b

abbrev pub kind_code : Shape → ℕ
kind_code (prim p) = prim_code p
kind_code (str bound) = 14
kind_code (enumeration ext bits literals) = 15
kind_code (bitmask bits flags) = 16
kind_code (sequence bound tc t) = 17
kind_code (array dims tc t) = 18
kind_code (map_of bound kc k vc t) = 19
kind_code (structure ext ms) = 20
kind_code (union ext key disc cs) = 21

-- two primitives are of one kind only where they are the same
abbrev pub same_kind : Shape → Shape → Bool
same_kind t u = kind_code t == kind_code u

-- a type whose values are numbers
abbrev pub is_number : Shape → Bool
is_number (prim p) = true
is_number (enumeration ext bits literals) = true
is_number (bitmask bits flags) = true
is_number _ = false

-- ---- the parts of a type, where it is of the kind

abbrev pub as_prim : Shape → Option Primitive
as_prim (prim p) = Some p
as_prim _ = None

abbrev pub as_str : Shape → Option ℕ
as_str (str bound) = Some bound
as_str _ = None

abbrev pub as_enum : Shape → Option (Ext × ℕ × List Literal)
as_enum (enumeration ext bits literals) = Some (ext, bits, literals)
as_enum _ = None

abbrev pub as_mask : Shape → Option (ℕ × List Flag)
as_mask (bitmask bits flags) = Some (bits, flags)
as_mask _ = None

abbrev pub as_sequence : Shape → Option (ℕ × Try × Shape)
as_sequence (sequence bound tc t) = Some (bound, tc, t)
as_sequence _ = None

abbrev pub as_array : Shape → Option (List ℕ × Try × Shape)
as_array (array dims tc t) = Some (dims, tc, t)
as_array _ = None

abbrev pub as_map : Shape → Option (ℕ × Try × Shape × Try × Shape)
as_map (map_of bound kc k vc v) = Some (bound, kc, k, vc, v)
as_map _ = None

abbrev pub as_structure : Shape → Option (Ext × Members)
as_structure (structure ext ms) = Some (ext, ms)
as_structure _ = None

abbrev pub as_union : Shape → Option (Ext × Bool × Shape × Cases)
as_union (union ext key disc cs) = Some (ext, key, disc, cs)
as_union _ = None
