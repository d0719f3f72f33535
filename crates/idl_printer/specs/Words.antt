-- The words that are printed for the small parts of types (DDS-XTypes 1.3, 7.3.1; OMG IDL 4.2, 7.4).
use Rattle.std.specs.Prelude.{ℕ, Bool, true, false, if◌then◌else◌, ◌==◌, List, [], ◌++◌, codes, decimal}
use Rattle.xt_shapes.specs.declared.leaves.Primitive.{Primitive}
use Rattle.xt_shapes.specs.declared.leaves.Ext.{Ext}
use Rattle.xt_shapes.specs.declared.leaves.Try.{Try}
use Rattle.type_trees.specs.declared.types.Name.{Name}
use Rattle.type_trees.specs.declared.types.Name.TheVariants as name_of

abbrev pub prim_text : Primitive → List ℕ
prim_text Primitive.Boolean = codes "boolean"
prim_text Primitive.Byte = codes "octet"
prim_text Primitive.Char8 = codes "char"
prim_text Primitive.Int8 = codes "int8"
prim_text Primitive.Uint8 = codes "uint8"
prim_text Primitive.Int16 = codes "short"
prim_text Primitive.Uint16 = codes "unsigned short"
prim_text Primitive.Int32 = codes "long"
prim_text Primitive.Uint32 = codes "unsigned long"
prim_text Primitive.Int64 = codes "long long"
prim_text Primitive.Uint64 = codes "unsigned long long"
prim_text Primitive.Float32 = codes "float"
prim_text Primitive.Float64 = codes "double"

abbrev pub try_text : Try → List ℕ
try_text Try.Discard = []
try_text Try.UseDefault = codes "@try_construct(USE_DEFAULT) "
try_text Try.Trim = codes "@try_construct(TRIM) "

abbrev pub ext_text : Ext → List ℕ
ext_text Ext.Final = codes "@final "
ext_text Ext.Appendable = codes "@appendable "
ext_text Ext.Mutable = codes "@mutable "

-- A name of which only the hash is known has no text.
abbrev pub name_text : Name → List ℕ
name_text (name_of.Full s) = s
name_text (name_of.Hashed h) = []

abbrev pub text_if : Bool → List ℕ → List ℕ
text_if true s = s
text_if false s = []

abbrev pub id_text : ℕ → List ℕ
id_text n = codes "@id(" ++ decimal n ++ codes ") "

abbrev pub string_text : ℕ → List ℕ
string_text n = if n == 0 then codes "string" else codes "string<" ++ decimal n ++ codes ">"

-- the bound of a collection, if it has one, and its end
abbrev pub bound_text : ℕ → List ℕ
bound_text n = if n == 0 then codes ">" else codes ", " ++ decimal n ++ codes ">"
