-- Worked lines of printed texts, by computation (this profile's own).
use Rattle.std.specs.Prelude.{◌≡◌, ℕ, ℤ, pos, negsuc, Bool, true, false, List, [], ◌∷◌, Some, codes, refl}
use Rattle.std.specs.Fmt.{digits}
use Rattle.xt_shapes.specs.declared.leaves.Primitive.TheVariants as prims
use Rattle.xt_shapes.specs.declared.leaves.Ext.{Ext}
use Rattle.xt_shapes.specs.declared.leaves.Try.{Try}
use Rattle.type_trees.specs.declared.types.Name.TheVariants as name_of
use Rattle.type_trees.specs.declared.types.Base.{Base}
use Rattle.type_trees.specs.declared.types.Literal.{Literal}
use Rattle.type_trees.specs.declared.types.Flag.{Flag}
use Rattle.type_trees.specs.Trees.{Tree, prim, str, sequence, map_of, array, enumeration, bitmask, structure, union, alias, Members, no_members, member, no_cases, one_case}
use Rattle.idl_printer.specs.Parts.{member_notes, declared_text, case_text, literal_text, position_text}
use Rattle.idl_printer.specs.Lines.{bits_text, aggregate_notes, struct_head, own_members, struct_text, union_head, union_text, opened, enum_text, mask_text, line, printed}

-- the lines of a list, with all definitions at hand
unfoldable computed : List (List ℕ × Tree) → List ℕ
unfolding digits member_notes declared_text case_text literal_text position_text bits_text aggregate_notes struct_head own_members struct_text union_head union_text opened enum_text mask_text line
computed ds = printed ds

abbrev long : Tree
long = prim prims.Int32

abbrev told : ℕ → List ℕ → Bool → Tree → Members → Members
told id name key t ms = member (record { id = id; name = name_of.Full name; tc = Try.Discard; optional = false; must_understand = false; key = key }) t ms

abbrev struct_of : List ℕ → List Base → Members → Tree
struct_of name bases ms = structure (record { name = Some name; ext = Ext.Final; nested = false; hashed_ids = false; bases = bases }) ms

pub in_modules : printed ((codes "M::N::A", struct_of (codes "M::N::A") [] (told 0 (codes "x") true long no_members)) ∷ [])
    ≡ codes "module M { module N { @final struct A { @id(0) @key long x; }; }; };\n"
unfolding computed
in_modules = refl

abbrev base : Base
base = record { name = Some (codes "B"); nested = false; hashed_ids = false; count = 1 }

-- the own members alone, behind the base's name
pub with_a_base : printed ((codes "D", struct_of (codes "D") (base ∷ []) (told 0 (codes "x") false long (told 1 (codes "y") false (str 5) no_members))) ∷ [])
    ≡ codes "@final struct D : ::B { @id(1) string<5> y; };\n"
unfolding computed
with_a_base = refl

abbrev literal : List ℕ → ℤ → Bool → Literal
literal name value is_default = record { name = name_of.Full name; value = value; is_default = is_default }

abbrev color : Tree
color = enumeration (Some (codes "C")) Ext.Appendable 8 (literal (codes "RED") (pos 0) false ∷ literal (codes "BLUE") (negsuc 6) true ∷ [])

pub literals : printed ((codes "C", color) ∷ []) ≡ codes "@appendable @bit_bound(8) enum C { @value(0) RED, @default_literal @value(-7) BLUE };\n"
unfolding computed
literals = refl

abbrev flag : List ℕ → ℕ → Flag
flag name position = record { name = name_of.Full name; position = position }

pub flags : printed ((codes "F", bitmask (Some (codes "F")) 16 (flag (codes "A") 3 ∷ [])) ∷ []) ≡ codes "@bit_bound(16) bitmask F { @position(3) A };\n"
unfolding computed
flags = refl

-- Labels are named by the literals behind the discriminator's aliases.
pub labels : printed ((
  codes "U",
  union (record { name = Some (codes "U"); ext = Ext.Appendable; nested = true; hashed_ids = false; disc_key = true }) (alias (Some (codes "K")) color)
      (one_case (record { id = 4; name = name_of.Full (codes "a"); tc = Try.Trim; labels = negsuc 6 ∷ []; is_default = true }) (array (2 ∷ 3 ∷ []) Try.Discard (sequence 9 Try.UseDefault long)) no_cases),
) ∷ [])
    ≡ codes "@appendable @nested union U switch (@key ::K) { case BLUE: default: @id(4) @try_construct(TRIM) sequence<@try_construct(USE_DEFAULT) long, 9> a[2][3]; };\n"
unfolding computed
labels = refl

pub aliases : printed ((codes "M::L", alias (Some (codes "M::L")) (map_of 0 Try.Discard (prim prims.Uint16) Try.Discard (str 0))) ∷ (codes "K", alias (Some (codes "K")) (array (4 ∷ []) Try.Discard long)) ∷ [])
    ≡ codes "module M { typedef map<unsigned short, string> L; };\ntypedef long K[4];\n"
unfolding computed
aliases = refl
