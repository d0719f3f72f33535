-- Worked lists of types whose printed text declares the same list, and faults of types with members, by computation (this profile's own).
use Rattle.std.specs.Prelude.{◌≡◌, ℕ, negsuc, Bool, true, false, List, [], ◌∷◌, Some, Ok, Err, codes, refl}
use Rattle.std.specs.Fmt.{digits}
use Rattle.md5.specs.Md5.{block_words, rounds, compress, hash_after, digest_bytes, md5}
use Rattle.xt_shapes.specs.declared.leaves.Primitive.TheVariants as prims
use Rattle.xt_shapes.specs.declared.leaves.Ext.{Ext}
use Rattle.xt_shapes.specs.declared.leaves.Try.{Try}
use Rattle.xt_shapes.specs.Typing.{has_type}
use Rattle.type_trees.specs.declared.types.Name.TheVariants as name_of
use Rattle.type_trees.specs.declared.types.Base.{Base}
use Rattle.type_trees.specs.declared.types.Literal.{Literal}
use Rattle.type_trees.specs.declared.types.Flag.{Flag}
use Rattle.type_trees.specs.Trees.{Tree, prim, str, sequence, array, enumeration, bitmask, structure, union, Members, no_members, member, no_cases, one_case}
use Rattle.idl_input.specs.declared.faults.IdlFault.TheVariants as fault
use Rattle.idl_printer.specs.Parts.{member_notes, declared_text, case_text, literal_text, position_text}
use Rattle.idl_printer.specs.Lines.{bits_text, aggregate_notes, struct_head, own_members, struct_text, union_head, union_text, opened, enum_text, mask_text, line, printed}
use Rattle.idl_types.specs.State.{Declared}
use Rattle.xt_idl.specs.Whole.{idl}
use Rattle.xt_idl.specs.Worked.{computed}

-- what the printed text of a list declares, with all definitions at hand
unfoldable again : Declared → Declared
unfolding computed digits block_words rounds compress hash_after digest_bytes md5 has_type member_notes declared_text case_text literal_text position_text bits_text aggregate_notes struct_head own_members struct_text union_head union_text opened enum_text mask_text line
again ds = ds

abbrev IsReadAgain : Declared → Type 0
IsReadAgain ds = idl (printed ds) ≡ Ok ds

abbrev long : Tree
long = prim prims.Int32

abbrev literal : List ℕ → Bool → Literal
literal name is_default = record { name = name_of.Full name; value = negsuc 2; is_default = is_default }

abbrev color : Tree
color = enumeration (Some (codes "M::C")) Ext.Final 32 (literal (codes "RED") true ∷ [])

pub an_enumeration : IsReadAgain ((codes "M::C", color) ∷ [])
unfolding again
an_enumeration = refl

abbrev flag : List ℕ → ℕ → Flag
flag name position = record { name = name_of.Full name; position = position }

pub a_bitmask : IsReadAgain ((codes "F", bitmask (Some (codes "F")) 16 (flag (codes "A") 3 ∷ [])) ∷ [])
unfolding again
a_bitmask = refl

abbrev told : ℕ → List ℕ → Tree → Members → Members
told id name t ms = member (record { id = id; name = name_of.Full name; tc = Try.Discard; optional = false; must_understand = true; key = true }) t ms

abbrev struct_of : List ℕ → List Base → Members → Tree
struct_of name bases ms = structure (record { name = Some name; ext = Ext.Final; nested = true; hashed_ids = false; bases = bases }) ms

abbrev base : Base
base = record { name = Some (codes "B"); nested = true; hashed_ids = false; count = 1 }

pub a_base : IsReadAgain ((codes "B", struct_of (codes "B") [] (told 3 (codes "x") long no_members)) ∷ (codes "M::D", struct_of (codes "M::D") (base ∷ []) (told 3 (codes "x") long (told 7 (codes "y") (array (2 ∷ []) Try.Discard long) no_members))) ∷ [])
unfolding again
a_base = refl

pub a_union : IsReadAgain ((codes "M::C", color) ∷ (
  codes "U",
  union (record { name = Some (codes "U"); ext = Ext.Appendable; nested = false; hashed_ids = true; disc_key = true }) color
      (one_case (record { id = 4; name = name_of.Full (codes "a"); tc = Try.Trim; labels = negsuc 2 ∷ []; is_default = true }) (sequence 9 Try.UseDefault (str 3)) no_cases),
) ∷ [])
unfolding again
a_union = refl

-- ---- faults behind a type with members

pub declared_twice : idl (codes "struct A{long x;}; struct A{long y;};") ≡ Err (fault.Twice 26)
unfolding again
declared_twice = refl

pub base_of_another_kind : idl (codes "struct B{long x;}; @final struct D : B {long y;};") ≡ Err (fault.Invalid 33 (record { rule = 17; node = [] }))
unfolding again
base_of_another_kind = refl
