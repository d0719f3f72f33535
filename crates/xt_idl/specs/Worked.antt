-- Worked texts, by computation: what they declare, or their first fault (OMG IDL 4.2, 7.4.1; DDS-XTypes 1.3, 7.3.1).
use Rattle.std.specs.Prelude.{◌≡◌, [], ◌∷◌, Some, Result, Ok, Err, codes, refl}
use Rattle.xt_shapes.specs.declared.leaves.Primitive.TheVariants as prims
use Rattle.xt_shapes.specs.declared.leaves.Try.{Try}
use Rattle.type_trees.specs.Bridge.{name_number}
use Rattle.type_trees.specs.Trees.{Tree, prim, str, sequence, array, alias}
use Rattle.node_rules.specs.Table.{failing}
use Rattle.type_rules.specs.Valid.{type_fault, first_deep, first_fault}
use Rattle.idl_tokens.specs.Classes.{Text}
use Rattle.idl_tokens.specs.Numerals.{is_numeral, magnitude, unsigned_in, signed_32}
use Rattle.idl_tokens.specs.Tokens.{token, blank, skip, sees}
use Rattle.xt_annotations.specs.Annotations.{annotation}
use Rattle.xt_annotations.specs.Parameters.{parameter, ext_word, autoid_word, try_word}
use Rattle.xt_annotations.specs.Notes.{in_parentheses, of_annotation, note_after}
use Rattle.xt_annotations.specs.Places.{same_setting, breaks}
use Rattle.idl_input.specs.declared.faults.IdlFault.{IdlFault}
use Rattle.idl_input.specs.declared.faults.IdlFault.TheVariants as fault
use Rattle.idl_input.specs.Words.{keyword}
use Rattle.idl_input.specs.Input as input
use Rattle.idl_input.specs.Input.{kind, spelling, next, left, place, sees_name, keyword_at, sees_number, after_if, want, name, bound, note, notes_from, notes_at}
use Rattle.idl_types.specs.State.{Declared}
use Rattle.idl_types.specs.Names.{meant, parts_from, scoped, type_by_name}
use Rattle.idl_types.specs.Types.{unsigned_type, long_type, string_type, last_bound, element, sequence_type, map_type, named_type, type_to}
use Rattle.idl_definitions.specs.Lists.{comma_from, braced_from}
use Rattle.idl_definitions.specs.Members.{dims_from, dims, dimensioned, new_name, id_for, shaped, another, members_of_type}
use Rattle.idl_definitions.specs.Structures.{new_type, base_clause, in_profile, struct_def, typedef_def}
use Rattle.idl_definitions.specs.Numbered.{part, numbered_def}
use Rattle.idl_definitions.specs.Unions.{truth_label, character_label, number_label, literal_label, label, labels_from, labels, case, discriminator, union_def}
use Rattle.xt_idl.specs.Leading.{leading_from, leading, leading_notes}
use Rattle.xt_idl.specs.Whole.{typed, module_def, closed, item, at_end, items_from, idl}

-- what a text declares, with all definitions at hand
unfoldable pub computed : Text → Result Declared IdlFault
unfolding type_fault first_deep first_fault failing name_number is_numeral magnitude unsigned_in signed_32 token blank skip sees annotation parameter ext_word autoid_word try_word in_parentheses of_annotation note_after same_setting breaks keyword input.sees kind spelling next left place sees_name keyword_at sees_number after_if want name bound note notes_from notes_at meant parts_from scoped type_by_name unsigned_type long_type string_type last_bound element sequence_type map_type named_type type_to comma_from braced_from dims_from dims dimensioned new_name id_for shaped another members_of_type new_type base_clause in_profile struct_def typedef_def part numbered_def truth_label character_label number_label literal_label label labels_from labels case discriminator union_def leading_from leading leading_notes typed module_def closed item at_end items_from idl
computed text = idl text

-- ---- texts that declare types

pub nothing : idl (codes " // no definition") ≡ Ok []
unfolding computed
nothing = refl

abbrev long : Tree
long = prim prims.Int32

-- A type has its full name. A name is looked up in the innermost module, and then outwards.
pub modules : idl (codes "module M{typedef long L; module N{typedef L K;};}; typedef M::N::K J;") ≡ Ok (
    (codes "M::L", alias (Some (codes "M::L")) long)
    ∷ (codes "M::N::K", alias (Some (codes "M::N::K")) (alias (Some (codes "M::L")) long))
    ∷ (codes "J", alias (Some (codes "J")) (alias (Some (codes "M::N::K")) (alias (Some (codes "M::L")) long)))
    ∷ [])
unfolding computed
modules = refl

pub opened_again : idl (codes "module M{typedef long L;}; module M{typedef L K;};") ≡ Ok (
    (codes "M::L", alias (Some (codes "M::L")) long) ∷ (codes "M::K", alias (Some (codes "M::K")) (alias (Some (codes "M::L")) long)) ∷ [])
unfolding computed
opened_again = refl

pub dimensions : idl (codes "typedef sequence<@try_construct(TRIM) string<4>, 3> G[2][3];") ≡ Ok (
    (codes "G", alias (Some (codes "G")) (array (2 ∷ 3 ∷ []) Try.Discard (sequence 3 Try.Trim (str 4)))) ∷ [])
unfolding computed
dimensions = refl

-- ---- faults

pub no_members : idl (codes "struct A{};") ≡ Err (fault.Syntax 9)
unfolding computed
no_members = refl

pub open_module : idl (codes "module M{typedef long L;") ≡ Err (fault.Syntax 24)
unfolding computed
open_module = refl

pub no_such_type : idl (codes "struct A{B b;};") ≡ Err (fault.Unknown 9)
unfolding computed
no_such_type = refl

pub inside_itself : idl (codes "struct D : D {long y;};") ≡ Err (fault.Unknown 11)
unfolding computed
inside_itself = refl

pub declared_again : idl (codes "typedef long A; struct A{long y;};") ≡ Err (fault.Twice 23)
unfolding computed
declared_again = refl

pub module_of_a_type : idl (codes "typedef long M; module M{") ≡ Err (fault.Twice 23)
unfolding computed
module_of_a_type = refl

pub not_in_profile : idl (codes "interface I{};") ≡ Err (fault.NotInProfile 0)
unfolding computed
not_in_profile = refl

pub second_id : idl (codes "@final struct A{@id(1) @id(2) long x;};") ≡ Err (fault.Annotation 23 4)
unfolding computed
second_id = refl

pub outside_annotation : idl (codes "@external struct A{long x;};") ≡ Err (fault.Annotation 0 2)
unfolding computed
outside_annotation = refl

pub misplaced_annotation : idl (codes "@key struct A{long x;};") ≡ Err (fault.Annotation 0 3)
unfolding computed
misplaced_annotation = refl

pub no_valid_key : idl (codes "typedef map<float, long> M;") ≡ Err (fault.Invalid 25 (record { rule = 8; node = [] }))
unfolding computed
no_valid_key = refl
