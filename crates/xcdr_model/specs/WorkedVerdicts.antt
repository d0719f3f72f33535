-- Worked verdicts: nothing fails, or one rule at one path (DDS-XTypes 1.3, 7.2.4.4). The reader's type stands first.
use Rattle.std.specs.Prelude.{◌≡◌, ℕ, pos, List, [], ◌∷◌, true, false, Some, None, map}
use Rattle.std.proofs.Common.{refl}
use Rattle.xt_shapes.specs.declared.leaves.Ext.TheVariants.{Final, Appendable, Mutable}
use Rattle.xt_shapes.specs.declared.leaves.Primitive.TheVariants as prims
use Rattle.xt_shapes.specs.declared.leaves.Rep.TheVariants.{Xcdr1, Xcdr2}
use Rattle.xt_shapes.specs.declared.leaves.Step.TheVariants as steps
use Rattle.xt_shapes.specs.declared.leaves.Try.TheVariants.{Discard}
use Rattle.xt_shapes.specs.Shape.{Shape, prim, str, enumeration, array, map_of, structure, union, Members, no_members, no_cases}
use Rattle.xcdr_model.specs.declared.verdict.Rule.TheVariants as rules
use Rattle.xcdr_model.specs.Worked.{long, octet, told, plain, keyed, must, case_of, otherwise_case, literal, verdicts}
use Rattle.xt_shapes.specs.declared.leaves.Step.{Step}
use Rattle.xcdr_model.specs.declared.verdict.Policy.{Policy}
use Rattle.xcdr_model.specs.Policies.{standard}
use Rattle.xcdr_model.specs.Failure.{first_failure}

abbrev final : Members → Shape
final ms = structure Final ms

abbrev appendable : Members → Shape
appendable ms = structure Appendable ms

abbrev mutable : Members → Shape
mutable ms = structure Mutable ms

abbrev at_zero : List Step
at_zero = steps.Member 0 ∷ []

-- ---- kinds and extensibility

short_from_long : first_failure standard Xcdr2 (final (plain 0 (prim prims.Int16) no_members)) (final (plain 0 long no_members)) ≡ Some (rules.Kind, at_zero)
unfolding verdicts
short_from_long = refl

appendable_from_final : first_failure standard Xcdr2 (appendable (plain 0 long no_members)) (final (plain 0 long no_members)) ≡ Some (rules.Extensibility, [])
unfolding verdicts
appendable_from_final = refl

extensibility_before_names : first_failure standard Xcdr2 (appendable (told 0 1 Discard false long no_members)) (final (told 0 2 Discard false long no_members)) ≡ Some (rules.Extensibility, [])
unfolding verdicts
extensibility_before_names = refl

-- ---- enumerations and arrays

abbrev literals : ℕ → List ℕ → Shape
literals bits names = enumeration Final bits (map literal names)

fewer_literals : first_failure standard Xcdr2 (final (plain 0 (literals 32 (0 ∷ 1 ∷ [])) no_members)) (final (plain 0 (literals 32 (0 ∷ [])) no_members)) ≡ Some (rules.LiteralSet, at_zero)
unfolding verdicts
fewer_literals = refl

other_bits : first_failure standard Xcdr2 (final (plain 0 (literals 8 (0 ∷ [])) no_members)) (final (plain 0 (literals 16 (0 ∷ [])) no_members)) ≡ Some (rules.BitBound, at_zero)
unfolding verdicts
other_bits = refl

other_dimensions : first_failure standard Xcdr2 (final (plain 0 (array (2 ∷ []) Discard long) no_members)) (final (plain 0 (array (3 ∷ []) Discard long) no_members)) ≡ Some (rules.Dimensions, at_zero)
unfolding verdicts
other_dimensions = refl

-- ---- members

other_name : first_failure standard Xcdr2 (final (told 0 1 Discard false long no_members)) (final (told 0 2 Discard false long no_members)) ≡ Some (rules.Names, [])
unfolding verdicts
other_name = refl

more_members_of_a_final_structure : first_failure standard Xcdr2 (final (plain 0 long (plain 1 long no_members))) (final (plain 0 long no_members)) ≡ Some (rules.MemberSet, [])
unfolding verdicts
more_members_of_a_final_structure = refl

member_that_the_reader_must_understand : first_failure standard Xcdr2 (mutable (plain 1 long no_members)) (mutable (plain 1 long (must false 5 long no_members))) ≡ Some (rules.MustUnderstand, [])
unfolding verdicts
member_that_the_reader_must_understand = refl

no_common_member : first_failure standard Xcdr2 (mutable (plain 1 long no_members)) (mutable (plain 2 long no_members)) ≡ Some (rules.CommonMember, [])
unfolding verdicts
no_common_member = refl

other_place : first_failure standard Xcdr2 (appendable (plain 0 long (plain 1 long no_members))) (appendable (plain 1 long (plain 0 long no_members))) ≡ Some (rules.MemberIndex, [])
unfolding verdicts
other_place = refl

-- ---- keys, at the top alone

key_on_one_side : first_failure standard Xcdr2 (final (plain 0 long no_members)) (final (keyed 0 long no_members)) ≡ Some (rules.KeySet, [])
unfolding verdicts
key_on_one_side = refl

shorter_key_text : first_failure standard Xcdr2 (final (keyed 0 (str 3) no_members)) (final (keyed 0 (str 8) no_members)) ≡ Some (rules.KeyFit, at_zero)
unfolding verdicts
shorter_key_text = refl

key_fit_before_kind : first_failure standard Xcdr2 (mutable (keyed 1 (str 3) no_members)) (mutable (keyed 1 long no_members)) ≡ Some (rules.KeyFit, steps.Member 1 ∷ [])
unfolding verdicts
key_fit_before_kind = refl

other_key_set : first_failure standard Xcdr2 (mutable (keyed 1 long (plain 2 long no_members))) (mutable (keyed 1 long (keyed 2 long no_members))) ≡ Some (rules.KeySet, [])
unfolding verdicts
other_key_set = refl

nested_keys_are_erased : first_failure standard Xcdr2 (final (plain 0 (mutable (keyed 1 (str 3) no_members)) no_members)) (final (plain 0 (mutable (keyed 1 (str 8) no_members)) no_members)) ≡ None
unfolding verdicts
nested_keys_are_erased = refl

-- ---- unions

more_labels : first_failure standard Xcdr2 (union Final false long (case_of 0 (pos 1 ∷ []) long no_cases)) (union Final false long (case_of 0 (pos 1 ∷ []) long (case_of 1 (pos 2 ∷ []) octet no_cases))) ≡ Some (rules.Labels, [])
unfolding verdicts
more_labels = refl

case_of_another_kind : first_failure standard Xcdr2 (union Appendable false long (case_of 0 (pos 1 ∷ []) long no_cases)) (union Appendable false long (case_of 0 (pos 1 ∷ []) octet no_cases)) ≡ Some (rules.Kind, at_zero)
unfolding verdicts
case_of_another_kind = refl

key_discriminator_on_one_side : first_failure standard Xcdr2 (union Final true long (case_of 0 (pos 1 ∷ []) long no_cases)) (union Final false long (case_of 0 (pos 1 ∷ []) long no_cases)) ≡ Some (rules.Discriminator, [])
unfolding verdicts
key_discriminator_on_one_side = refl

defaults_of_other_kinds : first_failure standard Xcdr2 (union Appendable false long (case_of 0 (pos 1 ∷ []) long (otherwise_case 1 octet no_cases))) (union Appendable false long (case_of 0 (pos 1 ∷ []) long (otherwise_case 1 long no_cases))) ≡ Some (rules.Kind, steps.Member 1 ∷ [])
unfolding verdicts
defaults_of_other_kinds = refl

-- ---- a part with a member more on the writer's side: delimited in XCDR2 alone

abbrev one : Shape
one = appendable (plain 0 long no_members)

abbrev two : Shape
two = appendable (plain 0 long (plain 1 long no_members))

not_delimited : first_failure standard Xcdr1 (final (plain 0 one (plain 1 long no_members))) (final (plain 0 two (plain 1 long no_members))) ≡ Some (rules.NotDelimited, at_zero)
unfolding verdicts
not_delimited = refl

delimited_in_xcdr2 : first_failure standard Xcdr2 (final (plain 0 one (plain 1 long no_members))) (final (plain 0 two (plain 1 long no_members))) ≡ None
unfolding verdicts
delimited_in_xcdr2 = refl

-- ---- policies

abbrev string_bounds : Policy
string_bounds = record { coercion = true; ignore_string_bounds = false; ignore_sequence_bounds = true; ignore_member_names = false }

abbrev sequence_bounds : Policy
sequence_bounds = record { coercion = true; ignore_string_bounds = true; ignore_sequence_bounds = false; ignore_member_names = false }

abbrev any_names : Policy
any_names = record { coercion = true; ignore_string_bounds = true; ignore_sequence_bounds = true; ignore_member_names = true }

abbrev disallow : Policy
disallow = record { coercion = false; ignore_string_bounds = true; ignore_sequence_bounds = true; ignore_member_names = false }

shorter_text : first_failure string_bounds Xcdr2 (final (plain 0 (str 3) no_members)) (final (plain 0 (str 8) no_members)) ≡ Some (rules.Bound, at_zero)
unfolding verdicts
shorter_text = refl

shorter_text_ignored : first_failure standard Xcdr2 (final (plain 0 (str 3) no_members)) (final (plain 0 (str 8) no_members)) ≡ None
unfolding verdicts
shorter_text_ignored = refl

-- Sequence bounds include those of maps.
shorter_map : first_failure sequence_bounds Xcdr2 (final (plain 0 (map_of 2 Discard long Discard long) no_members)) (final (plain 0 (map_of 0 Discard long Discard long) no_members)) ≡ Some (rules.Bound, at_zero)
unfolding verdicts
shorter_map = refl

names_ignored : first_failure any_names Xcdr2 (final (told 0 1 Discard false long no_members)) (final (told 0 2 Discard false long no_members)) ≡ None
unfolding verdicts
names_ignored = refl

coercion_disallowed : first_failure disallow Xcdr2 one two ≡ Some (rules.Coercion, [])
unfolding verdicts
coercion_disallowed = refl

equivalent_under_disallow : first_failure disallow Xcdr2 two two ≡ None
unfolding verdicts
equivalent_under_disallow = refl
