-- Worked samples in XCDR2 (DDS-XTypes 1.3, 7.4.2 and 7.4.3).
use Rattle.std.specs.Prelude.{ℕ, pos, negsuc, List, [], ◌∷◌, false}
use Rattle.std.proofs.Common.{refl}
use Rattle.xt_shapes.specs.declared.leaves.Ext.TheVariants.{Final, Appendable, Mutable}
use Rattle.xt_shapes.specs.declared.leaves.Primitive.TheVariants as prims
use Rattle.xt_shapes.specs.declared.leaves.Rep.TheVariants.{Xcdr2}
use Rattle.xt_shapes.specs.declared.leaves.Try.{Try}
use Rattle.xt_shapes.specs.declared.leaves.Try.TheVariants.{Discard, UseDefault, Trim}
use Rattle.xt_shapes.specs.Shape.{Shape, prim, str, enumeration, sequence, map_of, structure, union, no_members, no_cases}
use Rattle.xt_shapes.specs.Vals.{int, text, listed, mapped, union_of, no_pairs, absent, present, vals_of}
use Rattle.xcdr_model.specs.Samples.{discarded, must_understand}
use Rattle.xcdr_model.specs.Worked.{long, octet, plain, tried, optional, case_of, otherwise_case, literal, whole, values, slots, reads, gives, readings}

-- ---- one member, in both byte orders

abbrev pub one_long : Shape
one_long = structure Final (plain 0 long no_members)

little_endian : reads Xcdr2 one_long (0x00 ∷ 0x07 ∷ 0x00 ∷ 0x00 ∷ 0x01 ∷ 0x00 ∷ 0x00 ∷ 0x00 ∷ []) (values (whole 1 ∷ []))
unfolding readings
little_endian = refl

big_endian : reads Xcdr2 one_long (0x00 ∷ 0x06 ∷ 0x00 ∷ 0x00 ∷ 0x00 ∷ 0x00 ∷ 0x00 ∷ 0x01 ∷ []) (values (whole 1 ∷ []))
unfolding readings
big_endian = refl

-- ---- an appendable writer with one member more than the reader, and the other way round

abbrev pub longer : Shape
longer = structure Appendable (plain 0 long (plain 1 octet no_members))

abbrev pub shorter : Shape
shorter = structure Appendable (plain 0 long no_members)

surplus_member_is_passed_over : reads Xcdr2 shorter (0x00 ∷ 0x09 ∷ 0x00 ∷ 0x03 ∷ 0x05 ∷ 0x00 ∷ 0x00 ∷ 0x00 ∷ 0x01 ∷ 0x00 ∷ 0x00 ∷ 0x00 ∷ 0x02 ∷ 0x00 ∷ 0x00 ∷ 0x00 ∷ []) (values (whole 1 ∷ []))
unfolding readings
surplus_member_is_passed_over = refl

missing_member_has_its_default : reads Xcdr2 longer (0x00 ∷ 0x09 ∷ 0x00 ∷ 0x00 ∷ 0x04 ∷ 0x00 ∷ 0x00 ∷ 0x00 ∷ 0x01 ∷ 0x00 ∷ 0x00 ∷ 0x00 ∷ []) (values (whole 1 ∷ whole 0 ∷ []))
unfolding readings
missing_member_has_its_default = refl

-- ---- members under headers

abbrev pub member_five : Shape
member_five = structure Mutable (plain 5 long no_members)

abbrev pub member_one : Shape
member_one = structure Mutable (plain 1 long no_members)

length_code_2 : reads Xcdr2 member_five (0x00 ∷ 0x0B ∷ 0x00 ∷ 0x00 ∷ 0x08 ∷ 0x00 ∷ 0x00 ∷ 0x00 ∷ 0x05 ∷ 0x00 ∷ 0x00 ∷ 0x20 ∷ 0x07 ∷ 0x00 ∷ 0x00 ∷ 0x00 ∷ []) (values (whole 7 ∷ []))
unfolding readings
length_code_2 = refl

length_code_4 : reads Xcdr2 member_five (0x00 ∷ 0x0B ∷ 0x00 ∷ 0x00 ∷ 0x0C ∷ 0x00 ∷ 0x00 ∷ 0x00 ∷ 0x05 ∷ 0x00 ∷ 0x00 ∷ 0x40 ∷ 0x04 ∷ 0x00 ∷ 0x00 ∷ 0x00 ∷ 0x07 ∷ 0x00 ∷ 0x00 ∷ 0x00 ∷ []) (values (whole 7 ∷ []))
unfolding readings
length_code_4 = refl

length_code_6 : reads Xcdr2 (structure Mutable (plain 2 (sequence 0 Discard long) no_members)) (0x00 ∷ 0x0B ∷ 0x00 ∷ 0x00 ∷ 0x10 ∷ 0x00 ∷ 0x00 ∷ 0x00 ∷ 0x02 ∷ 0x00 ∷ 0x00 ∷ 0x60 ∷ 0x02 ∷ 0x00 ∷ 0x00 ∷ 0x00 ∷ 0x01 ∷ 0x00 ∷ 0x00 ∷ 0x00 ∷ 0x02 ∷ 0x00 ∷ 0x00 ∷ 0x00 ∷ []) (values (listed (vals_of (whole 1 ∷ whole 2 ∷ [])) ∷ []))
unfolding readings
length_code_6 = refl

unknown_and_marked : gives Xcdr2 member_one (0x00 ∷ 0x0B ∷ 0x00 ∷ 0x00 ∷ 0x10 ∷ 0x00 ∷ 0x00 ∷ 0x00 ∷ 0x01 ∷ 0x00 ∷ 0x00 ∷ 0x20 ∷ 0x09 ∷ 0x00 ∷ 0x00 ∷ 0x00 ∷ 0x05 ∷ 0x00 ∷ 0x00 ∷ 0xA0 ∷ 0x07 ∷ 0x00 ∷ 0x00 ∷ 0x00 ∷ []) must_understand
unfolding readings
unknown_and_marked = refl

unknown_and_not_marked : reads Xcdr2 member_one (0x00 ∷ 0x0B ∷ 0x00 ∷ 0x00 ∷ 0x10 ∷ 0x00 ∷ 0x00 ∷ 0x00 ∷ 0x01 ∷ 0x00 ∷ 0x00 ∷ 0x20 ∷ 0x09 ∷ 0x00 ∷ 0x00 ∷ 0x00 ∷ 0x05 ∷ 0x00 ∷ 0x00 ∷ 0x20 ∷ 0x07 ∷ 0x00 ∷ 0x00 ∷ 0x00 ∷ []) (values (whole 9 ∷ []))
unfolding readings
unknown_and_not_marked = refl

in_any_order : reads Xcdr2 (structure Mutable (plain 1 octet (plain 5 long no_members))) (0x00 ∷ 0x0B ∷ 0x00 ∷ 0x03 ∷ 0x0D ∷ 0x00 ∷ 0x00 ∷ 0x00 ∷ 0x05 ∷ 0x00 ∷ 0x00 ∷ 0x20 ∷ 0x07 ∷ 0x00 ∷ 0x00 ∷ 0x00 ∷ 0x01 ∷ 0x00 ∷ 0x00 ∷ 0x00 ∷ 0x09 ∷ 0x00 ∷ 0x00 ∷ 0x00 ∷ []) (values (whole 9 ∷ whole 7 ∷ []))
unfolding readings
in_any_order = refl

-- ---- an octet, and a number of eight octets that is aligned to four

abbrev pub octet_and_long_long : Shape
octet_and_long_long = structure Final (plain 0 octet (plain 1 (prim prims.Int64) no_members))

aligned_to_4 : reads Xcdr2 octet_and_long_long (0x00 ∷ 0x07 ∷ 0x00 ∷ 0x00 ∷ 0x01 ∷ 0x00 ∷ 0x00 ∷ 0x00 ∷ 0x02 ∷ 0x00 ∷ 0x00 ∷ 0x00 ∷ 0x00 ∷ 0x00 ∷ 0x00 ∷ 0x00 ∷ []) (values (whole 1 ∷ whole 2 ∷ []))
unfolding readings
aligned_to_4 = refl

-- ---- a text of six octets where the reader's bound is three

abbrev pub bounded_text : Try → Shape
bounded_text tc = structure Final (tried tc 0 (str 3) no_members)

abbrev six_octets : List ℕ
six_octets = 0x00 ∷ 0x07 ∷ 0x00 ∷ 0x01 ∷ 0x07 ∷ 0x00 ∷ 0x00 ∷ 0x00 ∷ 0x61 ∷ 0x62 ∷ 0x63 ∷ 0x64 ∷ 0x65 ∷ 0x66 ∷ 0x00 ∷ 0x00 ∷ []

text_past_bound_discarded : gives Xcdr2 (bounded_text Discard) six_octets discarded
unfolding readings
text_past_bound_discarded = refl

text_past_bound_default : reads Xcdr2 (bounded_text UseDefault) six_octets (values (text [] ∷ []))
unfolding readings
text_past_bound_default = refl

text_past_bound_trimmed : reads Xcdr2 (bounded_text Trim) six_octets (values (text (0x61 ∷ 0x62 ∷ 0x63 ∷ []) ∷ []))
unfolding readings
text_past_bound_trimmed = refl

-- ---- a literal that the reader lacks, as a member and as a discriminator

abbrev two_colours : Shape
two_colours = enumeration Appendable 32 (literal 0 ∷ literal 1 ∷ [])

abbrev by_colour : Shape
by_colour = union Appendable false two_colours (case_of 0 (pos 0 ∷ []) long (otherwise_case 1 octet no_cases))

unknown_literal : gives Xcdr2 (structure Final (plain 0 two_colours (plain 1 long no_members))) (0x00 ∷ 0x07 ∷ 0x00 ∷ 0x00 ∷ 0x02 ∷ 0x00 ∷ 0x00 ∷ 0x00 ∷ 0x05 ∷ 0x00 ∷ 0x00 ∷ 0x00 ∷ []) discarded
unfolding readings
unknown_literal = refl

union_under_an_unknown_literal : reads Xcdr2 (structure Final (tried UseDefault 0 by_colour (plain 1 long no_members))) (0x00 ∷ 0x07 ∷ 0x00 ∷ 0x00 ∷ 0x05 ∷ 0x00 ∷ 0x00 ∷ 0x00 ∷ 0x02 ∷ 0x00 ∷ 0x00 ∷ 0x00 ∷ 0x09 ∷ 0x00 ∷ 0x00 ∷ 0x00 ∷ 0x05 ∷ 0x00 ∷ 0x00 ∷ 0x00 ∷ []) (values (union_of (pos 0) (present (whole 0)) ∷ whole 5 ∷ []))
unfolding readings
union_under_an_unknown_literal = refl

-- ---- a map whose two keys are trimmed to the same text

abbrev trimmed_keys : Try → Shape
trimmed_keys tc = structure Final (tried tc 0 (map_of 0 Trim (str 3) Discard long) no_members)

abbrev two_entries : List ℕ
two_entries = 0x00 ∷ 0x07 ∷ 0x00 ∷ 0x00 ∷ 0x24 ∷ 0x00 ∷ 0x00 ∷ 0x00 ∷ 0x02 ∷ 0x00 ∷ 0x00 ∷ 0x00 ∷ 0x05 ∷ 0x00 ∷ 0x00 ∷ 0x00 ∷ 0x61 ∷ 0x62 ∷ 0x63 ∷ 0x64 ∷ 0x00 ∷ 0x00 ∷ 0x00 ∷ 0x00 ∷ 0x01 ∷ 0x00 ∷ 0x00 ∷ 0x00 ∷ 0x05 ∷ 0x00 ∷ 0x00 ∷ 0x00 ∷ 0x61 ∷ 0x62 ∷ 0x63 ∷ 0x65 ∷ 0x00 ∷ 0x00 ∷ 0x00 ∷ 0x00 ∷ 0x02 ∷ 0x00 ∷ 0x00 ∷ 0x00 ∷ []

equal_keys_discarded : gives Xcdr2 (trimmed_keys Discard) two_entries discarded
unfolding readings
equal_keys_discarded = refl

equal_keys_are_not_trimmed : gives Xcdr2 (trimmed_keys Trim) two_entries discarded
unfolding readings
equal_keys_are_not_trimmed = refl

equal_keys_default : reads Xcdr2 (trimmed_keys UseDefault) two_entries (values (mapped no_pairs ∷ []))
unfolding readings
equal_keys_default = refl

-- ---- an optional member, absent and present

abbrev pub optional_long : Shape
optional_long = structure Final (optional 0 long (plain 1 octet no_members))

absent_member : reads Xcdr2 optional_long (0x00 ∷ 0x07 ∷ 0x00 ∷ 0x02 ∷ 0x00 ∷ 0x05 ∷ 0x00 ∷ 0x00 ∷ []) (slots (absent ∷ present (whole 5) ∷ []))
unfolding readings
absent_member = refl

present_member : reads Xcdr2 optional_long (0x00 ∷ 0x07 ∷ 0x00 ∷ 0x03 ∷ 0x01 ∷ 0x00 ∷ 0x00 ∷ 0x00 ∷ 0x07 ∷ 0x00 ∷ 0x00 ∷ 0x00 ∷ 0x05 ∷ 0x00 ∷ 0x00 ∷ 0x00 ∷ []) (slots (present (whole 7) ∷ present (whole 5) ∷ []))
unfolding readings
present_member = refl

-- ---- an appendable union whose case is missing, is selected on neither side, or is surplus

abbrev pub by_number : Shape
by_number = union Appendable false long (case_of 0 (pos 1 ∷ []) long (case_of 1 (pos 2 ∷ []) octet no_cases))

case_is_missing : gives Xcdr2 by_number (0x00 ∷ 0x09 ∷ 0x00 ∷ 0x00 ∷ 0x04 ∷ 0x00 ∷ 0x00 ∷ 0x00 ∷ 0x01 ∷ 0x00 ∷ 0x00 ∷ 0x00 ∷ []) discarded
unfolding readings
case_is_missing = refl

no_case_is_selected : reads Xcdr2 by_number (0x00 ∷ 0x09 ∷ 0x00 ∷ 0x00 ∷ 0x04 ∷ 0x00 ∷ 0x00 ∷ 0x00 ∷ 0x03 ∷ 0x00 ∷ 0x00 ∷ 0x00 ∷ []) (union_of (pos 3) absent)
unfolding readings
no_case_is_selected = refl

case_is_surplus : gives Xcdr2 by_number (0x00 ∷ 0x09 ∷ 0x00 ∷ 0x00 ∷ 0x08 ∷ 0x00 ∷ 0x00 ∷ 0x00 ∷ 0x03 ∷ 0x00 ∷ 0x00 ∷ 0x00 ∷ 0x09 ∷ 0x00 ∷ 0x00 ∷ 0x00 ∷ []) discarded
unfolding readings
case_is_surplus = refl

-- ---- collections: octets need no DHEADER, texts do

octets_without_dheader : reads Xcdr2 (structure Final (plain 0 (sequence 0 Discard octet) no_members)) (0x00 ∷ 0x07 ∷ 0x00 ∷ 0x02 ∷ 0x02 ∷ 0x00 ∷ 0x00 ∷ 0x00 ∷ 0x01 ∷ 0x01 ∷ 0x00 ∷ 0x00 ∷ []) (values (listed (vals_of (whole 1 ∷ whole 1 ∷ [])) ∷ []))
unfolding readings
octets_without_dheader = refl

texts_under_dheader : reads Xcdr2 (structure Final (plain 0 (sequence 0 Discard (str 0)) no_members)) (0x00 ∷ 0x07 ∷ 0x00 ∷ 0x02 ∷ 0x0A ∷ 0x00 ∷ 0x00 ∷ 0x00 ∷ 0x01 ∷ 0x00 ∷ 0x00 ∷ 0x00 ∷ 0x02 ∷ 0x00 ∷ 0x00 ∷ 0x00 ∷ 0x61 ∷ 0x00 ∷ 0x00 ∷ 0x00 ∷ []) (values (listed (vals_of (text (0x61 ∷ []) ∷ [])) ∷ []))
unfolding readings
texts_under_dheader = refl

elements_past_bound_trimmed : reads Xcdr2 (structure Final (tried Trim 0 (sequence 1 Discard long) no_members)) (0x00 ∷ 0x07 ∷ 0x00 ∷ 0x00 ∷ 0x02 ∷ 0x00 ∷ 0x00 ∷ 0x00 ∷ 0x05 ∷ 0x00 ∷ 0x00 ∷ 0x00 ∷ 0x06 ∷ 0x00 ∷ 0x00 ∷ 0x00 ∷ []) (values (listed (vals_of (whole 5 ∷ [])) ∷ []))
unfolding readings
elements_past_bound_trimmed = refl

enumeration_of_four_octets_has_a_sign : reads Xcdr2 (structure Final (plain 0 (enumeration Final 32 (record { hash = 0; value = negsuc 0; is_default = false } ∷ [])) no_members)) (0x00 ∷ 0x07 ∷ 0x00 ∷ 0x00 ∷ 0xFF ∷ 0xFF ∷ 0xFF ∷ 0xFF ∷ []) (values (int (negsuc 0) ∷ []))
unfolding readings
enumeration_of_four_octets_has_a_sign = refl
