-- Malformed samples: the first fault in reading order, with its place in the sample (DDS-XTypes 1.3, 7.4; which is first is this profile's own).
use Rattle.std.specs.Prelude.{[], ◌∷◌}
use Rattle.std.proofs.Common.{refl}
use Rattle.xt_shapes.specs.declared.leaves.Ext.TheVariants.{Final, Mutable}
use Rattle.xt_shapes.specs.declared.leaves.Primitive.TheVariants as prims
use Rattle.xt_shapes.specs.declared.leaves.Rep.TheVariants.{Xcdr1, Xcdr2}
use Rattle.xt_shapes.specs.declared.leaves.Try.TheVariants.{Discard}
use Rattle.xt_shapes.specs.Shape.{prim, str, bitmask, sequence, structure, no_members}
use Rattle.xcdr_model.specs.declared.malformed.Why.TheVariants as whys
use Rattle.xcdr_model.specs.Worked.{long, plain, optional, flag, malformed, readings, readings1}
use Rattle.xcdr_model.specs.WorkedSamples.{one_long, shorter, member_five, octet_and_long_long, optional_long, by_number}
use Rattle.xcdr_model.specs.WorkedXcdr1.{short_and_extended, union_by_octet}

-- ---- encapsulation

cut_in_the_head : malformed Xcdr2 one_long (0x00 ∷ 0x07 ∷ 0x00 ∷ []) 0 whys.Encapsulation
unfolding readings
cut_in_the_head = refl

no_octets : malformed Xcdr2 one_long [] 0 whys.Encapsulation
unfolding readings
no_octets = refl

identifier_of_an_appendable_type : malformed Xcdr2 one_long (0x00 ∷ 0x09 ∷ 0x00 ∷ 0x00 ∷ 0x01 ∷ 0x00 ∷ 0x00 ∷ 0x00 ∷ []) 0 whys.Encapsulation
unfolding readings
identifier_of_an_appendable_type = refl

more_padding_than_body : malformed Xcdr2 one_long (0x00 ∷ 0x07 ∷ 0x00 ∷ 0x03 ∷ 0x01 ∷ 0x00 ∷ []) 2 whys.Encapsulation
unfolding readings
more_padding_than_body = refl

-- ---- octets that run out

cut_in_a_number : malformed Xcdr2 one_long (0x00 ∷ 0x07 ∷ 0x00 ∷ 0x00 ∷ 0x01 ∷ 0x00 ∷ 0x00 ∷ []) 4 whys.Short
unfolding readings
cut_in_a_number = refl

cut_before_a_number : malformed Xcdr2 one_long (0x00 ∷ 0x07 ∷ 0x00 ∷ 0x00 ∷ []) 4 whys.Short
unfolding readings
cut_before_a_number = refl

elements_run_out : malformed Xcdr2 (structure Final (plain 0 (sequence 0 Discard long) no_members)) (0x00 ∷ 0x07 ∷ 0x00 ∷ 0x00 ∷ 0xFF ∷ 0xFF ∷ 0xFF ∷ 0xFF ∷ 0x01 ∷ 0x00 ∷ 0x00 ∷ 0x00 ∷ []) 12 whys.Short
unfolding readings
elements_run_out = refl

text_runs_out : malformed Xcdr2 (structure Final (plain 0 (str 0) no_members)) (0x00 ∷ 0x07 ∷ 0x00 ∷ 0x00 ∷ 0x08 ∷ 0x00 ∷ 0x00 ∷ 0x00 ∷ 0x61 ∷ 0x00 ∷ 0x00 ∷ 0x00 ∷ []) 8 whys.Short
unfolding readings
text_runs_out = refl

padding_runs_out : malformed Xcdr2 octet_and_long_long (0x00 ∷ 0x07 ∷ 0x00 ∷ 0x00 ∷ 0x01 ∷ 0x00 ∷ []) 6 whys.Short
unfolding readings
padding_runs_out = refl

-- ---- single values

boolean_two : malformed Xcdr2 (structure Final (plain 0 (prim prims.Boolean) no_members)) (0x00 ∷ 0x07 ∷ 0x00 ∷ 0x00 ∷ 0x02 ∷ []) 4 whys.Boolean
unfolding readings
boolean_two = refl

presence_two : malformed Xcdr2 optional_long (0x00 ∷ 0x07 ∷ 0x00 ∷ 0x00 ∷ 0x02 ∷ 0x05 ∷ []) 4 whys.Boolean
unfolding readings
presence_two = refl

text_with_count_0 : malformed Xcdr2 (structure Final (plain 0 (str 0) no_members)) (0x00 ∷ 0x07 ∷ 0x00 ∷ 0x00 ∷ 0x00 ∷ 0x00 ∷ 0x00 ∷ 0x00 ∷ []) 4 whys.Str
unfolding readings
text_with_count_0 = refl

text_with_early_nul : malformed Xcdr2 (structure Final (plain 0 (str 0) no_members)) (0x00 ∷ 0x07 ∷ 0x00 ∷ 0x00 ∷ 0x02 ∷ 0x00 ∷ 0x00 ∷ 0x00 ∷ 0x00 ∷ 0x00 ∷ []) 4 whys.Str
unfolding readings
text_with_early_nul = refl

text_without_nul : malformed Xcdr2 (structure Final (plain 0 (str 0) no_members)) (0x00 ∷ 0x07 ∷ 0x00 ∷ 0x00 ∷ 0x02 ∷ 0x00 ∷ 0x00 ∷ 0x00 ∷ 0x61 ∷ 0x62 ∷ []) 4 whys.Str
unfolding readings
text_without_nul = refl

bit_past_the_bound : malformed Xcdr2 (structure Final (plain 0 (bitmask 3 (flag 0 ∷ flag 1 ∷ flag 2 ∷ [])) no_members)) (0x00 ∷ 0x07 ∷ 0x00 ∷ 0x00 ∷ 0x08 ∷ []) 4 whys.Mask
unfolding readings
bit_past_the_bound = refl

-- ---- regions and headers

dheader_past_the_region : malformed Xcdr2 shorter (0x00 ∷ 0x09 ∷ 0x00 ∷ 0x00 ∷ 0x05 ∷ 0x00 ∷ 0x00 ∷ 0x00 ∷ 0x01 ∷ 0x00 ∷ 0x00 ∷ 0x00 ∷ []) 4 whys.Dheader
unfolding readings
dheader_past_the_region = refl

member_past_the_region : malformed Xcdr2 member_five (0x00 ∷ 0x0B ∷ 0x00 ∷ 0x00 ∷ 0x08 ∷ 0x00 ∷ 0x00 ∷ 0x00 ∷ 0x05 ∷ 0x00 ∷ 0x00 ∷ 0x30 ∷ 0x07 ∷ 0x00 ∷ 0x00 ∷ 0x00 ∷ []) 8 whys.MemberSize
unfolding readings
member_past_the_region = refl

member_not_used_up : malformed Xcdr2 member_five (0x00 ∷ 0x0B ∷ 0x00 ∷ 0x00 ∷ 0x10 ∷ 0x00 ∷ 0x00 ∷ 0x00 ∷ 0x05 ∷ 0x00 ∷ 0x00 ∷ 0x40 ∷ 0x08 ∷ 0x00 ∷ 0x00 ∷ 0x00 ∷ 0x07 ∷ 0x00 ∷ 0x00 ∷ 0x00 ∷ 0x00 ∷ 0x00 ∷ 0x00 ∷ 0x00 ∷ []) 20 whys.LengthRest
unfolding readings
member_not_used_up = refl

member_twice : malformed Xcdr2 member_five (0x00 ∷ 0x0B ∷ 0x00 ∷ 0x00 ∷ 0x10 ∷ 0x00 ∷ 0x00 ∷ 0x00 ∷ 0x05 ∷ 0x00 ∷ 0x00 ∷ 0x20 ∷ 0x07 ∷ 0x00 ∷ 0x00 ∷ 0x00 ∷ 0x05 ∷ 0x00 ∷ 0x00 ∷ 0x20 ∷ 0x08 ∷ 0x00 ∷ 0x00 ∷ 0x00 ∷ []) 16 whys.Twice
unfolding readings
member_twice = refl

id_that_none_has : malformed Xcdr2 member_five (0x00 ∷ 0x0B ∷ 0x00 ∷ 0x00 ∷ 0x08 ∷ 0x00 ∷ 0x00 ∷ 0x00 ∷ 0xFF ∷ 0xFF ∷ 0xFF ∷ 0x2F ∷ 0x07 ∷ 0x00 ∷ 0x00 ∷ 0x00 ∷ []) 8 whys.MemberId
unfolding readings
id_that_none_has = refl

next_count_runs_out : malformed Xcdr2 member_five (0x00 ∷ 0x0B ∷ 0x00 ∷ 0x00 ∷ 0x06 ∷ 0x00 ∷ 0x00 ∷ 0x00 ∷ 0x05 ∷ 0x00 ∷ 0x00 ∷ 0x40 ∷ 0x07 ∷ 0x00 ∷ []) 12 whys.Short
unfolding readings
next_count_runs_out = refl

case_not_used_up : malformed Xcdr2 by_number (0x00 ∷ 0x09 ∷ 0x00 ∷ 0x00 ∷ 0x09 ∷ 0x00 ∷ 0x00 ∷ 0x00 ∷ 0x02 ∷ 0x00 ∷ 0x00 ∷ 0x00 ∷ 0x07 ∷ 0x00 ∷ 0x00 ∷ 0x00 ∷ 0x00 ∷ []) 13 whys.LengthRest
unfolding readings
case_not_used_up = refl

octets_behind_the_value : malformed Xcdr2 one_long (0x00 ∷ 0x07 ∷ 0x00 ∷ 0x00 ∷ 0x01 ∷ 0x00 ∷ 0x00 ∷ 0x00 ∷ 0x02 ∷ 0x00 ∷ 0x00 ∷ 0x00 ∷ []) 8 whys.Trailing
unfolding readings
octets_behind_the_value = refl

-- ---- parameters of XCDR1

list_without_end : malformed Xcdr1 short_and_extended (0x00 ∷ 0x03 ∷ 0x00 ∷ 0x00 ∷ 0x03 ∷ 0x3F ∷ 0x04 ∷ 0x00 ∷ 0xAA ∷ 0xBB ∷ 0xCC ∷ 0xDD ∷ 0x00 ∷ 0x00 ∷ 0x04 ∷ 0x00 ∷ 0x07 ∷ 0x00 ∷ 0x00 ∷ 0x00 ∷ 0x01 ∷ 0x7F ∷ 0x08 ∷ 0x00 ∷ 0xFE ∷ 0xFF ∷ 0xFF ∷ 0x0F ∷ 0x01 ∷ 0x00 ∷ 0x00 ∷ 0x00 ∷ 0x05 ∷ 0x00 ∷ 0x00 ∷ 0x00 ∷ []) 36 whys.Short
unfolding readings1
list_without_end = refl

extended_header_of_length_4 : malformed Xcdr1 short_and_extended (0x00 ∷ 0x03 ∷ 0x00 ∷ 0x00 ∷ 0x01 ∷ 0x3F ∷ 0x04 ∷ 0x00 ∷ 0x00 ∷ 0x00 ∷ 0x00 ∷ 0x00 ∷ 0x04 ∷ 0x00 ∷ 0x00 ∷ 0x00 ∷ 0x07 ∷ 0x00 ∷ 0x00 ∷ 0x00 ∷ 0x02 ∷ 0x7F ∷ 0x00 ∷ 0x00 ∷ []) 4 whys.Parameter
unfolding readings1
extended_header_of_length_4 = refl

-- An extended header is tried as 12 octets, whatever its length says.
extended_header_is_cut : malformed Xcdr1 short_and_extended (0x00 ∷ 0x03 ∷ 0x00 ∷ 0x00 ∷ 0x01 ∷ 0x3F ∷ 0x04 ∷ 0x00 ∷ []) 4 whys.Short
unfolding readings1
extended_header_is_cut = refl

reserved_short_id : malformed Xcdr1 short_and_extended (0x00 ∷ 0x03 ∷ 0x00 ∷ 0x00 ∷ 0x04 ∷ 0x3F ∷ 0x00 ∷ 0x00 ∷ []) 4 whys.MemberId
unfolding readings1
reserved_short_id = refl

ignored_past_the_region : malformed Xcdr1 short_and_extended (0x00 ∷ 0x03 ∷ 0x00 ∷ 0x00 ∷ 0x03 ∷ 0x3F ∷ 0x08 ∷ 0x00 ∷ 0xAA ∷ 0xBB ∷ 0xCC ∷ 0xDD ∷ []) 4 whys.MemberSize
unfolding readings1
ignored_past_the_region = refl

header_of_another_member : malformed Xcdr1 optional_long (0x00 ∷ 0x01 ∷ 0x00 ∷ 0x00 ∷ 0x01 ∷ 0x00 ∷ 0x00 ∷ 0x00 ∷ 0x05 ∷ []) 4 whys.Parameter
unfolding readings1
header_of_another_member = refl

list_end_for_an_optional_member : malformed Xcdr1 (structure Final (optional 0x3F02 long no_members)) (0x00 ∷ 0x01 ∷ 0x00 ∷ 0x00 ∷ 0x02 ∷ 0x3F ∷ 0x00 ∷ 0x00 ∷ []) 4 whys.Parameter
unfolding readings1
list_end_for_an_optional_member = refl

reserved_id_of_an_optional_member : malformed Xcdr1 (structure Final (optional 0x3F04 long no_members)) (0x00 ∷ 0x01 ∷ 0x00 ∷ 0x00 ∷ 0x04 ∷ 0x3F ∷ 0x00 ∷ 0x00 ∷ []) 4 whys.MemberId
unfolding readings1
reserved_id_of_an_optional_member = refl

octets_behind_a_case : malformed Xcdr1 union_by_octet (0x00 ∷ 0x01 ∷ 0x00 ∷ 0x00 ∷ 0x01 ∷ 0x09 ∷ 0x00 ∷ []) 6 whys.Trailing
unfolding readings1
octets_behind_a_case = refl

octets_behind_a_case_in_a_parameter : malformed Xcdr1 (structure Mutable (plain 0 union_by_octet no_members)) (0x00 ∷ 0x03 ∷ 0x00 ∷ 0x00 ∷ 0x00 ∷ 0x00 ∷ 0x04 ∷ 0x00 ∷ 0x01 ∷ 0x09 ∷ 0x00 ∷ 0x00 ∷ 0x02 ∷ 0x7F ∷ 0x00 ∷ 0x00 ∷ []) 10 whys.LengthRest
unfolding readings1
octets_behind_a_case_in_a_parameter = refl
