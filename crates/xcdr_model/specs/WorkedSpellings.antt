-- Worked samples as they are written (DDS-XTypes 1.3, 7.4).
use Rattle.std.specs.Prelude.{◌≡◌, pos, [], ◌∷◌, true, false}
use Rattle.std.proofs.Common.{refl}
use Rattle.xt_shapes.specs.declared.leaves.Ext.TheVariants.{Final, Mutable}
use Rattle.xt_shapes.specs.declared.leaves.Order.TheVariants.{Big, Little}
use Rattle.xt_shapes.specs.declared.leaves.Rep.TheVariants.{Xcdr1, Xcdr2}
use Rattle.xt_shapes.specs.Shape.{structure, no_members}
use Rattle.xt_shapes.specs.Vals.{union_of, absent, present}
use Rattle.xcdr_model.specs.Worked.{long, octet, must, whole, values, slots, spellings}
use Rattle.xcdr_model.specs.SampleSpelling.{fixed_sample}
use Rattle.xcdr_model.specs.WorkedSamples.{one_long, longer, member_five, octet_and_long_long, optional_long, by_number}
use Rattle.xcdr_model.specs.WorkedXcdr1.{short_and_extended}

one_member : fixed_sample Xcdr2 Little one_long (values (whole 1 ∷ [])) ≡ 0x00 ∷ 0x07 ∷ 0x00 ∷ 0x00 ∷ 0x01 ∷ 0x00 ∷ 0x00 ∷ 0x00 ∷ []
unfolding spellings
one_member = refl

one_member_big_endian : fixed_sample Xcdr2 Big one_long (values (whole 1 ∷ [])) ≡ 0x00 ∷ 0x06 ∷ 0x00 ∷ 0x00 ∷ 0x00 ∷ 0x00 ∷ 0x00 ∷ 0x01 ∷ []
unfolding spellings
one_member_big_endian = refl

aligned_to_4 : fixed_sample Xcdr2 Little octet_and_long_long (values (whole 1 ∷ whole 2 ∷ [])) ≡ 0x00 ∷ 0x07 ∷ 0x00 ∷ 0x00 ∷ 0x01 ∷ 0x00 ∷ 0x00 ∷ 0x00 ∷ 0x02 ∷ 0x00 ∷ 0x00 ∷ 0x00 ∷ 0x00 ∷ 0x00 ∷ 0x00 ∷ 0x00 ∷ []
unfolding spellings
aligned_to_4 = refl

aligned_to_8 : fixed_sample Xcdr1 Little octet_and_long_long (values (whole 1 ∷ whole 2 ∷ [])) ≡ 0x00 ∷ 0x01 ∷ 0x00 ∷ 0x00 ∷ 0x01 ∷ 0x00 ∷ 0x00 ∷ 0x00 ∷ 0x00 ∷ 0x00 ∷ 0x00 ∷ 0x00 ∷ 0x02 ∷ 0x00 ∷ 0x00 ∷ 0x00 ∷ 0x00 ∷ 0x00 ∷ 0x00 ∷ 0x00 ∷ []
unfolding spellings
aligned_to_8 = refl

appendable_under_dheader : fixed_sample Xcdr2 Little longer (values (whole 1 ∷ whole 2 ∷ [])) ≡ 0x00 ∷ 0x09 ∷ 0x00 ∷ 0x03 ∷ 0x05 ∷ 0x00 ∷ 0x00 ∷ 0x00 ∷ 0x01 ∷ 0x00 ∷ 0x00 ∷ 0x00 ∷ 0x02 ∷ 0x00 ∷ 0x00 ∷ 0x00 ∷ []
unfolding spellings
appendable_under_dheader = refl

member_under_header : fixed_sample Xcdr2 Little member_five (values (whole 7 ∷ [])) ≡ 0x00 ∷ 0x0B ∷ 0x00 ∷ 0x00 ∷ 0x08 ∷ 0x00 ∷ 0x00 ∷ 0x00 ∷ 0x05 ∷ 0x00 ∷ 0x00 ∷ 0x20 ∷ 0x07 ∷ 0x00 ∷ 0x00 ∷ 0x00 ∷ []
unfolding spellings
member_under_header = refl

absent_in_xcdr2 : fixed_sample Xcdr2 Little optional_long (slots (absent ∷ present (whole 5) ∷ [])) ≡ 0x00 ∷ 0x07 ∷ 0x00 ∷ 0x02 ∷ 0x00 ∷ 0x05 ∷ 0x00 ∷ 0x00 ∷ []
unfolding spellings
absent_in_xcdr2 = refl

present_in_xcdr2 : fixed_sample Xcdr2 Little optional_long (slots (present (whole 7) ∷ present (whole 5) ∷ [])) ≡ 0x00 ∷ 0x07 ∷ 0x00 ∷ 0x03 ∷ 0x01 ∷ 0x00 ∷ 0x00 ∷ 0x00 ∷ 0x07 ∷ 0x00 ∷ 0x00 ∷ 0x00 ∷ 0x05 ∷ 0x00 ∷ 0x00 ∷ 0x00 ∷ []
unfolding spellings
present_in_xcdr2 = refl

absent_in_xcdr1 : fixed_sample Xcdr1 Little optional_long (slots (absent ∷ present (whole 5) ∷ [])) ≡ 0x00 ∷ 0x01 ∷ 0x00 ∷ 0x03 ∷ 0x00 ∷ 0x00 ∷ 0x00 ∷ 0x00 ∷ 0x05 ∷ 0x00 ∷ 0x00 ∷ 0x00 ∷ []
unfolding spellings
absent_in_xcdr1 = refl

present_in_xcdr1 : fixed_sample Xcdr1 Little optional_long (slots (present (whole 7) ∷ present (whole 5) ∷ [])) ≡ 0x00 ∷ 0x01 ∷ 0x00 ∷ 0x03 ∷ 0x00 ∷ 0x00 ∷ 0x04 ∷ 0x00 ∷ 0x07 ∷ 0x00 ∷ 0x00 ∷ 0x00 ∷ 0x05 ∷ 0x00 ∷ 0x00 ∷ 0x00 ∷ []
unfolding spellings
present_in_xcdr1 = refl

-- The list end is aligned, so that no padding is counted.
both_forms_of_header : fixed_sample Xcdr1 Little short_and_extended (values (whole 7 ∷ whole 5 ∷ [])) ≡ 0x00 ∷ 0x03 ∷ 0x00 ∷ 0x00 ∷ 0x00 ∷ 0x00 ∷ 0x04 ∷ 0x00 ∷ 0x07 ∷ 0x00 ∷ 0x00 ∷ 0x00 ∷ 0x01 ∷ 0x7F ∷ 0x08 ∷ 0x00 ∷ 0xFE ∷ 0xFF ∷ 0xFF ∷ 0x0F ∷ 0x01 ∷ 0x00 ∷ 0x00 ∷ 0x00 ∷ 0x05 ∷ 0x00 ∷ 0x00 ∷ 0x00 ∷ 0x02 ∷ 0x7F ∷ 0x00 ∷ 0x00 ∷ []
unfolding spellings
both_forms_of_header = refl

marked_where_it_must_be_understood : fixed_sample Xcdr2 Little (structure Mutable (must false 1 octet no_members)) (values (whole 9 ∷ [])) ≡ 0x00 ∷ 0x0B ∷ 0x00 ∷ 0x03 ∷ 0x05 ∷ 0x00 ∷ 0x00 ∷ 0x00 ∷ 0x01 ∷ 0x00 ∷ 0x00 ∷ 0x80 ∷ 0x09 ∷ 0x00 ∷ 0x00 ∷ 0x00 ∷ []
unfolding spellings
marked_where_it_must_be_understood = refl

-- In XCDR1 the header of an absent member is marked as well.
marked_where_absent : fixed_sample Xcdr1 Little (structure Final (must true 1 long no_members)) (slots (absent ∷ [])) ≡ 0x00 ∷ 0x01 ∷ 0x00 ∷ 0x00 ∷ 0x01 ∷ 0x40 ∷ 0x00 ∷ 0x00 ∷ []
unfolding spellings
marked_where_absent = refl

no_case : fixed_sample Xcdr2 Little by_number (union_of (pos 3) absent) ≡ 0x00 ∷ 0x09 ∷ 0x00 ∷ 0x00 ∷ 0x04 ∷ 0x00 ∷ 0x00 ∷ 0x00 ∷ 0x03 ∷ 0x00 ∷ 0x00 ∷ 0x00 ∷ []
unfolding spellings
no_case = refl
