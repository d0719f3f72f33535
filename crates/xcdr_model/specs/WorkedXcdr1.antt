-- Worked samples in XCDR1 (DDS-XTypes 1.3, 7.4.1).
use Rattle.std.specs.Prelude.{◌≡◌, pos, [], ◌∷◌, false, Ok, Err}
use Rattle.std.proofs.Common.{refl}
use Rattle.xt_shapes.specs.declared.leaves.Ext.TheVariants.{Final, Appendable, Mutable}
use Rattle.xt_shapes.specs.declared.leaves.Order.TheVariants.{Little}
use Rattle.xt_shapes.specs.declared.leaves.Rep.TheVariants.{Xcdr1}
use Rattle.xt_shapes.specs.Shape.{Shape, structure, union, no_members, no_cases}
use Rattle.xt_shapes.specs.Vals.{union_of, absent, present}
use Rattle.xcdr_model.specs.declared.malformed.Why.TheVariants as whys
use Rattle.xcdr_model.specs.Samples.{value_read}
use Rattle.xcdr_model.specs.Worked.{long, octet, plain, optional, case_of, whole, values, slots, reads, malformed, readings1}
use Rattle.xcdr_model.specs.Projection.{got}
use Rattle.xcdr_model.specs.WorkedSamples.{octet_and_long_long, optional_long}

-- ---- the greatest alignment is 8

aligned_to_8 : reads Xcdr1 octet_and_long_long (0x00 ∷ 0x01 ∷ 0x00 ∷ 0x00 ∷ 0x01 ∷ 0x00 ∷ 0x00 ∷ 0x00 ∷ 0x00 ∷ 0x00 ∷ 0x00 ∷ 0x00 ∷ 0x02 ∷ 0x00 ∷ 0x00 ∷ 0x00 ∷ 0x00 ∷ 0x00 ∷ 0x00 ∷ 0x00 ∷ []) (values (whole 1 ∷ whole 2 ∷ []))
unfolding readings1
aligned_to_8 = refl

-- ---- parameters: an ignored one, a short and an extended header, and the list's end

abbrev pub short_and_extended : Shape
short_and_extended = structure Mutable (plain 0 long (plain 0x0FFFFFFE octet no_members))

both_forms_of_header : reads Xcdr1 short_and_extended (0x00 ∷ 0x03 ∷ 0x00 ∷ 0x00 ∷ 0x03 ∷ 0x3F ∷ 0x04 ∷ 0x00 ∷ 0xAA ∷ 0xBB ∷ 0xCC ∷ 0xDD ∷ 0x00 ∷ 0x00 ∷ 0x04 ∷ 0x00 ∷ 0x07 ∷ 0x00 ∷ 0x00 ∷ 0x00 ∷ 0x01 ∷ 0x7F ∷ 0x08 ∷ 0x00 ∷ 0xFE ∷ 0xFF ∷ 0xFF ∷ 0x0F ∷ 0x01 ∷ 0x00 ∷ 0x00 ∷ 0x00 ∷ 0x05 ∷ 0x00 ∷ 0x00 ∷ 0x00 ∷ 0x02 ∷ 0x7F ∷ 0x00 ∷ 0x00 ∷ []) (values (whole 7 ∷ whole 5 ∷ []))
unfolding readings1
both_forms_of_header = refl

-- ---- an optional member has a header of its own

absent_member : reads Xcdr1 optional_long (0x00 ∷ 0x01 ∷ 0x00 ∷ 0x03 ∷ 0x00 ∷ 0x00 ∷ 0x00 ∷ 0x00 ∷ 0x05 ∷ 0x00 ∷ 0x00 ∷ 0x00 ∷ []) (slots (absent ∷ present (whole 5) ∷ []))
unfolding readings1
absent_member = refl

present_member : reads Xcdr1 optional_long (0x00 ∷ 0x01 ∷ 0x00 ∷ 0x03 ∷ 0x00 ∷ 0x00 ∷ 0x04 ∷ 0x00 ∷ 0x07 ∷ 0x00 ∷ 0x00 ∷ 0x00 ∷ 0x05 ∷ 0x00 ∷ 0x00 ∷ 0x00 ∷ []) (slots (present (whole 7) ∷ present (whole 5) ∷ []))
unfolding readings1
present_member = refl

padding_in_a_closed_content : reads Xcdr1 (structure Final (optional 0 octet (plain 1 octet no_members))) (0x00 ∷ 0x01 ∷ 0x00 ∷ 0x00 ∷ 0x00 ∷ 0x00 ∷ 0x04 ∷ 0x00 ∷ 0x07 ∷ 0x00 ∷ 0x00 ∷ 0x00 ∷ 0x05 ∷ []) (slots (present (whole 7) ∷ present (whole 5) ∷ []))
unfolding readings1
padding_in_a_closed_content = refl

-- ---- an appendable structure as a tail: at the top it ends where the body ends

abbrev two_longs : Shape
two_longs = structure Appendable (plain 0 long (plain 1 long no_members))

shorter_body : reads Xcdr1 two_longs (0x00 ∷ 0x01 ∷ 0x00 ∷ 0x00 ∷ 0x01 ∷ 0x00 ∷ 0x00 ∷ 0x00 ∷ []) (values (whole 1 ∷ whole 0 ∷ []))
unfolding readings1
shorter_body = refl

inner_structure_is_not_cut : malformed Xcdr1 (structure Final (plain 0 two_longs no_members)) (0x00 ∷ 0x01 ∷ 0x00 ∷ 0x00 ∷ 0x01 ∷ 0x00 ∷ 0x00 ∷ 0x00 ∷ []) 8 whys.Short
unfolding readings1
inner_structure_is_not_cut = refl

-- ---- a case has its union's mode, whatever its type

abbrev pub union_by_octet : Shape
union_by_octet = union Final false octet (case_of 0 (pos 1 ∷ []) octet no_cases)

abbrev of_two_longs : Shape
of_two_longs = union Final false octet (case_of 0 (pos 1 ∷ []) two_longs no_cases)

case_is_a_tail : reads Xcdr1 of_two_longs (0x00 ∷ 0x01 ∷ 0x00 ∷ 0x00 ∷ 0x01 ∷ 0x00 ∷ 0x00 ∷ 0x00 ∷ 0x05 ∷ 0x00 ∷ 0x00 ∷ 0x00 ∷ []) (union_of (pos 1) (present (values (whole 5 ∷ whole 0 ∷ []))))
unfolding readings1
case_is_a_tail = refl

-- ---- a value at a place: octets behind it are no fault, except behind a union

octets_behind_a_structure : value_read Xcdr1 Little octet_and_long_long (record { at = 0; rest = 0x01 ∷ 0x00 ∷ 0x00 ∷ 0x00 ∷ 0x00 ∷ 0x00 ∷ 0x00 ∷ 0x00 ∷ 0x02 ∷ 0x00 ∷ 0x00 ∷ 0x00 ∷ 0x00 ∷ 0x00 ∷ 0x00 ∷ 0x00 ∷ 0xFF ∷ [] }) ≡ Ok ((got (values (whole 1 ∷ whole 2 ∷ [])), false), record { at = 16; rest = 0xFF ∷ [] })
unfolding readings1
octets_behind_a_structure = refl

octets_behind_a_union : value_read Xcdr1 Little union_by_octet (record { at = 0; rest = 0x01 ∷ 0x09 ∷ 0xFF ∷ [] }) ≡ Err (record { at = 2; why = whys.Trailing })
unfolding readings1
octets_behind_a_union = refl
