-- Worked projections: what a reader of the first type makes of a value of the second (DDS-XTypes 1.3, 7.2.4.1 and 7.2.2.7).
use Rattle.std.specs.Prelude.{◌≡◌, pos, [], ◌∷◌, true, false, Some, None}
use Rattle.std.proofs.Common.{refl}
use Rattle.xt_shapes.specs.declared.leaves.Ext.TheVariants.{Final, Appendable, Mutable}
use Rattle.xt_shapes.specs.declared.leaves.Primitive.TheVariants as prims
use Rattle.xt_shapes.specs.declared.leaves.Try.TheVariants.{Discard, UseDefault, Trim}
use Rattle.xt_shapes.specs.Shape.{prim, str, structure, union, no_members, no_cases}
use Rattle.xt_shapes.specs.Vals.{text, union_of, absent, present}
use Rattle.xcdr_model.specs.Samples.{sample, discarded, must_understand, projection}
use Rattle.xcdr_model.specs.Worked.{long, octet, plain, tried, must, case_of, whole, values, slots}
use Rattle.xcdr_model.specs.Projection.{over, settled, projected}
use Rattle.xcdr_model.specs.WorkedSamples.{bounded_text, longer, shorter, member_one, by_number}

-- ---- settling a text that is over its bound

over_trimmed : settled Trim (text []) (λ v. v) (over (text (0x61 ∷ 0x62 ∷ 0x63 ∷ []))) ≡ Some (text (0x61 ∷ 0x62 ∷ 0x63 ∷ []))
over_trimmed = refl

over_default : settled UseDefault (text []) (λ v. v) (over (text (0x61 ∷ 0x62 ∷ 0x63 ∷ []))) ≡ Some (text [])
over_default = refl

over_discarded : settled Discard (text []) (λ v. v) (over (text (0x61 ∷ 0x62 ∷ 0x63 ∷ []))) ≡ None
over_discarded = refl

text_discarded : projection (bounded_text Discard) (structure Final (plain 0 (str 8) no_members)) (values (text (0x61 ∷ 0x62 ∷ 0x63 ∷ 0x64 ∷ 0x65 ∷ 0x66 ∷ []) ∷ [])) ≡ discarded
unfolding projected
text_discarded = refl

text_default : projection (bounded_text UseDefault) (structure Final (plain 0 (str 8) no_members)) (values (text (0x61 ∷ 0x62 ∷ 0x63 ∷ 0x64 ∷ 0x65 ∷ 0x66 ∷ []) ∷ [])) ≡ sample (values (text [] ∷ []))
unfolding projected
text_default = refl

text_trimmed : projection (bounded_text Trim) (structure Final (plain 0 (str 8) no_members)) (values (text (0x61 ∷ 0x62 ∷ 0x63 ∷ 0x64 ∷ 0x65 ∷ 0x66 ∷ []) ∷ [])) ≡ sample (values (text (0x61 ∷ 0x62 ∷ 0x63 ∷ []) ∷ []))
unfolding projected
text_trimmed = refl

-- ---- members that one side lacks

reader_lacks_a_member : projection shorter longer (values (whole 1 ∷ whole 2 ∷ [])) ≡ sample (values (whole 1 ∷ []))
unfolding projected
reader_lacks_a_member = refl

writer_lacks_a_member : projection longer shorter (values (whole 1 ∷ [])) ≡ sample (values (whole 1 ∷ whole 0 ∷ []))
unfolding projected
writer_lacks_a_member = refl

reader_lacks_what_must_be_understood : projection member_one (structure Mutable (plain 1 long (must true 5 long no_members))) (slots (present (whole 9) ∷ present (whole 7) ∷ [])) ≡ must_understand
unfolding projected
reader_lacks_what_must_be_understood = refl

absent_needs_no_understanding : projection member_one (structure Mutable (plain 1 long (must true 5 long no_members))) (slots (present (whole 9) ∷ absent ∷ [])) ≡ sample (values (whole 9 ∷ []))
unfolding projected
absent_needs_no_understanding = refl

-- ---- different kinds fail: two primitives that differ, also as discriminators

short_from_long : projection (structure Final (plain 0 (prim prims.Int16) no_members)) (structure Final (plain 0 long no_members)) (values (whole 1 ∷ [])) ≡ discarded
unfolding projected
short_from_long = refl

short_from_long_default : projection (structure Final (tried UseDefault 0 (prim prims.Int16) no_members)) (structure Final (plain 0 long no_members)) (values (whole 1 ∷ [])) ≡ sample (values (whole 0 ∷ []))
unfolding projected
short_from_long_default = refl

discriminator_of_another_kind : projection (union Final false octet (case_of 0 (pos 0 ∷ []) long no_cases)) (union Final false (prim prims.Char8) (case_of 0 (pos 0 ∷ []) long no_cases)) (union_of (pos 0) (present (whole 5))) ≡ discarded
unfolding projected
discriminator_of_another_kind = refl

-- ---- unions: a case that one side alone selects

selected_by_the_writer_alone : projection (union Appendable false long (case_of 0 (pos 1 ∷ []) long no_cases)) by_number (union_of (pos 2) (present (whole 9))) ≡ discarded
unfolding projected
selected_by_the_writer_alone = refl

selected_by_neither : projection (union Appendable false long (case_of 0 (pos 1 ∷ []) long no_cases)) by_number (union_of (pos 3) absent) ≡ sample (union_of (pos 3) absent)
unfolding projected
selected_by_neither = refl
