-- A pose of a vehicle that grows by an optional mode: assignable in both directions, and each reads the other's samples (DDS-XTypes 1.3, 7.2.4).
use Rattle.std.specs.Prelude.{◌≡◌, ℕ, List, [], ◌∷◌, ◌++◌, None, Ok, map, length, take, drop, replicate}
use Rattle.std.proofs.Common.{refl}
use Rattle.xt_shapes.specs.declared.leaves.Ext.TheVariants.{Final, Appendable, Mutable}
use Rattle.xt_shapes.specs.declared.leaves.Order.TheVariants.{Little}
use Rattle.xt_shapes.specs.declared.leaves.Primitive.TheVariants as prims
use Rattle.xt_shapes.specs.declared.leaves.Rep.TheVariants.{Xcdr1, Xcdr2}
use Rattle.xt_shapes.specs.declared.leaves.Try.TheVariants.{Discard}
use Rattle.xt_shapes.specs.Shape.{Shape, prim, str, enumeration, array, structure, Members, no_members}
use Rattle.xt_shapes.specs.Vals.{Val, text, listed, absent, present, vals_of}
use Rattle.xcdr_model.specs.Samples.{sample, read_sample}
use Rattle.xcdr_model.specs.Worked.{long, plain, keyed, optional, literal, whole, values, slots, readings, spellings, verdicts}
use Rattle.xcdr_model.specs.Policies.{standard}
use Rattle.xcdr_model.specs.Failure.{first_failure}
use Rattle.xcdr_model.specs.SampleSpelling.{fixed_sample}

abbrev double : Shape
double = prim prims.Float64

abbrev stamp : Shape
stamp = structure Final (plain 0 long (plain 1 (prim prims.Uint32) no_members))

abbrev header : Shape
header = structure Final (plain 0 stamp (plain 1 (str 0) no_members))

abbrev point : Shape
point = structure Final (plain 0 double (plain 1 double (plain 2 double no_members)))

abbrev with_more : Members → Shape
with_more ms = structure Mutable (keyed 1 (str 32) (plain 2 header (plain 3 point (plain 4 (array (36 ∷ []) Discard double) ms))))

abbrev pose : Shape
pose = with_more no_members

abbrev mode : Shape
mode = enumeration Appendable 32 (literal 0 ∷ literal 1 ∷ [])

abbrev pose_with_mode : Shape
pose_with_mode = with_more (optional 5 mode no_members)

pose_from_newer_xcdr1 : first_failure standard Xcdr1 pose pose_with_mode ≡ None
unfolding verdicts
pose_from_newer_xcdr1 = refl

pose_from_newer_xcdr2 : first_failure standard Xcdr2 pose pose_with_mode ≡ None
unfolding verdicts
pose_from_newer_xcdr2 = refl

newer_from_pose_xcdr1 : first_failure standard Xcdr1 pose_with_mode pose ≡ None
unfolding verdicts
newer_from_pose_xcdr1 = refl

newer_from_pose_xcdr2 : first_failure standard Xcdr2 pose_with_mode pose ≡ None
unfolding verdicts
newer_from_pose_xcdr2 = refl

-- ---- vehicle car-7 at 4 s 5 ns in frame map, with zeros else

abbrev zeros : ℕ → Val
zeros n = listed (vals_of (replicate n (whole 0)))

abbrev parts : List Val
parts = text (0x63 ∷ 0x61 ∷ 0x72 ∷ 0x2D ∷ 0x37 ∷ []) ∷ values (values (whole 4 ∷ whole 5 ∷ []) ∷ text (0x6D ∷ 0x61 ∷ 0x70 ∷ []) ∷ []) ∷ values (whole 0 ∷ whole 0 ∷ whole 0 ∷ []) ∷ zeros 36 ∷ []

abbrev car : Val
car = values parts

abbrev automatic : Val
automatic = values (parts ++ whole 1 ∷ [])

abbrev without_mode : Val
without_mode = slots (map present parts ++ absent ∷ [])

size_of_pose : length (fixed_sample Xcdr2 Little pose car) ≡ 380
unfolding spellings
size_of_pose = refl

-- 372
dheader_of_pose : take 4 (drop 4 (fixed_sample Xcdr2 Little pose car)) ≡ 0x74 ∷ 0x01 ∷ 0x00 ∷ 0x00 ∷ []
unfolding spellings
dheader_of_pose = refl

size_with_mode : length (fixed_sample Xcdr2 Little pose_with_mode automatic) ≡ 388
unfolding spellings
size_with_mode = refl

-- 380
dheader_with_mode : take 4 (drop 4 (fixed_sample Xcdr2 Little pose_with_mode automatic)) ≡ 0x7C ∷ 0x01 ∷ 0x00 ∷ 0x00 ∷ []
unfolding spellings
dheader_with_mode = refl

newer_reads_pose : read_sample Xcdr2 pose_with_mode (fixed_sample Xcdr2 Little pose car) ≡ Ok (sample without_mode)
unfolding spellings readings
newer_reads_pose = refl

pose_reads_newer : read_sample Xcdr2 pose (fixed_sample Xcdr2 Little pose_with_mode automatic) ≡ Ok (sample car)
unfolding spellings readings
pose_reads_newer = refl
