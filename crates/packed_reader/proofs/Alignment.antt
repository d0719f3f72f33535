-- Places that are aligned to a primitive (DDS-XTypes 1.3, 7.4.1.1 and 7.4.3.2): in XCDR2 at most to 4.
use Rattle.std.proofs.Common.{◌≡◌, ℕ, ◌+◌, ◌*◌, ◌/◌, ◌<◌, ◌≤◌, min, arith}
use Rattle.std.proofs.Math.Nat.{div-mul-le_self, mul-le-mul_right}
use Rattle.xt_shapes.specs.declared.leaves.Primitive.{Primitive}
use Rattle.xt_shapes.specs.declared.leaves.Primitive.TheVariants as prims
use Rattle.xt_shapes.specs.declared.leaves.Rep.{Rep}
use Rattle.xt_shapes.specs.declared.leaves.Rep.TheVariants.{Xcdr1, Xcdr2}
use Rattle.xt_shapes.specs.Sizes.{size}
use Rattle.xcdr_model.specs.Numbers.{padding}
use Rattle.packed_reader.specs.Reads.{most}

of_one : (at : ℕ) → padding 1 at ≡ 0
unfolding padding
of_one at = omega arith

of_two : (at : ℕ) → padding 2 at ≡ 0 → padding 2 (at + 2) ≡ 0
unfolding padding
of_two at e = omega arith

of_four : (at : ℕ) → padding 4 at ≡ 0 → padding 4 (at + 4) ≡ 0
unfolding padding
of_four at e = omega arith

of_eight : (at : ℕ) → padding 4 at ≡ 0 → padding 4 (at + 8) ≡ 0
unfolding padding
of_eight at e = omega arith

of_eights : (at : ℕ) → padding 8 at ≡ 0 → padding 8 (at + 8) ≡ 0
unfolding padding
of_eights at e = omega arith

aligned_four : (p : Primitive) (at : ℕ) → padding (min (size p) 4) at ≡ 0 → padding (min (size p) 4) (at + size p) ≡ 0
aligned_four prims.Boolean at e = of_one (at + 1)
aligned_four prims.Byte at e = of_one (at + 1)
aligned_four prims.Int8 at e = of_one (at + 1)
aligned_four prims.Uint8 at e = of_one (at + 1)
aligned_four prims.Int16 at e = of_two at e
aligned_four prims.Uint16 at e = of_two at e
aligned_four prims.Int32 at e = of_four at e
aligned_four prims.Uint32 at e = of_four at e
aligned_four prims.Int64 at e = of_eight at e
aligned_four prims.Uint64 at e = of_eight at e
aligned_four prims.Float32 at e = of_four at e
aligned_four prims.Float64 at e = of_eight at e
aligned_four prims.Char8 at e = of_one (at + 1)

aligned_eight : (p : Primitive) (at : ℕ) → padding (min (size p) 8) at ≡ 0 → padding (min (size p) 8) (at + size p) ≡ 0
aligned_eight prims.Boolean at e = of_one (at + 1)
aligned_eight prims.Byte at e = of_one (at + 1)
aligned_eight prims.Int8 at e = of_one (at + 1)
aligned_eight prims.Uint8 at e = of_one (at + 1)
aligned_eight prims.Int16 at e = of_two at e
aligned_eight prims.Uint16 at e = of_two at e
aligned_eight prims.Int32 at e = of_four at e
aligned_eight prims.Uint32 at e = of_four at e
aligned_eight prims.Int64 at e = of_eights at e
aligned_eight prims.Uint64 at e = of_eights at e
aligned_eight prims.Float32 at e = of_four at e
aligned_eight prims.Float64 at e = of_eights at e
aligned_eight prims.Char8 at e = of_one (at + 1)

pub aligned_more : (r : Rep) (p : Primitive) (at : ℕ) → padding (min (size p) (most r)) at ≡ 0 → padding (min (size p) (most r)) (at + size p) ≡ 0
aligned_more Xcdr1 p at e = aligned_eight p at e
aligned_more Xcdr2 p at e = aligned_four p at e

after_one : (at : ℕ) → padding 1 (at + padding 1 at) ≡ 0
after_one at = of_one (at + padding 1 at)

after_two : (at : ℕ) → padding 2 (at + padding 2 at) ≡ 0
unfolding padding
after_two at = omega arith

after_four : (at : ℕ) → padding 4 (at + padding 4 at) ≡ 0
unfolding padding
after_four at = omega arith

after_eight : (at : ℕ) → padding 8 (at + padding 8 at) ≡ 0
unfolding padding
after_eight at = omega arith

after_fours : (p : Primitive) (at : ℕ) → padding (min (size p) 4) (at + padding (min (size p) 4) at) ≡ 0
after_fours prims.Boolean at = after_one at
after_fours prims.Byte at = after_one at
after_fours prims.Int8 at = after_one at
after_fours prims.Uint8 at = after_one at
after_fours prims.Int16 at = after_two at
after_fours prims.Uint16 at = after_two at
after_fours prims.Int32 at = after_four at
after_fours prims.Uint32 at = after_four at
after_fours prims.Int64 at = after_four at
after_fours prims.Uint64 at = after_four at
after_fours prims.Float32 at = after_four at
after_fours prims.Float64 at = after_four at
after_fours prims.Char8 at = after_one at

after_eights : (p : Primitive) (at : ℕ) → padding (min (size p) 8) (at + padding (min (size p) 8) at) ≡ 0
after_eights prims.Boolean at = after_one at
after_eights prims.Byte at = after_one at
after_eights prims.Int8 at = after_one at
after_eights prims.Uint8 at = after_one at
after_eights prims.Int16 at = after_two at
after_eights prims.Uint16 at = after_two at
after_eights prims.Int32 at = after_four at
after_eights prims.Uint32 at = after_four at
after_eights prims.Int64 at = after_eight at
after_eights prims.Uint64 at = after_eight at
after_eights prims.Float32 at = after_four at
after_eights prims.Float64 at = after_eight at
after_eights prims.Char8 at = after_one at

pub aligned_after : (r : Rep) (p : Primitive) (at : ℕ) → padding (min (size p) (most r)) (at + padding (min (size p) (most r)) at) ≡ 0
aligned_after Xcdr1 p at = after_eights p at
aligned_after Xcdr2 p at = after_fours p at

-- ---- how many fit

pub size_some : (p : Primitive) → 0 < size p
size_some prims.Boolean = omega arith
size_some prims.Byte = omega arith
size_some prims.Int8 = omega arith
size_some prims.Uint8 = omega arith
size_some prims.Int16 = omega arith
size_some prims.Uint16 = omega arith
size_some prims.Int32 = omega arith
size_some prims.Uint32 = omega arith
size_some prims.Int64 = omega arith
size_some prims.Uint64 = omega arith
size_some prims.Float32 = omega arith
size_some prims.Float64 = omega arith
size_some prims.Char8 = omega arith

pub quotient_fits : (left size m : ℕ) → 0 < size → m ≤ left / size → m * size ≤ left
quotient_fits left size m some le = omega (arith, mul-le-mul_right size le, div-mul-le_self left size)
