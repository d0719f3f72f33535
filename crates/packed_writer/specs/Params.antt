-- Headers of parameters in XCDR1 (DDS-XTypes 1.3, 7.4.1.2), behind their padding, whose length is still to be told.
use Rattle.std.specs.Prelude.{ℕ, Bool}
use Rattle.xt_shapes.specs.declared.leaves.Order.TheVariants.{Little}
use Rattle.xcdr_model.specs.FixedSpelling.{Fixed, then_fixed}
use Rattle.xt_wire.specs.writer.Writing.{padding_fixed}
use Rattle.xcdr_writer.specs.Parts.{short_header, long_header}

abbrev pub short_begun : Bool → ℕ → Fixed
short_begun must id = then_fixed (padding_fixed 4) (λ p. short_header Little must id 0)

abbrev pub long_begun : Bool → ℕ → Fixed
long_begun must id = then_fixed (padding_fixed 4) (λ p. long_header Little must id 0)
