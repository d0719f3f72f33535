-- A whole sample in a region (DDS-XTypes 1.3, 7.6.3.1.2).
use Rattle.xt_shapes.specs.declared.leaves.Order.{Order}
use Rattle.xt_shapes.specs.declared.leaves.Rep.{Rep}
use Rattle.xt_shapes.specs.Shape.{Shape}
use Rattle.xcdr_model.specs.Reading.{Spot, Reading}
use Rattle.xcdr_model.specs.Samples.{Outcome, read_sample}
use Rattle.xcdr_samples.specs.frames.Frames.{over_region}

-- The sample is all of the region's octets; its places are counted from the first of them.
abbrev pub sample_outcome : Rep → Shape → Order → Spot → Reading Outcome
sample_outcome r t o s = over_region s (read_sample r t s.rest)
