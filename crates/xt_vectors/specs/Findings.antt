-- What is found of a pair: whether the reader's type is assignable from the writer's under the standard policy (DDS-XTypes 1.3, 7.2.4),
-- and on Yes what the value's projection is; its sample is in little-endian order (7.4 and 7.6.3.1.2).
use Rattle.std.specs.Prelude.{ℕ, List, [], Some, None}
use Rattle.xt_shapes.specs.declared.leaves.Order.TheVariants.{Little}
use Rattle.type_trees.specs.Bridge.{shape}
use Rattle.xcdr_model.specs.Failure.{First, first_failure}
use Rattle.xcdr_model.specs.Policies.{standard}
use Rattle.xcdr_model.specs.Samples.{Outcome, sample, discarded, must_understand, projection}
use Rattle.xcdr_model.specs.SampleSpelling.{fixed_sample}
use Rattle.xt_vectors.specs.declared.findings.Finding.{Finding}
use Rattle.xt_vectors.specs.declared.findings.Finding.TheVariants.{No, Read, Discarded, MustUnderstand}
use Rattle.xt_vectors.specs.Pairs.{Posed}

abbrev pub verdict : Posed → First
verdict p = first_failure standard p.rep (shape p.reader) (shape p.writer)

abbrev pub spelled : Posed → List ℕ
spelled p = fixed_sample p.rep Little (shape p.writer) p.value

abbrev pub of_outcome : Outcome → Finding
of_outcome (sample v) = Read
of_outcome discarded = Discarded
of_outcome must_understand = MustUnderstand

-- what the value is to the reader
abbrev pub projected : Posed → Outcome
projected p = projection (shape p.reader) (shape p.writer) p.value

-- the finding, and the sample where one is written
abbrev pub found_after : Posed → First → Finding × List ℕ
found_after p None = (of_outcome (projected p), spelled p)
found_after p (Some failure) = (No, [])

unfoldable pub found : Posed → Finding × List ℕ
found p = found_after p (verdict p)
