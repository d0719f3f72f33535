-- A sample that is written as it is.
use Rattle.std.proofs.Common.{◌≡◌, refl, true}
use Rattle.xt_io.specs.declared.Kind.{Kind}
use Rattle.xt_io.specs.declared.Kind.TheVariants.{Object, Sample, Idl, Json, Note}
use Rattle.xt_io.specs.Bundles.{limit_of}
use Rattle.tool_runs.specs.output.Outputs.{same_kind}

-- a sample has at most so many octets
pub sample_limit : (kind : Kind) → same_kind kind Sample ≡ true → limit_of kind ≡ 1048576
sample_limit Object e = absurd cc
sample_limit Sample e = refl
sample_limit Idl e = absurd cc
sample_limit Json e = absurd cc
sample_limit Note e = absurd cc
