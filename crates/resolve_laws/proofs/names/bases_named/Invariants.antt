use Rattle.std.proofs.Common.{◌≡◌, drop}
use Rattle.xt_shapes.specs.Lists.{all}
use Rattle.object_formats.specs.Tables.{has_name}
use Rattle.resolve_laws.proofs.names.bases_named.Given as goal

abbrev pub invariant-loop-base : goal.invariant-loop-base
invariant-loop-base l = all (λ b. has_name b.name) (drop l.base-index l.bases) ≡ all (λ b. has_name b.name) l.bases
