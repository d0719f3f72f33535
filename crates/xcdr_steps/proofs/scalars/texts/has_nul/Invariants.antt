use Rattle.std.proofs.Common.{◌≡◌, drop}
use Rattle.std.specs.Prelude.{◌==◌}
use Rattle.xt_shapes.specs.Lists.{has}
use Rattle.xcdr_steps.proofs.scalars.texts.has_nul.Given as goal

abbrev pub invariant-loop-octet : goal.invariant-loop-octet
invariant-loop-octet l = has (λ b. b == 0) (drop l.octet-index l.octets) ≡ has (λ b. b == 0) l.octets
