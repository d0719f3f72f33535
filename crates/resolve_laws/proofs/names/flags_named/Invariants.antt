use Rattle.std.proofs.Common.{◌≡◌, drop}
use Rattle.xt_shapes.specs.Lists.{all}
use Rattle.resolve_laws.specs.Named.{is_full}
use Rattle.resolve_laws.proofs.names.flags_named.Given as goal

abbrev pub invariant-loop-flag : goal.invariant-loop-flag
invariant-loop-flag l = all (λ f. is_full f.name) (drop l.flag-index l.flags) ≡ all (λ f. is_full f.name) l.flags
