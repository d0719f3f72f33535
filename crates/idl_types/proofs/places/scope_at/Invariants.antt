use Rattle.std.proofs.Common.{◌≡◌, map, length, Some}
use Rattle.idl_types.specs.Names.{scope_at}
use Rattle.idl_types.proofs.places.scope_at.Given as goal

abbrev pub invariant-loop-path : goal.invariant-loop-path
invariant-loop-path l = scope_at l.names (map (λ s. s.now) l.initial.path) (Some l.scope) ≡ scope_at l.names (map (λ s. s.now) l.path) (Some l.at)

abbrev pub decreases-loop-path : goal.decreases-loop-path
decreases-loop-path l = length l.path
