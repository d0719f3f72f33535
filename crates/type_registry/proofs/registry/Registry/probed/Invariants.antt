use Rattle.std.proofs.Common.{◌≡◌, ◌-◌}
use Rattle.type_registry.proofs.registry.Registry.probed.Given as goal

abbrev pub invariant-probes : goal.invariant-probes
invariant-probes g l = (l.path.registry ≡ l.self) × (l.path.id ≡ l.id)

abbrev pub decreases-probes : goal.decreases-probes
decreases-probes g l = 64 - l.path.count
