use Rattle.std.proofs.Common.{◌≡◌, ◌-◌, map}
use Rattle.type_registry.specs.Found.{held_of}
use Rattle.type_registry.specs.Passed.{now_of}
use Rattle.type_registry.proofs.registry.Registry.settle.Given as goal

abbrev pub invariant-probes : goal.invariant-probes
invariant-probes g l = record {
  registry : l.path.registry ≡ l.self;
  id : l.path.id ≡ l.id;
  seen : map now_of l.seen.items ≡ map held_of l.path.cells;
}

abbrev pub decreases-probes : goal.decreases-probes
decreases-probes g l = 64 - l.path.count
