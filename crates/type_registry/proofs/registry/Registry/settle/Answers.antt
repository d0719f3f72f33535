use Rattle.std.proofs.Common.{◌≤◌, arith}
use Rattle.type_registry.proofs.Consistency.{settled_full}
use Rattle.type_registry.proofs.registry.Registry.settle.Goals as goal

pub returns : goal.returns
returns g c = let many : 64 ≤ c.probes.path.count = omega (arith, c.probes-test.false, c.count.ensures.count) in
    settled_full g.N.Naming.name c.probes.path c.of-2.result c.args.self.now c.args.id c.count.ensures.path many c.of-2.ensures c.probes.invariant.registry c.probes.invariant.id
