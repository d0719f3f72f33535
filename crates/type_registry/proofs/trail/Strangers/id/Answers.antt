use Rattle.std.proofs.Common.{subst}
use Rattle.type_registry.specs.Passed.{IsFull}
use Rattle.type_registry.proofs.Consistency.{full_is}
use Rattle.type_registry.proofs.trail.Strangers.id.Goals as goal

pub returns-clause-full : goal.returns-clause-full
returns-clause-full g c = subst (IsFull g.N.Naming.name) c.self.view_is (full_is g.N.Naming.name c.self.inside.path c.count-path.ensures.path c.self.invariant)
