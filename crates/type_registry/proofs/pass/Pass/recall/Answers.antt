use Rattle.type_registry.proofs.Passing.{recalled}
use Rattle.type_registry.proofs.pass.Pass.recall.Goals as goal

pub returns-in-Some-clause-found : goal.returns-in-Some-clause-found
returns-in-Some-clause-found g c = recalled g.N.Naming.name _ _ c.args.id.now _ _ c.self.view_is c.self.invariant c.again.ensures c.in-Some.ensures
