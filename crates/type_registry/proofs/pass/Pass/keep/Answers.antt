use Rattle.type_registry.proofs.Passing.{learns_at, not_there, pass_at}
use Rattle.type_registry.proofs.pass.Pass.keep.Goals as goal

pub insert-requires : goal.insert-requires
insert-requires g c = not_there _ _ c.id-id.result c.self.view_is c.in_default.ensures.found

pub invariant_of-self-2 : goal.invariant_of-self-2
invariant_of-self-2 g c = pass_at g.N.Naming.name _ _ c.id-id.result c.again.result _ _ c.self.view_is c.in_ok-insert.ensures.ok c.again.ensures c.id-id.ensures.id c.self.invariant c.requires c.id-id.ensures.sound

pub returns-clause-ok : goal.returns-clause-ok
returns-clause-ok g c = learns_at _ _ c.id-id.result c.again.result c.args.finding.now _ c.self.view_is c.in_ok-insert.ensures.ok c.again.ensures c.id-id.ensures.id c.in_default.ensures.found

pub returns-clause-pass : goal.returns-clause-pass
returns-clause-pass g c = pass_at g.N.Naming.name _ _ c.id-id.result c.again.result _ _ c.self.view_is c.in_ok-insert.ensures.ok c.again.ensures c.id-id.ensures.id c.self.invariant c.requires c.id-id.ensures.sound
