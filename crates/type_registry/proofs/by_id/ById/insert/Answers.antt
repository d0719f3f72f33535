use Rattle.type_registry.proofs.Keyed.{inserted}
use Rattle.type_registry.proofs.by_id.ById.insert.Goals as goal

pub returns-clause-ok : goal.returns-clause-ok
returns-clause-ok g c = inserted c.self.inside.entries c.args.id c.args.value _ _ c.in_ok-insert.ensures.entries c.self.view_is c.requires
