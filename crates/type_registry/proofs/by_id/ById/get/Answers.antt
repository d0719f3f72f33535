use Rattle.std.proofs.Common.{◌∙◌}
use Rattle.type_registry.proofs.Keyed.{value_at}
use Rattle.type_registry.proofs.by_id.ById.get.Goals as goal

pub returns : goal.returns
returns g c = c.get.ensures.value ∙ value_at c.args.id.now _ _ c.self.view_is
