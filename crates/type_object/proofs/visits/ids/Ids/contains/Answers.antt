use Rattle.std.proofs.Common.{◌∙◌}
use Rattle.type_object.proofs.OfVisits.Among.{contained}
use Rattle.type_object.proofs.visits.ids.Ids.contains.Goals as goal

pub returns : goal.returns
returns c = c.contains.ensures ∙ contained c.args.id.now _ _ c.self.view_is
