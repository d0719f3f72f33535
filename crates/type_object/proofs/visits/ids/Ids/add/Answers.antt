use Rattle.type_object.proofs.OfVisits.Among.{added}
use Rattle.type_object.proofs.visits.ids.Ids.add.Goals as goal

pub returns-clause-ok : goal.returns-clause-ok
returns-clause-ok c = added c.args.id c.self.inside.keys.keys _ _ c.in_ok-insert.ensures.keys c.self.view_is c.requires
