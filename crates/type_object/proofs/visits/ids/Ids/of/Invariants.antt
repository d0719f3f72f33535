use Rattle.std.proofs.Common.{drop}
use Rattle.type_object.proofs.OfVisits.Among.{Holds}
use Rattle.type_object.proofs.visits.ids.Ids.of.Given as goal

abbrev pub invariant-ids : goal.invariant-ids
invariant-ids l = Holds l.set l.ids (drop l.id-index l.ids)
