use Rattle.resolve_laws.proofs.WellFormed.{objects_are_well_formed}
use Rattle.resolve_laws.proofs.laws.objects_are_well_formed.Goals as goal

pub returns : goal.returns
returns c = objects_are_well_formed
