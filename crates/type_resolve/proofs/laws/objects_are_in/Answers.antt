use Rattle.type_resolve.proofs.Present.{objects_are_in}
use Rattle.type_resolve.proofs.laws.objects_are_in.Goals as goal

pub returns : goal.returns
returns c = objects_are_in
