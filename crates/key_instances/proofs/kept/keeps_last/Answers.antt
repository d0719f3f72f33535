use Rattle.key_instances.proofs.OfKept.Steps.{keeps_last}
use Rattle.key_instances.proofs.kept.keeps_last.Goals as goal

pub returns : goal.returns
returns c = keeps_last
