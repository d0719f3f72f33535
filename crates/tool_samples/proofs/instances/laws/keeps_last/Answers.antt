use Rattle.tool_samples.proofs.OfInstances.Kept.{the_last_are_kept}
use Rattle.tool_samples.proofs.instances.laws.keeps_last.Goals as goal

pub returns : goal.returns
returns c = the_last_are_kept c.keeps_last.ensures
