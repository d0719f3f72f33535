use Rattle.resolve_laws.proofs.WellFormed.{resolves_to_itself}
use Rattle.resolve_laws.proofs.laws.resolves_to_itself.Goals as goal

pub returns : goal.returns
returns c = resolves_to_itself
